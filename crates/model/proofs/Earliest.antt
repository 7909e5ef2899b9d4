-- A graph never stalls exactly if it has no zero-delay cycle. The depth of a task, how many tasks have a delay-0 path to it, rises along
-- every delay-0 edge; so turn and depth together fall along every edge that binds a turn, and the executable starts are the earliest run.
use mathlib.Core.Path.{◌≡◌, refl, sym, subst}
use mathlib.Core.Logic.{◌⊎◌, inl, inr}
use mathlib.Core.List.{List, ◌∷◌}
use Prim.Native.Nat.{ℕ, zero, suc, ◌+◌, ◌-◌, ◌*◌, ◌≤◌, ◌<◌}
use native.Mathlib.Nat.{le_refl, le_trans, le_antisymm, not-suc-le-zero, mul-le-mul_left, mul-suc}
use native.Mathlib.Omega.{arith}
use lib.Dec.{T, not_T, eqb, eqb→eq, eqb_refl, ltb, ltb→lt, lt→ltb}
use Rattle.model.specs.Lists.{keep, biggest, sum_over}
use Rattle.model.specs.Tasks.{Edge, ◌∈◌, Ends}
use Rattle.model.specs.Paths.{total, Walk, stop, step, Path, NoZeroCycle}
use Rattle.model.specs.Runs.{Times, ends, AtLeastOne, Keeps, Allows, NeverStalls, Earliest}
use Rattle.model.specs.Compute.{zero_path, binds, due, begin, earliest}
use Rattle.model.specs.Theorems.{NeverStallsIff}
use Rattle.model.proofs.Basics.{order, keep-in, keep_out, and_left, and_right, and_both, biggest-above, biggest-below, sum_more, sum_ones}
use Rattle.model.proofs.Walks.{path-edge, path-append, path-delay, path-cycle, cycle-path, path-start-below}
use Rattle.model.proofs.Tests.{zero-path, decides-true}

-- ── Depth ──

-- how many tasks have a delay-0 path to v
unfoldable pub depth : ℕ → List Edge → ℕ → ℕ
depth n es v = sum_over n (λ u. zero_path n es u v) (λ u. 1)

pub depth-at-most : (n : ℕ) (es : List Edge) (v : ℕ) → depth n es v ≤ n
unfolding depth
depth-at-most n es v = sum_ones n (λ u. zero_path n es u v)

pub depth-rises : {n : ℕ} {es : List Edge} → Ends n es → NoZeroCycle es → (e : Edge) → e ∈ es → e.delay ≡ 0 → depth n es e.source < depth n es e.sink
unfolding depth
depth-rises {n} {es} bounds acyclic e m z =
    let s = e.source in
    let direct : Path es s e.sink 0 = path-delay z (path-edge m) in
    let more : sum_over n (λ u. zero_path n es u s) (λ u. 1) + 1 ≤ sum_over n (λ u. zero_path n es u e.sink) (λ u. 1) =
    sum_more n (λ u. zero_path n es u s) (λ u. zero_path n es u e.sink) (λ u. 1)
    (λ u l t. decides-true (zero-path bounds u e.sink) (path-append ((zero-path bounds u s).if_true t) direct))
    s (bounds e m).0 (not_T (zero_path n es s s) (λ t. acyclic (path-cycle ((zero-path bounds s s).if_true t)))) (decides-true (zero-path bounds s e.sink) direct)
    in
    omega arith

-- ── The earliest run ──

pub binds-out : (v k : ℕ) (e : Edge) → T (binds v k e) → (e.sink ≡ v) × (e.delay < k)
unfolding binds
binds-out v k e t = (eqb→eq e.sink v (and_left (eqb e.sink v) (ltb e.delay k) t), ltb→lt e.delay k (and_right (eqb e.sink v) (ltb e.delay k) t))

binds-in : (k : ℕ) (e : Edge) → e.delay < k → T (binds e.sink k e)
unfolding binds
binds-in k e l = and_both (eqb e.sink e.sink) (ltb e.delay k) (eqb_refl e.sink) (lt→ltb e.delay k l)

-- no allowed run starts a turn before the executable start, whatever the fuel
pub begin-least : {n : ℕ} {es : List Edge} {K : ℕ} {other dur : Times} → Allows n es K other dur → (f v k : ℕ) → 1 ≤ k → k ≤ K → begin es dur f v k ≤ other v k
unfolding begin
begin-least run zero v k h l = omega arith
begin-least {n} {es} {K} {other} {dur} run (suc f) v k h l =
    biggest-below (due (begin es dur f) dur k) (keep (binds v k) es)
    (λ e m. bound e (keep_out (binds v k) es m) (λ j. begin-least run f e.source j))
  where
    bound : (e : Edge) → e ∈ es × T (binds v k e) → ((j : ℕ) → 1 ≤ j → j ≤ K → begin es dur f e.source j ≤ other e.source j) →
        due (begin es dur f) dur k e ≤ other v k
    bound e m ih =
        let b = binds-out v k e m.1 in
        let d = b.1 in
        let i = ih (k - e.delay) (omega arith) (omega arith) in
        let kept = run.keeps e m.0 k (omega arith) l in
        le_trans (omega arith) (subst (λ (x : ℕ). due other dur k e ≤ other x k) b.0 kept)

module _ {n : ℕ} {es : List Edge} (bounds : Ends n es) (acyclic : NoZeroCycle es) where
  -- what falls along every edge that binds a turn
  rank : ℕ → ℕ → ℕ
  rank v k = suc n * k + depth n es v

  rank_falls : (e : Edge) → e ∈ es → (k : ℕ) → e.delay < k → rank e.source (k - e.delay) < rank e.sink k
  unfolding rank
  rank_falls e m k l = go (order e.delay 0)
    where
      go : (e.delay ≤ 0) ⊎ (0 < e.delay) → suc n * (k - e.delay) + depth n es e.source < suc n * k + depth n es e.sink
      go (inl z) =
          let z' : e.delay ≡ 0 = omega arith in
          let rise = depth-rises bounds acyclic e m z' in
          let same : k - e.delay ≡ k = omega arith in
          subst (λ (x : ℕ). suc n * x + depth n es e.source < suc n * k + depth n es e.sink) (sym same) (omega arith)
      go (inr p) =
          let small = depth-at-most n es e.source in
          let step_back : suc (k - e.delay) ≤ k = omega arith in
          let wide = mul-le-mul_left (suc n) step_back in
          let open-suc = mul-suc (suc n) (k - e.delay) in
          omega arith

  -- fuel above the rank is enough: more changes nothing
  begin-enough : (dur : Times) (f f' v k : ℕ) → rank v k < f' → begin es dur f v k ≤ begin es dur f' v k
  unfolding begin
  begin-enough dur zero f' v k h = omega arith
  begin-enough dur (suc f) zero v k h = absurd (not-suc-le-zero h)
  begin-enough dur (suc f) (suc f') v k h =
      biggest-below (due (begin es dur f) dur k) (keep (binds v k) es)
      (λ e m. bound e m (λ l. begin-enough dur f f' e.source (k - e.delay) l))
    where
      bound : (e : Edge) → e ∈ keep (binds v k) es → (rank e.source (k - e.delay) < f' → begin es dur f e.source (k - e.delay) ≤ begin es dur f' e.source (k - e.delay)) →
          due (begin es dur f) dur k e ≤
          biggest (due (begin es dur f') dur k) (keep (binds v k) es)
      bound e m ih =
          let r = keep_out (binds v k) es m in
          let b = binds-out v k e r.1 in
          let falls = subst (λ (x : ℕ). rank e.source (k - e.delay) < rank x k) b.0 (rank_falls e r.0 k b.1) in
          let i = ih (omega arith) in
          le_trans (omega arith) (biggest-above (due (begin es dur f') dur k) m)

  fuel-enough : (v k : ℕ) → rank v k < suc n * suc k
  unfolding rank
  fuel-enough v k = let small = depth-at-most n es v in let open-suc = mul-suc (suc n) k in omega arith

  -- the executable starts keep every edge
  pub earliest-keeps : (K : ℕ) (dur : Times) (e : Edge) → e ∈ es → Keeps K (earliest n es dur) dur e
  unfolding earliest
  earliest-keeps K dur e m k l h = go (suc n * suc k) (fuel-enough e.sink k)
    where
      go : (f : ℕ) → rank e.sink k < f → due (earliest n es dur) dur k e ≤ begin es dur f e.sink k
      go zero r = absurd (not-suc-le-zero r)
      go (suc f) r =
          let falls = rank_falls e m k l in
          let same = begin-enough dur (suc n * suc (k - e.delay)) f e.source (k - e.delay) (omega arith) in
          le_trans {m = due (begin es dur f) dur k e} (omega arith) (biggest-above (due (begin es dur f) dur k) (keep-in (binds e.sink k) m (binds-in k e l)))

  -- The executable starts are the earliest run, for every number of turns and all durations of at least one.
  pub earliest-run : (K : ℕ) (dur : Times) → AtLeastOne n K dur → Earliest n es K (earliest n es dur) dur
  unfolding earliest
  earliest-run K dur positive =
      record {
        allowed = record { positive = positive; keeps = λ e m. earliest-keeps K dur e m };
        least = λ other run v k l h h'. begin-least run (suc n * suc k) v k h h';
      }

  pub never_stalls : NeverStalls n es
  never_stalls K dur positive = (earliest n es dur, (earliest-run K dur positive).allowed)

-- ── What a zero-delay cycle does ──

module _ {n : ℕ} {es : List Edge} {K : ℕ} {start dur : Times} (run : Allows n es K start dur) where
  edge_kept : {a : ℕ} (e : Edge) → e ∈ es → e.source ≡ a → (j k : ℕ) → 1 ≤ j → j + e.delay ≡ k → k ≤ K → ends start dur a j ≤ start e.sink k
  edge_kept e m s j k h q l =
      let back : k - e.delay ≡ j = omega arith in
      subst (λ (x : ℕ). ends start dur x j ≤ start e.sink k) s
      (subst (λ (x : ℕ). ends start dur e.source x ≤ start e.sink k) back (run.keeps e m k (omega arith) l))

  -- along a walk, starts do not fall
  walk_kept : {a b : ℕ} {p : List Edge} → Walk es a p b → (j k : ℕ) → 1 ≤ j → j + total p ≡ k → k ≤ K → start a j ≤ start b k
  unfolding total
  walk_kept {b = b} (stop q) j k h r l =
      let same : j ≡ k = omega arith in
      subst (λ (x : ℕ). start x j ≤ start b k) (sym q) (subst (λ (x : ℕ). start b x ≤ start b k) (sym same) (le_refl (start b k)))
  walk_kept (step {e = e} {p = p} m s w) j k h r l =
      let one = edge_kept e m s j (j + e.delay) h refl (omega arith) in
      let rest = walk_kept w (j + e.delay) k (omega arith) (omega arith) l in
      omega arith

  -- along a path, the end of a turn is no later than the start that it leads to
  pub path-kept : {a b d : ℕ} → Path es a b d → (j k : ℕ) → 1 ≤ j → j + d ≡ k → k ≤ K → ends start dur a j ≤ start b k
  unfolding total
  path-kept {a} {b} {d} r j k h q l = go r.walk r.sum
    where
      go : {e : Edge} {p : List Edge} → Walk es a (e ∷ p) b → e.delay + total p ≡ d → ends start dur a j ≤ start b k
      go (step {e = e} m s w) t = le_trans (edge_kept e m s j (j + e.delay) h refl (omega arith)) (walk_kept w (j + e.delay) k (omega arith) (omega arith) l)

-- the first turns of a run are a run
pub run-shorter : {n : ℕ} {es : List Edge} {K : ℕ} {start dur : Times} (j : ℕ) → j ≤ K → Allows n es K start dur → Allows n es j start dur
run-shorter j h run =
    record { positive = λ v k l l' l''. run.positive v k l l' (le_trans l'' h); keeps = λ e m k l l'. run.keeps e m k l (le_trans l' h) }

-- A graph with a run of one turn, at durations of at least one, has no zero-delay cycle.
pub run-acyclic : {n : ℕ} {es : List Edge} → Ends n es → {start dur : Times} → Allows n es 1 start dur → NoZeroCycle es
run-acyclic bounds run c =
    let r = cycle-path c.1 in
    let round = path-kept run (path-delay c.2 r.1) 1 1 (le_refl 1) refl (le_refl 1) in
    let long = run.positive r.0 1 (path-start-below bounds r.1) (le_refl 1) (le_refl 1) in
    absurd (omega arith)

-- A graph never stalls exactly if it has no zero-delay cycle.
pub stalls-iff : NeverStallsIff
stalls-iff n es bounds =
    (λ runs. run-acyclic bounds (runs 1 (λ v k. 1) (λ v k h l l'. le_refl 1)).1, λ acyclic. never_stalls bounds acyclic)

-- ── What gives equations ──

-- there is one earliest run
pub earliest-unique : {n : ℕ} {es : List Edge} {K : ℕ} {start start' dur : Times} → Earliest n es K start dur → Earliest n es K start' dur →
    (v k : ℕ) → v < n → 1 ≤ k → k ≤ K → start v k ≡ start' v k
earliest-unique {start = start} {start' = start'} s t v k h l l' =
    le_antisymm (s.least start' t.allowed v k h l l') (t.least start s.allowed v k h l l')

-- starts that keep every edge and are nowhere above the earliest are the earliest
pub earliest-reached : {n : ℕ} {es : List Edge} {K : ℕ} {start dur : Times} → Allows n es K start dur →
    ((v k : ℕ) → v < n → 1 ≤ k → k ≤ K → start v k ≤ earliest n es dur v k) → (v k : ℕ) → v < n → 1 ≤ k → k ≤ K → start v k ≡ earliest n es dur v k
unfolding earliest
earliest-reached {n} run low v k h l l' = le_antisymm (low v k h l l') (begin-least run (suc n * suc k) v k l l')
