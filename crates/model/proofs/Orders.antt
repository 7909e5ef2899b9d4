-- A graph's runs keep the edges of another exactly if each has a path of at most its delay (000, Theorem 1, and its converse). Kept: chain
-- the path's edges, padded by the task's own cycle. Lost: a start does not depend on the duration of a turn from which no path of the
-- right delay leads to it, so one long turn, all others of one unit, breaks the edge.
use mathlib.Core.Path.{◌≡◌, refl, sym, ap, subst}
use mathlib.Core.Logic.{◌⊎◌, inl, inr, ◌↔◌}
use mathlib.Core.Bool.{Bool, ◌&&◌}
use mathlib.Core.List.Memᴰ.{head as here}
use mathlib.Core.List.Memᴰ.{tail as there}
use mathlib.Core.List.{List, [], ◌∷◌}
use Prim.Native.Nat.{ℕ, zero, suc, ◌+◌, ◌-◌, ◌*◌, ◌≤◌, ◌<◌}
use native.Mathlib.Nat.{le_refl, le_trans}
use native.Mathlib.Omega.{arith}
use lib.Dec.{T, not_T, eqb, eqb→eq, eqb_refl}
use Rattle.model.specs.Lists.{keep, biggest, counted}
use Rattle.model.specs.Tasks.{Edge, ◌∈◌, Ends}
use Rattle.model.specs.Paths.{Path, OrderHeld, AllHeld, SomeLost, NoZeroCycle, Serial}
use Rattle.model.specs.Runs.{Times, ends, Keeps, Allows, RunsAllowed, SomeRunBreaks}
use Rattle.model.specs.Compute.{binds, due, begin, earliest}
use Rattle.model.proofs.Basics.{is_false, is_true, keep_out, and_left, and_right, and_both, biggest-above, biggest-below}
use Rattle.model.proofs.Walks.{path-edge, path-append, path-delay, path-ends, path-start-below}
use Rattle.model.proofs.Tests.{held-path, path-held, order-holds, decided}
use Rattle.model.proofs.Earliest.{binds-out, path-kept, earliest-run}

-- ── Kept ──

-- a path with i turns of the first task's own cycle in front
padded : {n : ℕ} {rs : List Edge} → Serial n rs → {a b d : ℕ} → a < n → Path rs a b d → (i : ℕ) → Path rs a b (i + d)
padded serial l r zero = path-delay (omega arith) r
padded serial {a} l r (suc i) = path-delay (omega arith) (path-append (serial a l) (padded serial l r i))

-- a held order is a path of exactly the edge's delay
held-exactly : {n : ℕ} {rs : List Edge} → Ends n rs → Serial n rs → {e : Edge} → OrderHeld rs e → Path rs e.source e.sink e.delay
held-exactly bounds serial {e} h =
    let r = held-path h in
    let l = r.2 in
    path-delay (omega arith) (padded serial (path-start-below bounds r.1) r.1 (e.delay - r.0))

pub orders-kept : {n : ℕ} {es rs : List Edge} → Ends n rs → Serial n rs → AllHeld rs es → RunsAllowed n rs es
orders-kept bounds serial held K start dur run =
    record {
      positive = run.positive;
      keeps = λ e m k l h. path-kept run (held-exactly bounds serial (held e m)) (k - e.delay) k (omega arith) (omega arith) h;
    }

-- ── Lost ──

-- Turn k of b starts no later where only turn i of a takes longer, if no path of delay k - i leads from a to b.
pub not-later : {es : List Edge} {a i : ℕ} {dur dur' : Times} → ((v k : ℕ) → (v ≡ a → k ≡ i → ⊥) → dur' v k ≤ dur v k) →
    (f b k : ℕ) → ((d : ℕ) → i + d ≡ k → Path es a b d → ⊥) → begin es dur' f b k ≤ begin es dur f b k
unfolding begin
not-later same zero b k none = omega arith
not-later {es} {a} {i} {dur} {dur'} same (suc f) b k none =
    biggest-below (due (begin es dur' f) dur' k) (keep (binds b k) es) (λ e m. bound e m (λ j. not-later same f e.source j))
  where
    bound : (e : Edge) → e ∈ keep (binds b k) es →
        ((j : ℕ) → ((d : ℕ) → i + d ≡ j → Path es a e.source d → ⊥) → begin es dur' f e.source j ≤ begin es dur f e.source j) →
        due (begin es dur' f) dur' k e ≤ biggest (due (begin es dur f) dur k) (keep (binds b k) es)
    bound e m ih =
        let r = keep_out (binds b k) es m in
        let t = binds-out b k e r.1 in
        let l = t.1 in
        let start = ih (k - e.delay) (λ d q p. none (d + e.delay) (omega arith) (path-ends refl t.0 (path-append p (path-edge r.0)))) in
        let dura = same e.source (k - e.delay) (λ q q'. none e.delay (omega arith) (path-ends q t.0 (path-edge r.0))) in
        le_trans {m = due (begin es dur f) dur k e} (omega arith) (biggest-above (due (begin es dur f) dur k) m)

-- all durations 1, but that of turn i of a, which is x longer
overrun : ℕ → ℕ → ℕ → Times
overrun a i x v k = 1 + counted (eqb v a && eqb k i) x

overrun-there : (a i x : ℕ) → overrun a i x a i ≡ 1 + x
unfolding overrun counted
overrun-there a i x = ap (λ (b : Bool). 1 + counted b x) (is_true (eqb a a && eqb i i) (and_both (eqb a a) (eqb i i) (eqb_refl a) (eqb_refl i)))

overrun-elsewhere : (a i x v k : ℕ) → (v ≡ a → k ≡ i → ⊥) → overrun a i x v k ≡ 1
unfolding overrun counted
overrun-elsewhere a i x v k h = ap (λ (b : Bool). 1 + counted b x) (is_false (eqb v a && eqb k i) (not_T (eqb v a && eqb k i) away))
  where
    away : T (eqb v a && eqb k i) → ⊥
    away t = h (eqb→eq v a (and_left (eqb v a) (eqb k i) t)) (eqb→eq k i (and_right (eqb v a) (eqb k i) t))

overrun-positive : (a i x v k : ℕ) → 1 ≤ overrun a i x v k
unfolding overrun
overrun-positive a i x v k = omega arith

-- An edge whose order is lost has a run of its delay + 1 turns that the graph allows and that breaks it.
pub orders-lost : {n : ℕ} {rs : List Edge} → Ends n rs → NoZeroCycle rs → (e : Edge) → (OrderHeld rs e → ⊥) →
    (start : Times) × (dur : Times) × Allows n rs (suc e.delay) start dur × (Keeps (suc e.delay) start dur e → ⊥)
unfolding earliest
orders-lost {n} {rs} bounds acyclic e lost = (earliest n rs long, long, run, broken)
  where
    turn : ℕ
    turn = suc e.delay

    before : ℕ
    before = earliest n rs (λ v k. 1) e.sink turn

    long : Times
    long = overrun e.source 1 before

    run : Allows n rs turn (earliest n rs long) long
    run = (earliest-run bounds acyclic turn long (λ v k h l l'. overrun-positive e.source 1 before v k)).allowed

    same : (v k : ℕ) → (v ≡ e.source → k ≡ 1 → ⊥) → long v k ≤ 1
    same v k away = let q = overrun-elsewhere e.source 1 before v k away in omega arith

    no_path_back : (d : ℕ) → 1 + d ≡ turn → Path rs e.source e.sink d → ⊥
    no_path_back d q r = lost (path-held bounds e r (omega arith))

    unmoved : earliest n rs long e.sink turn ≤ before
    unmoved = not-later {dur = λ v k. 1} same (suc n * suc turn) e.sink turn no_path_back

    broken : Keeps turn (earliest n rs long) long e → ⊥
    broken kept =
        let first : turn - e.delay ≡ 1 = omega arith in
        let waits = subst (λ (x : ℕ). ends (earliest n rs long) long e.source x ≤ earliest n rs long e.sink turn) first (kept turn (omega arith) (le_refl turn)) in
        let took = overrun-there e.source 1 before in
        let still = unmoved in
        absurd (omega arith)

-- ── Both directions ──

-- every order is held, or one is lost
held-or-lost : {n : ℕ} {rs : List Edge} → Ends n rs → (es : List Edge) → AllHeld rs es ⊎ SomeLost rs es
held-or-lost bounds [] = inl (λ e m. elim m [ ])
held-or-lost {n} {rs} bounds (e ∷ es) = go (decided (order-holds bounds e)) (held-or-lost bounds es)
  where
    go : OrderHeld rs e ⊎ (OrderHeld rs e → ⊥) → AllHeld rs es ⊎ SomeLost rs es → AllHeld rs (e ∷ es) ⊎ SomeLost rs (e ∷ es)
    go (inr lost) r = inr (e, here refl, lost)
    go (inl h) (inr r) = inr (r.0, there r.1, r.2)
    go (inl h) (inl r) = inl all
      where
        all : AllHeld rs (e ∷ es)
        all f (here q) = subst (λ (x : Edge). OrderHeld rs x) (sym q) h
        all f (there m) = r f m

module _ {n : ℕ} {es rs : List Edge} (bounds : Ends n rs) (serial : Serial n rs) (acyclic : NoZeroCycle rs) where
  -- some order is lost exactly if some run that rs allows breaks es
  pub lost-iff : SomeLost rs es ↔ SomeRunBreaks n rs es
  lost-iff = (breaking, lost)
    where
      breaking : SomeLost rs es → SomeRunBreaks n rs es
      breaking x =
          let r = orders-lost bounds acyclic x.0 x.2 in
          (suc x.0.delay, r.0, r.1, r.2, λ run. r.3 (run.keeps x.0 x.1))

      lost : SomeRunBreaks n rs es → SomeLost rs es
      lost r = go (held-or-lost bounds es)
        where
          go : AllHeld rs es ⊎ SomeLost rs es → SomeLost rs es
          go (inl held) = absurd (r.4 (orders-kept bounds serial held r.0 r.1 r.2 r.3))
          go (inr x) = x

  -- all orders are held exactly if es allows every run that rs allows
  pub orders-iff : AllHeld rs es ↔ RunsAllowed n rs es
  orders-iff = (orders-kept bounds serial, λ allowed. go allowed (held-or-lost bounds es))
    where
      go : RunsAllowed n rs es → AllHeld rs es ⊎ SomeLost rs es → AllHeld rs es
      go allowed (inl held) = held
      go allowed (inr x) = let r = lost-iff.0 x in absurd (r.4 (allowed r.0 r.1 r.2 r.3))
