-- All redundant edges of a graph without zero-delay cycle and without equal edges can be dropped at once. A dropped edge is replaced by its
-- bypass, and the dropped edges of that by theirs: each edge of a bypass weighs less, where the weight of an edge is (n + 1) times its delay
-- plus the depth that it gains. Only an equal edge would weigh the same.
use mathlib.Core.Path.{◌≡◌, refl, sym, ap, subst}
use mathlib.Core.Logic.{◌⊎◌, inl, inr}
use mathlib.Core.Bool.{Bool, not}
use mathlib.Core.List.Memᴰ.{head as here}
use mathlib.Core.List.Memᴰ.{tail as there}
use mathlib.Core.List.{List, [], ◌∷◌}
use Prim.Native.Nat.{ℕ, zero, suc, ◌+◌, ◌*◌, ◌≤◌, ◌<◌}
use native.Mathlib.Nat.{le_refl, le_of_eq, le_trans, not-suc-le-zero, mul-le-mul_left, mul-suc, mul-add, zero-add}
use native.Mathlib.Omega.{arith}
use lib.Dec.{T}
use lib.ListN.{length, get_or}
use Rattle.model.specs.Lists.{without, keep_places}
use Rattle.model.specs.Tasks.{Edge, ◌∈◌, Ends, Distinct, no_edge}
use Rattle.model.specs.Processors.{processor_edges}
use Rattle.model.specs.Graph.{Graph, count, edges}
use Rattle.model.specs.Paths.{AllHeld, total, Walk, stop, step, Path, Redundant, edges_without, sync_at, NoZeroCycle}
use Rattle.model.specs.Proposals.{dropping}
use Rattle.model.proofs.Basics.{cases, order, member-place, place-member, places-in, places-out}
use Rattle.model.proofs.Walks.{edge-equal, path-edge, path-append, path-ends, walk_split, walk-re-base}
use Rattle.model.proofs.Tests.{held-path, path-held}
use Rattle.model.proofs.Earliest.{depth, depth-at-most, depth-rises}
use Rattle.model.proofs.Graphs.{edge-cases, processor-edge-in, sync-edge-in, graph-ends, without-cases, without_in}

-- ── Paths through edges that each have a path ──

-- rs has a path between the ends of e of at most its delay
abbrev Bypass : List Edge → Edge → Type 0
Bypass rs e = (d : ℕ) × Path rs e.source e.sink d × (d ≤ e.delay)

lift-walk : {es rs : List Edge} {a b : ℕ} {e : Edge} {p : List Edge} → ((f : Edge) → f ∈ (e ∷ p) → Bypass rs f) → Walk es a (e ∷ p) b →
    (d : ℕ) × Path rs a b d × (d ≤ total (e ∷ p))
unfolding total
lift-walk h (step {e = e} m s (stop q)) = let r = h e (here refl) in let l = r.2 in (r.0, path-ends s q r.1, omega arith)
lift-walk h (step {e = e} m s (step k t w)) =
    let r = h e (here refl) in
    let x = lift-walk (λ f i. h f (there i)) (step k t w) in
    let l = r.2 in
    let l' = x.2 in
    (r.0 + x.0, path-append (path-ends s refl r.1) x.1, omega arith)

-- ── Weights ──

module _ {n : ℕ} {es : List Edge} (bounds : Ends n es) (acyclic : NoZeroCycle es) where
  -- every edge has a weight of at least 1
  edge-weighs : (e : Edge) → e ∈ es → 1 + depth n es e.source ≤ suc n * e.delay + depth n es e.sink
  edge-weighs e m = go (order e.delay 0)
    where
      go : (e.delay ≤ 0) ⊎ (0 < e.delay) → 1 + depth n es e.source ≤ suc n * e.delay + depth n es e.sink
      go (inl z) = let rise = depth-rises bounds acyclic e m (omega arith) in omega arith
      go (inr p) = let small = depth-at-most n es e.source in let wide = mul-le-mul_left (suc n) p in let one = mul-suc (suc n) 0 in omega arith

  -- a walk weighs at least its number of edges
  walk-weighs : {a b : ℕ} {p : List Edge} → Walk es a p b → length p + depth n es a ≤ suc n * total p + depth n es b
  unfolding total
  walk-weighs (stop q) = let same = ap (depth n es) q in omega arith
  walk-weighs (step {e = e} {p = p} m s w) =
      let one = edge-weighs e m in
      let rest = walk-weighs w in
      let same = ap (depth n es) s in
      let sum = mul-add (suc n) e.delay (total p) in
      omega arith

  -- an edge of a walk weighs at most the walk less the number of the other edges
  edge-of-walk : {a b : ℕ} {p : List Edge} {f : Edge} → Walk es a p b → f ∈ p →
      suc n * f.delay + depth n es f.sink + length p + depth n es a ≤ suc n * total p + depth n es b + depth n es f.source + 1
  unfolding total
  edge-of-walk {f = f} (stop {a = a} {b = b} _) x6 = elim x6 [ ]
  edge-of-walk {f = f} (step {e = e} {p = p} m s w) (here q) =
      let rest = walk-weighs w in
      let same = ap (depth n es) s in
      let sum = mul-add (suc n) e.delay (total p) in
      let one = ap {B = ℕ} (λ (x : Edge). suc n * x.delay) q in
      let two = ap {B = ℕ} (λ (x : Edge). depth n es x.sink) q in
      let three = ap {B = ℕ} (λ (x : Edge). depth n es x.source) q in
      omega arith
  edge-of-walk {f = f} (step {e = e} {p = p} m s w) (there k) =
      let rest = edge-of-walk w k in
      let one = edge-weighs e m in
      let same = ap (depth n es) s in
      let sum = mul-add (suc n) e.delay (total p) in
      omega arith

-- ── Dropped together ──

-- no edge equals the one at place i, once that is taken out
distinct_without : (xs : List Edge) (i : ℕ) → Distinct xs → i < length xs → get_or xs i no_edge ∈ without i xs → ⊥
unfolding without
distinct_without [] i h l m = not-suc-le-zero l
distinct_without (x ∷ xs) zero h l m = h.0 m
distinct_without (x ∷ xs) (suc i) h l (here q) = h.0 (subst (λ (y : Edge). y ∈ xs) q (place-member xs i no_edge (omega arith)))
distinct_without (x ∷ xs) (suc i) h l (there m) = distinct_without xs i h.1 (omega arith) m

walk-member : {es : List Edge} {a b : ℕ} {p : List Edge} {f : Edge} → Walk es a p b → f ∈ p → f ∈ es
walk-member w k = (walk_split w k).0

dropping-processor : (g : Graph) (marked : ℕ → Bool) {e : Edge} → e ∈ processor_edges g.tasks → e ∈ edges (dropping g marked)
unfolding dropping
dropping-processor g marked m = processor-edge-in (dropping g marked) m

dropping-kept : (g : Graph) (marked : ℕ → Bool) (i : ℕ) → i < length g.syncs → T (not (marked i)) → sync_at g i ∈ edges (dropping g marked)
unfolding dropping sync_at
dropping-kept g marked i l t =
    sync-edge-in (dropping g marked)
    (places-in (λ j. not (marked j)) 0 g.syncs i no_edge l (subst (λ (j : ℕ). T (not (marked j))) (sym (zero-add i)) t))

pub dropping-in : (g : Graph) (marked : ℕ → Bool) {e : Edge} → e ∈ edges (dropping g marked) → e ∈ edges g
unfolding dropping
dropping-in g marked {e} m = go (edge-cases (dropping g marked) m)
  where
    go : e ∈ processor_edges g.tasks ⊎ e ∈ keep_places (λ j. not (marked j)) 0 g.syncs → e ∈ edges g
    go (inl k) = processor-edge-in g k
    go (inr k) = sync-edge-in g (places-out (λ j. not (marked j)) 0 g.syncs k)

module _ (g : Graph) (bounds : Ends (count g) g.syncs) (acyclic : NoZeroCycle (edges g)) (distinct : Distinct g.syncs)
    (marked : ℕ → Bool) (redundant : (i : ℕ) → i < length g.syncs → T (marked i) → Redundant g i) where
  -- weight of an edge below f, written without subtraction
  Lighter : Edge → ℕ → Type 0
  Lighter e f = suc (count g) * e.delay + depth (count g) (edges g) e.sink < f + depth (count g) (edges g) e.source

  -- the bypass of a marked edge, each of its edges replaced in turn
  detour : (f i : ℕ) (e : Edge) → Lighter e (suc f) → ((x : Edge) → x ∈ edges g → Lighter x f → Bypass (edges (dropping g marked)) x) →
      (e ∈ without i g.syncs → ⊥) → {x : Edge} {p : List Edge} → Walk (edges_without g i) e.source (x ∷ p) e.sink → total (x ∷ p) ≤ e.delay →
      Bypass (edges (dropping g marked)) e
  unfolding Lighter total
  detour f i e light ih fresh (step {e = x} m s (stop q)) l = go (order e.delay x.delay)
    where
      n : ℕ
      n = count g

      same : e.delay ≤ x.delay → e ∈ processor_edges g.tasks ⊎ e ∈ without i g.syncs
      same h = without-cases g i (subst (λ (y : Edge). y ∈ edges_without g i) (edge-equal s q (omega arith)) m)

      itself : e ∈ processor_edges g.tasks ⊎ e ∈ without i g.syncs → Bypass (edges (dropping g marked)) e
      itself (inl k) = (e.delay, path-edge (dropping-processor g marked k), le_refl e.delay)
      itself (inr k) = absurd (fresh k)

      go : (e.delay ≤ x.delay) ⊎ (x.delay < e.delay) → Bypass (edges (dropping g marked)) e
      go (inl h) = itself (same h)
      go (inr h) =
          let wide = mul-le-mul_left (suc n) h in
          let open-suc = mul-suc (suc n) x.delay in
          let from = ap (depth n (edges g)) s in
          let to = ap (depth n (edges g)) q in
          let r = ih x (without_in g i m) (omega arith) in
          let k = r.2 in
          (r.0, path-ends s q r.1, omega arith)
  detour f i e light ih fresh (step {e = x} m s (step {e = y} {p = p} k t w)) l =
      let whole = step m s (step k t w) in
      let based = walk-re-base (λ z h. without_in g i) whole in
      let r = lift-walk (λ z h. ih z (without_in g i (walk-member whole h)) (lighter z (edge-of-walk (graph-ends g bounds) acyclic based h))) whole in
      (r.0, r.1, le_trans r.2 l)
    where
      n : ℕ
      n = count g

      lighter : (z : Edge) → suc n * z.delay + depth n (edges g) z.sink + length (x ∷ y ∷ p) + depth n (edges g) e.source ≤
          suc n * total (x ∷ y ∷ p) + depth n (edges g) e.sink + depth n (edges g) z.source + 1 → Lighter z f
      lighter z h = let wide = mul-le-mul_left (suc n) l in omega arith

  bypass : (f : ℕ) (e : Edge) → e ∈ edges g → Lighter e f → Bypass (edges (dropping g marked)) e
  unfolding Lighter sync_at
  bypass zero e m light = let weighs = edge-weighs (graph-ends g bounds) acyclic e m in absurd (omega arith)
  bypass (suc f) e m light = go (edge-cases g m) (λ x k l. bypass f x k l)
    where
      rs : List Edge
      rs = edges (dropping g marked)

      itself : e ∈ rs → Bypass rs e
      itself k = (e.delay, path-edge k, le_refl e.delay)

      go : e ∈ processor_edges g.tasks ⊎ e ∈ g.syncs → ((x : Edge) → x ∈ edges g → Lighter x f → Bypass rs x) → Bypass rs e
      go (inl k) ih = itself (dropping-processor g marked k)
      go (inr k) ih = let r = member-place no_edge k in at_place r.0 r.1 r.2 (cases (marked r.0))
        where
          at_place : (i : ℕ) → i < length g.syncs → get_or g.syncs i no_edge ≡ e → T (marked i) ⊎ T (not (marked i)) → Bypass rs e
          at_place i l q (inr t) = itself (subst (λ (y : Edge). y ∈ rs) q (dropping-kept g marked i l t))
          at_place i l q (inl t) =
              let h = subst (λ (y : Edge). Bypass (edges_without g i) y) q (held-path (redundant i l t).1) in
              let fresh : e ∈ without i g.syncs → ⊥ =
              λ k'. distinct_without g.syncs i distinct l (subst (λ (y : Edge). y ∈ without i g.syncs) (sym q) k')
              in
              detour f i e light ih fresh h.1.walk (le_trans (le_of_eq h.1.sum) h.2)

  -- Whatever redundant edges are marked, dropping them all at once holds every order.
  pub dropped-together : AllHeld (edges (dropping g marked)) (edges g)
  unfolding Lighter dropping
  dropped-together e m =
      let n = count g in
      let r = bypass (suc (suc n * e.delay + depth n (edges g) e.sink)) e m (omega arith) in
      path-held (λ f k. graph-ends g bounds f (dropping-in g marked k)) e r.1 r.2
