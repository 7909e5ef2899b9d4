-- Walks, paths and cycles: how they are joined, cut and carried from one edge list to another. By induction on the walk.
use mathlib.Core.Path.{◌≡◌, refl, sym, ap, ◌∙◌, subst}
use mathlib.Core.Logic.{◌⊎◌, inl, inr}
use mathlib.Core.List.Memᴰ.{head as here}
use mathlib.Core.List.Memᴰ.{tail as there}
use mathlib.Core.List.{List, [], ◌∷◌, ◌++◌}
use Prim.Native.Nat.{ℕ, ◌+◌, ◌<◌}
use native.Mathlib.Nat.{add-zero, zero-add}
use native.Mathlib.Omega.{arith}
use Rattle.model.specs.Tasks.{Edge, ◌∈◌, Ends}
use Rattle.model.specs.Paths.{total, Walk, stop, step, Path, Cycle, cycle, OnCycle}

-- edges are equal by source, sink and delay
pub edge-equal : {x e : Edge} → x.source ≡ e.source → x.sink ≡ e.sink → x.delay ≡ e.delay → x ≡ e
edge-equal p q r = λ i. record { source = p i; sink = q i; delay = r i }

pub total-append : (p q : List Edge) → total (p ++ q) ≡ total p + total q
unfolding total
total-append [] q = sym (zero-add (total q))
total-append (e ∷ p) q = let h = total-append p q in omega arith

module _ {es : List Edge} where
  pub walk_from : {a a' b : ℕ} {p : List Edge} → a ≡ a' → Walk es a' p b → Walk es a p b
  walk_from {b = b} {p = p} q w = subst (λ (x : ℕ). Walk es x p b) (sym q) w

  pub walk-append : {a b c : ℕ} {p q : List Edge} → Walk es a p b → Walk es b q c → Walk es a (p ++ q) c
  walk-append (stop r) w = walk_from r w
  walk-append (step m s v) w = step m s (walk-append v w)

  -- a walk with one edge more at its end
  pub walk-snoc : {a b c : ℕ} {p : List Edge} {e : Edge} → Walk es a p b → e ∈ es → e.source ≡ b → e.sink ≡ c → Walk es a (p ++ (e ∷ [])) c
  walk-snoc w m s t = walk-append w (step m s (stop t))

  pub path-edge : {e : Edge} → e ∈ es → Path es e.source e.sink e.delay
  unfolding total
  path-edge {e} m = record { first = e; rest = []; walk = step m refl (stop refl); sum = add-zero e.delay }

  -- a walk stays where it is, or is a path
  pub walk-path : {a b : ℕ} {p : List Edge} → Walk es a p b → ((a ≡ b) × (total p ≡ 0)) ⊎ Path es a b (total p)
  unfolding total
  walk-path (stop q) = inl (q, refl)
  walk-path (step {e = e} {p = p} m s w) = inr (record { first = e; rest = p; walk = step m s w; sum = refl })

  pub path-then-walk : {a b c d : ℕ} {q : List Edge} → Path es a b d → Walk es b q c → Path es a c (d + total q)
  unfolding total
  path-then-walk {q = q} r w =
      let h = r.sum in
      let k = total-append r.rest q in
      record { first = r.first; rest = r.rest ++ q; walk = walk-append r.walk w; sum = omega arith }

  pub path-append : {a b c d d' : ℕ} → Path es a b d → Path es b c d' → Path es a c (d + d')
  path-append {a} {c = c} {d = d} r s = subst (λ (x : ℕ). Path es a c (d + x)) s.sum (path-then-walk r s.walk)

  pub path-delay : {a b d d' : ℕ} → d ≡ d' → Path es a b d → Path es a b d'
  path-delay {a} {b} q r = subst (λ (x : ℕ). Path es a b x) q r

  pub path-ends : {a a' b b' d : ℕ} → a ≡ a' → b ≡ b' → Path es a b d → Path es a' b' d
  path-ends {a' = a'} {b = b} {d = d} q r h = subst (λ (x : ℕ). Path es a' x d) r (subst (λ (x : ℕ). Path es x b d) q h)

  -- ── Ends ──

  pub walk-end-below : {n : ℕ} → Ends n es → {a b : ℕ} {p : List Edge} → a < n → Walk es a p b → b < n
  walk-end-below {n} ends l (stop q) = subst (λ (x : ℕ). x < n) q l
  walk-end-below ends l (step {e = e} m s w) = walk-end-below ends (ends e m).1 w

  pub walk-start-below : {n : ℕ} → Ends n es → {a b : ℕ} {p : List Edge} → b < n → Walk es a p b → a < n
  walk-start-below {n} ends l (stop q) = subst (λ (x : ℕ). x < n) (sym q) l
  walk-start-below {n} ends l (step {e = e} m s w) = subst (λ (x : ℕ). x < n) s (ends e m).0

  pub path-start-below : {n : ℕ} → Ends n es → {a b d : ℕ} → Path es a b d → a < n
  path-start-below {n} ends {b = b} r = go r.walk
    where
      go : {a : ℕ} {e : Edge} {p : List Edge} → Walk es a (e ∷ p) b → a < n
      go (step {e = e} m s w) = subst (λ (x : ℕ). x < n) s (ends e m).0

  -- ── Cycles ──

  -- cut a walk at one of its edges
  pub walk_split : {a b : ℕ} {p : List Edge} {e : Edge} → Walk es a p b → e ∈ p →
      (e ∈ es) × (before : List Edge) × (after : List Edge) × Walk es a before e.source × Walk es e.sink after b ×
      (total p ≡ total before + (e.delay + total after))
  unfolding total
  walk_split {e = e} (stop {a = a} {b = b} _) x6 = elim x6 [ ]
  walk_split {b = b} {e = e} (step {e = x} {p = p} m s w) (here q) = (
    subst (λ (y : Edge). y ∈ es) (sym q) m,
    [],
    p,
    stop (sym s ∙ ap {B = ℕ} (λ (y : Edge). y.source) (sym q)),
    subst (λ (y : Edge). Walk es y.sink p b) (sym q) w,
    let d = ap {B = ℕ} (λ (y : Edge). y.delay) q in omega arith,
  )
  walk_split (step {e = x} m s w) (there k) = let r = walk_split w k in let sum = r.5 in (r.0, x ∷ r.1, r.2, step m s r.3, r.4, omega arith)

  -- an edge lies on a cycle exactly if a path leads from its sink back to its source
  pub cycle-back : {e : Edge} → OnCycle es e → (e ∈ es) × (d : ℕ) × Path es e.sink e.source d
  cycle-back {e} c = go c.1 c.2
    where
      back : {a : ℕ} {p : List Edge} → Walk es a p a → e ∈ p → (e ∈ es) × (d : ℕ) × Path es e.sink e.source d
      back w k = let r = walk_split w k in finish _ r.0 (walk-path (walk-append r.4 r.3))
        where
          finish : (d : ℕ) → e ∈ es → ((e.sink ≡ e.source) × (d ≡ 0)) ⊎ Path es e.sink e.source d → (e ∈ es) × (d : ℕ) × Path es e.sink e.source d
          finish d m (inl h) = (m, e.delay, path-ends (sym h.0) h.0 (path-edge m))
          finish d m (inr r) = (m, d, r)

      go : {p : List Edge} → Cycle es p → e ∈ p → (e ∈ es) × (d : ℕ) × Path es e.sink e.source d
      go (cycle w) k = back w k

  pub back-cycle : {e : Edge} {d : ℕ} → e ∈ es → Path es e.sink e.source d → OnCycle es e
  back-cycle {e} m r = (e ∷ (r.first ∷ r.rest), cycle (step m refl r.walk), here refl)

  -- a path from a task to itself is a cycle
  pub path-cycle : {a d : ℕ} → Path es a a d → (p : List Edge) × Cycle es p × (total p ≡ d)
  path-cycle r = (r.first ∷ r.rest, cycle r.walk, r.sum)

  pub cycle-path : {p : List Edge} → Cycle es p → (a : ℕ) × Path es a a (total p)
  cycle-path (cycle {a = a} {e = e} {p = p} w) = (a, record { first = e; rest = p; walk = w; sum = refl })

-- ── From one edge list to another ──

-- the same edges in another list
pub walk-re-base : {es rs : List Edge} {a b : ℕ} {p : List Edge} → ((e : Edge) → e ∈ p → e ∈ es → e ∈ rs) → Walk es a p b → Walk rs a p b
walk-re-base h (stop q) = stop q
walk-re-base h (step {e = e} m s w) = step (h e (here refl) m) s (walk-re-base (λ f k. h f (there k)) w)

pub path-re-base : {es rs : List Edge} {a b d : ℕ} → ((e : Edge) → e ∈ es → e ∈ rs) → Path es a b d → Path rs a b d
path-re-base h r = record { first = r.first; rest = r.rest; walk = walk-re-base (λ e k m. h e m) r.walk; sum = r.sum }
