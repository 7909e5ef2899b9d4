-- Each test of Compute decides its meaning. From the least delay: it is at most a number exactly if some path's delay is.
use mathlib.Core.Path.{◌≡◌, refl, ap}
use mathlib.Core.Logic.{◌⊎◌, inl, inr}
use mathlib.Core.Bool.{Bool, true, false, not, ◌&&◌}
use mathlib.Core.List.Memᴰ
use mathlib.Core.List.Memᴰ.{head as here}
use mathlib.Core.List.{List, [], ◌∷◌}
use mathlib.Core.Option.{Option, some}
use Prim.Native.Nat.{ℕ, ◌≤◌, ◌<◌}
use native.Mathlib.Nat.{le_trans}
use native.Mathlib.Omega.{arith}
use lib.Dec.{T, T_not, not_T, eqb, eqb→eq, leb→le, le→leb, ltb, ltb→lt, lt→ltb}
use Rattle.model.specs.Lists.{keep, every, any_below}
use Rattle.model.specs.Tasks.{Edge, ◌∈◌, Ends}
use Rattle.model.specs.Paths.{Path, Least, smallest, no-path, OrderHeld, OnCycle, ZeroCycle, InputFree, Joined}
use Rattle.model.specs.Compute.{at_most, present, order_holds, on_cycle, zero_path, zero_cycle, into_at_once, non_empty, input_free, joined, same_edge, distinct}
use Rattle.model.specs.Theorems.{Decides, DistinctIs, InputFreeIs}
use Rattle.model.proofs.Basics.{cases, is_true, is_false, every_in, every-out, keep-in, keep_out, and_left, and_right, and_both, eq→eqb, any-in, any_out}
use Rattle.model.proofs.Walks.{edge-equal, path-delay, path-start-below, cycle-back, back-cycle, path-cycle, cycle-path}
use Rattle.model.proofs.Least.{least-delay}

-- ── Decisions ──

-- what decides a meaning decides it in both directions
pub decides-iff : {b : Bool} {p : Type 0} → (T b → p) → (p → T b) → Decides b p
decides-iff {b} f g = record { if_true = f; if_false = λ n x. T_not b n (g x) }

pub decides-true : {b : Bool} {p : Type 0} → Decides b p → p → T b
decides-true {b} {p} d x = go (cases b)
  where
    go : T b ⊎ T (not b) → T b
    go (inl t) = t
    go (inr n) = absurd (d.if_false n x)

pub decides_not : {b : Bool} {p : Type 0} → Decides b p → Decides (not b) (p → ⊥)
decides_not {b} d = decides-iff (λ n x. d.if_false n x) (λ f. not_T b (λ t. f (d.if_true t)))

-- a test that holds, or not, as an equation
pub decides-yes : {b : Bool} {p : Type 0} → Decides b p → p → b ≡ true
decides-yes {b} d h = is_true b (decides-true d h)

pub decides-no : {b : Bool} {p : Type 0} → Decides b p → (p → ⊥) → b ≡ false
decides-no {b} d h = is_false b (decides-true (decides_not d) h)

pub decides_and : {a b : Bool} {p q : Type 0} → Decides a p → Decides b q → Decides (a && b) (p × q)
decides_and {a} {b} c d =
    decides-iff (λ t. (c.if_true (and_left a b t), d.if_true (and_right a b t)))
    (λ x. and_both a b (decides-true c x.0) (decides-true d x.1))

-- a decided statement holds or does not
pub decided : {b : Bool} {p : Type 0} → Decides b p → p ⊎ (p → ⊥)
decided {b} {p} d = go (cases b)
  where
    go : T b ⊎ T (not b) → p ⊎ (p → ⊥)
    go (inl t) = inl (d.if_true t)
    go (inr n) = inr (d.if_false n)

pub eqb-decides : (a b : ℕ) → Decides (eqb a b) (a ≡ b)
eqb-decides a b = decides-iff (eqb→eq a b) eq→eqb

pub ltb-decides : (a b : ℕ) → Decides (ltb a b) (a < b)
ltb-decides a b = decides-iff (ltb→lt a b) (lt→ltb a b)

-- ── Equal edges ──

pub same-edge : (e f : Edge) → Decides (same_edge e f) (e ≡ f)
unfolding same_edge
same-edge e f = fields (decides_and (eqb-decides e.source f.source) (decides_and (eqb-decides e.sink f.sink) (eqb-decides e.delay f.delay)))
  where
    fields : {b : Bool} → Decides b ((e.source ≡ f.source) × ((e.sink ≡ f.sink) × (e.delay ≡ f.delay))) → Decides b (e ≡ f)
    fields d =
        decides-iff (λ t. let h = d.if_true t in edge-equal h.0 h.1.0 h.1.1)
        (λ q.
        decides-true d (
          ap {B = ℕ} (λ (x : Edge). x.source) q,
          (ap {B = ℕ} (λ (x : Edge). x.sink) q, ap {B = ℕ} (λ (x : Edge). x.delay) q),
        ))

pub distinct-decides : DistinctIs
unfolding distinct
distinct-decides [] = decides-iff (λ t. tt) (λ d. tt)
distinct-decides (e ∷ es) = decides_and {a = every other es} (decides-iff absent present-not) (distinct-decides es)
  where
    other : Edge → Bool
    other f = not (same_edge e f)

    absent : T (every other es) → e ∈ es → ⊥
    absent t m = (same-edge e e).if_false (every-out other t m) refl

    present-not : (e ∈ es → ⊥) → T (every other es)
    present-not h = every_in other es (λ f m. not_T (same_edge e f) (λ t. h (Memᴰ.cast ((same-edge e f).if_true t) m)))

-- ── Orders ──

held_of : {es : List Edge} {a b : ℕ} {o : Option ℕ} (k : ℕ) → Least es a b o → Decides (at_most o k) ((d : ℕ) × Least es a b (some d) × (d ≤ k))
unfolding at_most
held_of {es} {a} {b} k (smallest {d = d} r h) = decides-iff (λ t. (d, smallest r h, leb→le d k t)) (λ x. le→leb d k (smaller x.1 x.2))
  where
    smaller : {x : ℕ} → Least es a b (some x) → x ≤ k → d ≤ k
    smaller (smallest {d = x} q g) l = le_trans (h x q) l
held_of {es} {a} {b} k (no-path h) = decides-iff (λ t. absurd t) (λ x. absurd (none-at x.1))
  where
    none-at : {x : ℕ} → Least es a b (some x) → ⊥
    none-at (smallest {d = x} q g) = h x q

-- an order is held by the least delay, so exactly if some path's delay is at most the edge's
pub held-path : {es : List Edge} {e : Edge} → OrderHeld es e → (d : ℕ) × Path es e.source e.sink d × (d ≤ e.delay)
held-path {es} {e} h = go h.1 h.2
  where
    go : {d : ℕ} → Least es e.source e.sink (some d) → d ≤ e.delay → (d : ℕ) × Path es e.source e.sink d × (d ≤ e.delay)
    go (smallest {d = d} r k) l = (d, r, l)

module _ {n : ℕ} {es : List Edge} (ends : Ends n es) where
  pub path-held : {d : ℕ} (e : Edge) → Path es e.source e.sink d → d ≤ e.delay → OrderHeld es e
  path-held {d} e r l = go (least-delay n es ends e.source e.sink)
    where
      go : {o : Option ℕ} → Least es e.source e.sink o → OrderHeld es e
      go (smallest {d = x} q h) = (x, smallest q h, le_trans (h d r) l)
      go (no-path h) = absurd (h d r)

  pub order-holds : (e : Edge) → Decides (order_holds n es e) (OrderHeld es e)
  unfolding order_holds
  order-holds e = held_of e.delay (least-delay n es ends e.source e.sink)

  -- ── Paths of delay 0, cycles ──

  pub zero-path : (a b : ℕ) → Decides (zero_path n es a b) (Path es a b 0)
  unfolding zero_path
  zero-path a b = go (held_of 0 (least-delay n es ends a b))
    where
      path-of : {d : ℕ} → Least es a b (some d) → d ≤ 0 → Path es a b 0
      path-of (smallest {d = d} r h) l = path-delay (omega arith) r

      least-of : {o : Option ℕ} → Least es a b o → Path es a b 0 → (d : ℕ) × Least es a b (some d) × (d ≤ 0)
      least-of (smallest {d = d} r h) q = (d, smallest r h, h 0 q)
      least-of (no-path h) q = absurd (h 0 q)

      go : {b' : Bool} → Decides b' ((d : ℕ) × Least es a b (some d) × (d ≤ 0)) → Decides b' (Path es a b 0)
      go d = decides-iff (λ t. let x = d.if_true t in path-of x.1 x.2) (λ r. decides-true d (least-of (least-delay n es ends a b) r))

  pub on-cycle : (e : Edge) → e ∈ es → Decides (on_cycle n es e) (OnCycle es e)
  unfolding on_cycle
  on-cycle e m = go (least-delay n es ends e.sink e.source)
    where
      go : {o : Option ℕ} → Least es e.sink e.source o → Decides (present o) (OnCycle es e)
      go (smallest r h) = decides-iff (λ t. back-cycle m r) (λ c. tt)
      go (no-path h) = decides-iff (λ t. absurd t) (λ c. let r = cycle-back c in h r.1 r.2)

  pub zero-cycle : Decides (zero_cycle n es) (ZeroCycle es)
  unfolding zero_cycle
  zero-cycle = decides-iff to from
    where
      to : T (any_below n (λ v. zero_path n es v v)) → ZeroCycle es
      to t = let r = any_out n (λ v. zero_path n es v v) t in path-cycle ((zero-path r.0 r.0).if_true r.2)

      from : ZeroCycle es → T (any_below n (λ v. zero_path n es v v))
      from c =
          let r = cycle-path c.1 in
          any-in n (λ v. zero_path n es v v) r.0 (path-start-below ends r.1) (decides-true (zero-path r.0 r.0) (path-delay c.2 r.1))

  -- ── The latency input ──

  pub joined-by-path : (a b : ℕ) → Decides (joined n es a b) (Joined es a b)
  unfolding joined
  joined-by-path a b = decides_and (decides_not (eqb-decides a b)) (zero-path a b)

pub input-free : InputFreeIs
unfolding input_free
input-free es v = go (decides_not (some-decides (keep (into_at_once v) es)))
  where
    some-decides : (xs : List Edge) → Decides (non_empty xs) ((e : Edge) × e ∈ xs)
    some-decides [] = decides-iff (λ t. absurd t) (λ x. elim x.1 [ ])
    some-decides (e ∷ xs) = decides-iff (λ t. (e, here refl)) (λ x. tt)

    go : {b : Bool} → Decides b (((e : Edge) × e ∈ keep (into_at_once v) es) → ⊥) → Decides b (InputFree es v)
    go d =
        decides-iff (λ t e m s z. d.if_true t (e, keep-in (into_at_once v) m (and_both (eqb e.sink v) (eqb e.delay 0) (eq→eqb s) (eq→eqb z))))
        (λ f.
        decides-true d
        (λ x.
        let r = keep_out (into_at_once v) es x.1 in
        f x.0 r.0 (eqb→eq x.0.sink v (and_left (eqb x.0.sink v) (eqb x.0.delay 0) r.1))
        (eqb→eq x.0.delay 0 (and_right (eqb x.0.sink v) (eqb x.0.delay 0) r.1))))
