-- Bounds on least delays and on sums of times. A path is shortened by cutting out what stands before the last visit of a task, so that the
-- tasks it may still pass become fewer; times along a delay-0 walk are summed over the tasks reached, which become fewer at each step.
use mathlib.Core.Path.{◌≡◌, refl, subst}
use mathlib.Core.Logic.{◌⊎◌, inl, inr}
use mathlib.Core.Bool.{Bool, not, ◌&&◌}
use mathlib.Core.List.{List, [], ◌∷◌}
use Prim.Native.Nat.{ℕ, zero, suc, ◌+◌, ◌*◌, ◌≤◌, ◌<◌}
use native.Mathlib.Nat.{le_refl, le_trans, not-suc-le-zero, mul-suc, mul-le-mul_left}
use native.Mathlib.Omega.{arith}
use lib.Dec.{T, T_not, not_T, eqb, eqb→eq, eqb_refl}
use lib.ListN.{length}
use Rattle.model.specs.Lists.{sum_over, always, sum_below}
use Rattle.model.specs.Tasks.{Edge, ◌∈◌, Ends}
use Rattle.model.specs.Paths.{total, Walk, stop, step, Path, smallest, times_along}
use Rattle.model.specs.Compute.{zero_path}
use Rattle.model.specs.Theorems.{LeastBound, ZeroSumBound}
use Rattle.model.proofs.Basics.{cases, and_left, and_right, and_both, sum_more, sum_ones}
use Rattle.model.proofs.Walks.{path-edge, path-append, path-delay, path-ends, path-start-below, path-cycle}
use Rattle.model.proofs.Tests.{zero-path, decides-true}

-- ── Paths with few inner tasks ──

-- The edge e, then the edges p, lead from a to b, and every task between the two, each sink but the last, passes the test.
data Through (es : List Edge) (t : ℕ → Bool) : ℕ → Edge → List Edge → ℕ → Type 0 where
  one : {a b : ℕ} {e : Edge} → e ∈ es → e.source ≡ a → e.sink ≡ b → Through es t a e [] b
  more : {a b : ℕ} {e f : Edge} {p : List Edge} → e ∈ es → e.source ≡ a → T (t e.sink) → Through es t e.sink f p b → Through es t a e (f ∷ p) b

-- such a path of delay at most d
abbrev ThroughWithin : List Edge → (ℕ → Bool) → ℕ → ℕ → ℕ → Type 0
ThroughWithin es t a b d = (e : Edge) × (p : List Edge) × Through es t a e p b × (total (e ∷ p) ≤ d)

-- a path of delay at most d with at most l edges
abbrev Short : List Edge → ℕ → ℕ → ℕ → ℕ → Type 0
Short es a b d l = (p : List Edge) × (e : Edge) × Walk es a (e ∷ p) b × (total (e ∷ p) ≤ d) × (length (e ∷ p) ≤ l)

-- those that pass the test, but not x
unfoldable minus : (ℕ → Bool) → ℕ → ℕ → Bool
minus t x v = t v && not (eqb v x)

-- how many tasks below n pass the test
abbrev size : ℕ → (ℕ → Bool) → ℕ
size n t = sum_over n t (λ v. 1)

size-minus : (n : ℕ) (t : ℕ → Bool) (x : ℕ) → x < n → T (t x) → size n (minus t x) + 1 ≤ size n t
unfolding minus
size-minus n t x l h =
    sum_more n (minus t x) t (λ v. 1) (λ u k m. and_left (t u) (not (eqb u x)) m) x l
    (not_T (minus t x x) (λ m. T_not (eqb x x) (and_right (t x) (not (eqb x x)) m) (eqb_refl x))) h

module _ {es : List Edge} where
  -- any path, all tasks allowed
  walk_through : {a b : ℕ} {e : Edge} {p : List Edge} → Walk es a (e ∷ p) b → Through es always a e p b
  unfolding always
  walk_through (step m s (stop q)) = one m s q
  walk_through (step m s (step m' s' w)) = more m s tt (walk_through (step m' s' w))

  -- A path does not visit x in between, or what follows its last visit of x leads from x on.
  last-visit : {t : ℕ → Bool} (x : ℕ) {a b : ℕ} {e : Edge} {p : List Edge} → Through es t a e p b →
      Through es (minus t x) a e p b ⊎ ThroughWithin es (minus t x) x b (total (e ∷ p))
  unfolding total minus
  last-visit x (one m s q) = inl (one m s q)
  last-visit {t} x {a} {b} (more {e = e} {f = f} {p = p} m s h v) = go (last-visit x v) (cases (eqb e.sink x))
    where
      go : Through es (minus t x) e.sink f p b ⊎ ThroughWithin es (minus t x) x b (total (f ∷ p)) → T (eqb e.sink x) ⊎ T (not (eqb e.sink x)) →
          Through es (minus t x) a e (f ∷ p) b ⊎ ThroughWithin es (minus t x) x b (total (e ∷ f ∷ p))
      go (inr r) c = let l = r.3 in inr (r.0, r.1, r.2, omega arith)
      go (inl v') (inl q) = inr (f, p, subst (λ (y : ℕ). Through es (minus t x) y f p b) (eqb→eq e.sink x q) v', omega arith)
      go (inl v') (inr k) = inl (more m s (and_both (t e.sink) (not (eqb e.sink x)) h k) v')

  -- a path from x to b need not come back to x
  leave : {t : ℕ → Bool} {x b : ℕ} {e : Edge} {p : List Edge} → Through es t x e p b → ThroughWithin es (minus t x) x b (total (e ∷ p))
  leave {t} {x} {b} {e} {p} v = go (last-visit x v)
    where
      go : Through es (minus t x) x e p b ⊎ ThroughWithin es (minus t x) x b (total (e ∷ p)) → ThroughWithin es (minus t x) x b (total (e ∷ p))
      go (inl v') = (e, p, v', le_refl (total (e ∷ p)))
      go (inr r) = r

  -- fewer than c inner tasks allowed: at most c edges are needed
  shorten : {n : ℕ} → Ends n es → (c : ℕ) (t : ℕ → Bool) → size n t < c → {a b : ℕ} {e : Edge} {p : List Edge} → Through es t a e p b →
      Short es a b (total (e ∷ p)) c
  unfolding total
  shorten ends zero t h v = absurd (not-suc-le-zero h)
  shorten ends (suc c) t h (one {e = e} m s q) = ([], e, step m s (stop q), le_refl (total (e ∷ [])), omega arith)
  shorten {n} ends (suc c) t h {a} {b} (more {e = e} {f = f} {p = p} m s k v) =
      let l = size-minus n t e.sink (ends e m).1 k in
      let r = leave v in
      go r.3 (shorten ends c (minus t e.sink) (omega arith) r.2)
    where
      go : {d : ℕ} → d ≤ total (f ∷ p) → Short es e.sink b d c → Short es a b (total (e ∷ f ∷ p)) (suc c)
      go h' r = let i = r.3 in let j = r.4 in (r.1 ∷ r.0, e, step m s r.2, omega arith, omega arith)

-- Any path can be shortened to one of at most n edges with no larger delay.
pub short-path : (n : ℕ) (es : List Edge) → Ends n es → (a b d : ℕ) → Path es a b d →
    (p : List Edge) × (e : Edge) × Walk es a (e ∷ p) b × (total (e ∷ p) ≤ d) × (length (e ∷ p) ≤ n)
unfolding always
short-path n es ends a b d r =
    let fewer = size-minus n always a (path-start-below ends r) tt in
    let all = sum_ones n always in
    let v = leave (walk_through r.walk) in
    let s = shorten ends n (minus always a) (omega arith) v.2 in
    let k = r.sum in
    let h = v.3 in
    let i = s.3 in
    (s.0, s.1, s.2, omega arith, s.4)

-- a sum of delays is at most the largest delay times the number of edges
total-bound : {m : ℕ} {es : List Edge} → ((e : Edge) → e ∈ es → e.delay ≤ m) → {a b : ℕ} {p : List Edge} → Walk es a p b → total p ≤ m * length p
unfolding total
total-bound h (stop q) = omega arith
total-bound {m} h (step {e = e} {p = p} k s w) = let i = total-bound h w in let j = h e k in let q = mul-suc m (length p) in omega arith

-- A least delay is at most the largest delay of an edge times the number of tasks. (255 times the number of tasks, in a file.)
pub least-bound : LeastBound
least-bound n m es ends h a b d (smallest r below) =
    let s = short-path n es ends a b d r in
    le_trans (below (total (s.1 ∷ s.0)) (record { first = s.1; rest = s.0; walk = s.2; sum = refl }))
    (le_trans (total-bound h s.2) (mul-le-mul_left m s.4))

-- A sum of times along a delay-0 walk is at most the sum of all times, its tasks being different ones.
pub zero-sum-bound : ZeroSumBound
unfolding total times_along sum_below always
zero-sum-bound n es ends acyclic time a b p l w =
    let h = along w.0 w.1 in
    let k = sum_more n (zero_path n es a) always time (λ u i t. tt) a l (not_itself a) tt in
    omega arith
  where
    -- no task is reached from itself
    not_itself : (v : ℕ) → T (not (zero_path n es v v))
    not_itself v = not_T (zero_path n es v v) (λ t. acyclic (path-cycle ((zero-path ends v v).if_true t)))

    -- what is reached from an edge's sink is reached from its source
    reached : {v : ℕ} {e : Edge} → e ∈ es → e.source ≡ v → e.delay ≡ 0 → (u : ℕ) → T (zero_path n es e.sink u) → T (zero_path n es v u)
    reached {v} {e} m s d u t =
        let q : e.delay + 0 ≡ 0 = omega arith in
        decides-true (zero-path ends v u) (path-ends s refl (path-delay q (path-append (path-edge m) ((zero-path ends e.sink u).if_true t))))

    -- the time of v and those of all tasks reached from v bound the times along a walk from v
    along : {v u : ℕ} {q : List Edge} → Walk es v q u → total q ≡ 0 → times_along time v q ≤ time v + sum_over n (zero_path n es v) time
    along (stop r) d = omega arith
    along {v} (step {e = e} {p = q} m s w') d =
        let first : e.delay ≡ 0 = omega arith in
        let rest : total q ≡ 0 = omega arith in
        let i = along w' rest in
        let k =
        sum_more n (zero_path n es e.sink) (zero_path n es v) time (λ u l' t. reached m s first u t) e.sink (ends e m).1 (not_itself e.sink)
        (decides-true (zero-path ends v e.sink) (path-ends s refl (path-delay first (path-edge m))))
        in
        omega arith
