-- Latency is the end of the output's first turn in the earliest run at the estimates, and bounds it whenever no first turn exceeds its
-- estimate (000, Theorem 2). Along a delay-0 walk starts grow by the times; and each start of a first turn is 0 or reached by such a walk.
use mathlib.Core.Path.{◌≡◌, refl, sym, ap, ◌∙◌, subst}
use mathlib.Core.Logic.{◌⊎◌, inl, inr}
use mathlib.Core.List.{List, [], ◌∷◌, ◌++◌}
use Prim.Native.Nat.{ℕ, zero, suc, ◌+◌, ◌-◌, ◌*◌, ◌≤◌, ◌<◌}
use native.Mathlib.Nat.{le_refl, le_trans, le_antisymm}
use native.Mathlib.Omega.{arith}
use lib.Dec.{T}
use Rattle.model.specs.Lists.{keep, biggest}
use Rattle.model.specs.Tasks.{Edge, ◌∈◌, Ends}
use Rattle.model.specs.Paths.{total, Walk, stop, step, ZeroWalk, times_along, Latency}
use Rattle.model.specs.Runs.{Times, ends, Earliest, estimates}
use Rattle.model.specs.Compute.{binds, due, begin, earliest, latency}
use Rattle.model.specs.Theorems.{LatencyIs}
use Rattle.model.proofs.Basics.{keep_out, biggest-above, biggest-below, biggest-reached}
use Rattle.model.proofs.Walks.{total-append, walk-snoc}
use Rattle.model.proofs.Earliest.{binds-out, earliest-keeps, earliest-run, run-shorter, run-acyclic, earliest-unique}

-- ── The meaning ──

times_snoc : (time : ℕ → ℕ) (a : ℕ) (p : List Edge) (e : Edge) → times_along time a (p ++ (e ∷ [])) ≡ times_along time a p + time e.sink
unfolding times_along
times_snoc time a [] e = refl
times_snoc time a (f ∷ p) e = let h = times_snoc time f.sink p e in omega arith

-- a walk of delay 0 to v whose times add up to x
unfoldable pub Reached : List Edge → (ℕ → ℕ) → ℕ → ℕ → Type 0
Reached es time v x = (a : ℕ) × (p : List Edge) × ZeroWalk es a p v × (times_along time a p ≡ x)

pub extend : {es : List Edge} (time : ℕ → ℕ) {v : ℕ} (x : ℕ) (e : Edge) → e ∈ es → e.sink ≡ v → e.delay ≡ 0 → Reached es time e.source x → Reached es time v (x + time v)
unfolding Reached total
extend time x e m s z r =
    let sum = r.3 in
    let zero-before = r.2.1 in
    let append = total-append r.1 (e ∷ []) in
    let along = times_snoc time r.0 r.1 e in
    let last = ap time s in
    (r.0, r.1 ++ (e ∷ []), (walk-snoc r.2.0 m refl s, omega arith), omega arith)

-- each first turn's end is the sum along a walk of delay 0
begin-reached : (es : List Edge) (time : ℕ → ℕ) (f v : ℕ) → Reached es time v (begin es (estimates time) f v 1 + time v)
unfolding Reached begin total times_along
begin-reached es time zero v = (v, [], (stop refl, refl), omega arith)
begin-reached es time (suc f) v = go (biggest-reached (due (begin es (estimates time) f) (estimates time) 1) (keep (binds v 1) es)) (λ u. begin-reached es time f u)
  where
    largest : ℕ
    largest = biggest (due (begin es (estimates time) f) (estimates time) 1) (keep (binds v 1) es)

    go : (largest ≡ 0) ⊎ ((e : Edge) × e ∈ keep (binds v 1) es × (due (begin es (estimates time) f) (estimates time) 1 e ≡ largest)) →
        ((u : ℕ) → Reached es time u (begin es (estimates time) f u 1 + time u)) → Reached es time v (largest + time v)
    go (inl z) ih = (v, [], (stop refl, refl), omega arith)
    go (inr x) ih = take-edge x.0 (keep_out (binds v 1) es x.1) x.2
      where
        take-edge : (e : Edge) → e ∈ es × T (binds v 1 e) → due (begin es (estimates time) f) (estimates time) 1 e ≡ largest → Reached es time v (largest + time v)
        take-edge e m q =
            let b = binds-out v 1 e m.1 in
            let l = b.1 in
            let now : 1 - e.delay ≡ 1 = omega arith in
            let value = ap (λ (k : ℕ). begin es (estimates time) f e.source k + time e.source) (sym now) ∙ q in
            subst (λ (y : ℕ). Reached es time v (y + time v)) value (extend time (begin es (estimates time) f e.source 1 + time e.source) e m.0 b.0 (omega arith) (ih e.source))

-- Latency, computed, is the latency of document 01.
pub latency_is : LatencyIs
unfolding latency Reached total times_along
latency_is n es bounds acyclic time output =
    record {
      reached = begin-reached es time (suc n * 2) output;
      largest = λ a p w. let h = along w.0 w.1 in omega arith;
    }
  where
    start : ℕ → ℕ
    start v = earliest n es (estimates time) v 1

    along : {v : ℕ} {p : List Edge} → Walk es v p output → total p ≡ 0 → start v + times_along time v p ≤ start output + time output
    along (stop q) z = let same = ap start q in let same' = ap time q in omega arith
    along (step {e = e} {p = p} m s w) z =
        let none : e.delay ≡ 0 = omega arith in
        let now : 1 - e.delay ≡ 1 = omega arith in
        let waits : start e.source + time e.source ≤ start e.sink =
        subst (λ (k : ℕ). ends (earliest n es (estimates time)) (estimates time) e.source k ≤ start e.sink) now
        (earliest-keeps bounds acyclic 1 (estimates time) e m 1 (omega arith) (le_refl 1))
        in
        let rest = along w (omega arith) in
        let same = ap start s in
        let same' = ap time s in
        omega arith

pub latency-unique : {es : List Edge} {time : ℕ → ℕ} {output l l' : ℕ} → Latency es time output l → Latency es time output l' → l ≡ l'
latency-unique {es} {time} {output} {l} {l'} h k = le_antisymm (below l l' h k) (below l' l k h)
  where
    below : (x y : ℕ) → Latency es time output x → Latency es time output y → x ≤ y
    below x y h k = let r = h.reached in subst (λ (z : ℕ). z ≤ y) r.3 (k.largest r.0 r.1 r.2)

-- ── The first output ──

-- a first turn starts no later where no first turn takes longer
first-earlier : {n : ℕ} {es : List Edge} → Ends n es → (dur dur' : Times) → ((v : ℕ) → v < n → dur v 1 ≤ dur' v 1) → (f v : ℕ) → begin es dur f v 1 ≤ begin es dur' f v 1
unfolding begin
first-earlier bounds dur dur' shorter zero v = omega arith
first-earlier {n} {es} bounds dur dur' shorter (suc f) v =
    biggest-below (due (begin es dur f) dur 1) (keep (binds v 1) es) (λ e m. bound e m (first-earlier bounds dur dur' shorter f e.source))
  where
    bound : (e : Edge) → e ∈ keep (binds v 1) es → begin es dur f e.source 1 ≤ begin es dur' f e.source 1 →
        due (begin es dur f) dur 1 e ≤ biggest (due (begin es dur' f) dur' 1) (keep (binds v 1) es)
    bound e m ih =
        let r = keep_out (binds v 1) es m in
        let b = binds-out v 1 e r.1 in
        let l = b.1 in
        let now : 1 - e.delay ≡ 1 = omega arith in
        let time = shorter e.source (bounds e r.0).0 in
        let both : ends (begin es dur f) dur e.source 1 ≤ ends (begin es dur' f) dur' e.source 1 = omega arith in
        le_trans (subst (λ (k : ℕ). ends (begin es dur f) dur e.source k ≤ ends (begin es dur' f) dur' e.source k) (sym now) both) (biggest-above (due (begin es dur' f) dur' 1) m)

-- "its output's first turn ends by the" latency, "whatever later turns take, if tasks start as early as allowed and no first turn exceeds its estimate"
pub first-output : {n : ℕ} {es : List Edge} → Ends n es → {K : ℕ} {start dur : Times} (time : ℕ → ℕ) (output l : ℕ) → 1 ≤ K → output < n →
    Earliest n es K start dur → ((v : ℕ) → v < n → dur v 1 ≤ time v) → Latency es time output l → ends start dur output 1 ≤ l
unfolding latency earliest
first-output {n} {es} bounds {K} {start} {dur} time output l h o run shorter lat =
    let acyclic = run-acyclic bounds (run-shorter 1 h run.allowed) in
    let begins = run.least (earliest n es dur) (earliest-run bounds acyclic K dur run.allowed.positive).allowed output 1 o (le_refl 1) h in
    let earlier = first-earlier bounds dur (estimates time) shorter (suc n * 2) output in
    let takes = shorter output o in
    let value = latency-unique (latency_is n es bounds acyclic time output) lat in
    omega arith

-- at the estimates it ends exactly then
pub first-output-exact : {n : ℕ} {es : List Edge} → Ends n es → {K : ℕ} {start : Times} (time : ℕ → ℕ) (output : ℕ) → 1 ≤ K → output < n →
    Earliest n es K start (estimates time) → Latency es time output (ends start (estimates time) output 1)
unfolding latency
first-output-exact {n} {es} bounds {K} {start} time output h o run =
    let acyclic = run-acyclic bounds (run-shorter 1 h run.allowed) in
    let begins = earliest-unique (earliest-run bounds acyclic K (estimates time) run.allowed.positive) run output 1 o (le_refl 1) h in
    subst (λ (x : ℕ). Latency es time output (x + time output)) begins (latency_is n es bounds acyclic time output)
