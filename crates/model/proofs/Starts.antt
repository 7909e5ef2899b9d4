-- At the estimates turn k of a task ends by k times the sum of all times: the run that repeats the first turns, each turn that sum later
-- than the one before, is allowed, and the earliest run is nowhere later.
use mathlib.Core.Path.{◌≡◌, sym, subst}
use mathlib.Core.Logic.{◌⊎◌, inl, inr}
use mathlib.Core.List.{List}
use Prim.Native.Nat.{ℕ, suc, ◌+◌, ◌-◌, ◌*◌, ◌≤◌, ◌<◌}
use native.Mathlib.Nat.{le_refl, mul-le-mul_right, suc-mul}
use native.Mathlib.Omega.{arith}
use Rattle.model.specs.Lists.{sum_below}
use Rattle.model.specs.Tasks.{Edge, ◌∈◌, Ends}
use Rattle.model.specs.Paths.{NoZeroCycle}
use Rattle.model.specs.Runs.{Times, ends, Keeps, Allows, estimates}
use Rattle.model.specs.Compute.{earliest, latency}
use Rattle.model.proofs.Basics.{order}
use Rattle.model.proofs.Walks.{walk-start-below}
use Rattle.model.proofs.Bounds.{zero-sum-bound}
use Rattle.model.proofs.Earliest.{earliest-keeps, earliest-run}
use Rattle.model.proofs.Latency.{latency_is}

module _ {n : ℕ} {es : List Edge} (bounds : Ends n es) (acyclic : NoZeroCycle es) (time : ℕ → ℕ) (long : (v : ℕ) → v < n → 1 ≤ time v) where
  first : ℕ → ℕ
  first v = earliest n es (estimates time) v 1

  first_ends : (v : ℕ) → v < n → first v + time v ≤ sum_below n time
  unfolding first latency
  first_ends v l =
      let r = (latency_is n es bounds acyclic time v).reached in
      subst (λ (x : ℕ). x ≤ sum_below n time) r.3 (zero-sum-bound n es bounds acyclic time r.0 v r.1 (walk-start-below bounds l r.2.0) r.2)

  -- the first turns, repeated
  repeated : Times
  repeated v k = (k - 1) * sum_below n time + first v

  repeated-allowed : (K : ℕ) → Allows n es K repeated (estimates time)
  unfolding repeated first
  repeated-allowed K = record { positive = λ v k l h h'. long v l; keeps = kept }
    where
      sum : ℕ
      sum = sum_below n time

      kept : (e : Edge) → e ∈ es → Keeps K repeated (estimates time) e
      kept e m k l h = go (order e.delay 0)
        where
          go : (e.delay ≤ 0) ⊎ (0 < e.delay) → (k - e.delay - 1) * sum + first e.source + time e.source ≤ (k - 1) * sum + first e.sink
          go (inl z) =
              let same : k - e.delay - 1 ≡ k - 1 = omega arith in
              let now : 1 - e.delay ≡ 1 = omega arith in
              let waits : first e.source + time e.source ≤ first e.sink =
              subst (λ (j : ℕ). ends (earliest n es (estimates time)) (estimates time) e.source j ≤ first e.sink) now
              (earliest-keeps bounds acyclic 1 (estimates time) e m 1 (omega arith) (le_refl 1))
              in
              subst (λ (j : ℕ). j * sum + first e.source + time e.source ≤ (k - 1) * sum + first e.sink) (sym same) (omega arith)
          go (inr p) =
              let one = first_ends e.source (bounds e m).0 in
              let next : suc (k - e.delay - 1) ≤ k - 1 = omega arith in
              let wide = mul-le-mul_right sum next in
              let open-suc = suc-mul (k - e.delay - 1) sum in
              omega arith

  pub start-bound : (v k : ℕ) → v < n → 1 ≤ k → ends (earliest n es (estimates time)) (estimates time) v k ≤ k * sum_below n time
  unfolding repeated
  start-bound v k l h =
      let early = (earliest-run bounds acyclic k (estimates time) (λ u j i i' i''. long u i)).least repeated (repeated-allowed k) v k l h (le_refl k) in
      let one = first_ends v l in
      let whole : suc (k - 1) ≡ k = omega arith in
      let open-suc = suc-mul (k - 1) (sum_below n time) in
      subst (λ (j : ℕ). ends (earliest n es (estimates time)) (estimates time) v k ≤ j * sum_below n time) whole (omega arith)
