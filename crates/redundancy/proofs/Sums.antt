-- The least of sums of two rows' entries: of none yet, and of one more.
use mathlib.Core.Path.{◌≡◌, subst}
use mathlib.Core.Logic.{◌⊎◌, inl, inr}
use mathlib.Core.List.{List}
use Prim.Native.Nat.{ℕ, ◌+◌, ◌≤◌, ◌<◌, min}
use native.Mathlib.Omega.{arith}
use Rattle.model.proofs.Basics.{order}
use Rattle.redundancy.specs.Redundancy.{sum_at, LeastSum}

module _ {table : List ℕ} {from : ℕ} {last : List ℕ} {to : ℕ} where
  pub sum-none : LeastSum table from last to 0 16383
  sum-none = record { small = omega arith; low = λ u l. absurd (omega arith); reached = λ l. absurd (omega arith) }

  pub sum_more : {k r next : ℕ} → LeastSum table from last to k r → next ≡ min r (sum_at table from last to k) → LeastSum table from last to (k + 1) next
  sum_more {k} {r} {next} done is = record {
    small = omega (arith, is, done.small);
    low = λ u l. low u l (order k u);
    reached = λ l. reached l (order r (sum_at table from last to k));
  }
    where
      low : (u : ℕ) → u < k + 1 → (k ≤ u) ⊎ (u < k) → next ≤ sum_at table from last to u
      low u l (inr earlier) = omega (arith, is, done.low u earlier)
      low u l (inl at_most) =
          let same : k ≡ u = omega arith in
          subst (λ (x : ℕ). next ≤ sum_at table from last to x) same (omega (arith, is))

      reached : next < 16383 → (r ≤ sum_at table from last to k) ⊎ (sum_at table from last to k < r) → (u : ℕ) × (u < k + 1) × (next ≡ sum_at table from last to u)
      reached l (inr less) = (k, omega arith, omega (arith, is, less))
      reached l (inl few) =
          let old = done.reached (omega (arith, is, few, l)) in
          (old.0, omega (arith, old.1), omega (arith, is, few, old.2))
