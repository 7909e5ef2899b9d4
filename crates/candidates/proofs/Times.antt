-- Times in units of a power of two: a row of them is filled from the front and stays so small that a signed test may compare its numbers. What is in
-- time is in time in units too, since units keep the order.
use mathlib.Core.Path.{◌≡◌, refl, sym, ◌∙◌, subst}
use mathlib.Core.Logic.{◌⊎◌, inl, inr}
use mathlib.Core.Bool.{Bool, true, false}
use mathlib.Core.List.{List}
use Prim.Native.Nat.{ℕ, ◌+◌, ◌/◌, ◌^◌, ◌≤◌, ◌<◌}
use native.Mathlib.Nat.{not-suc-le-zero}
use native.Mathlib.Omega.{arith}
use lib.Dec.{eqb}
use lib.ListN.{length, set, replicate, length-set, get_or-replicate}
use lib.Pow.{shr_mono}
use lib.Seq.{get_or-set_same, get_or-set_other}
use borrow.Author.Tests.{eqb-true, eqb-false}
use Rattle.model.proofs.Basics.{order}
use Rattle.records.specs.Columns.{at}
use Rattle.candidates.specs.Searches.{units_of, SmallRow, UnitRow}

pub zeros-small : SmallRow (replicate 64 0)
unfolding at
zeros-small b l = omega (arith, get_or-replicate {A = ℕ} 64 b 0 0 l)

module _ (times : List ℕ) (power : ℕ) where
  pub units-more :
      {k : ℕ} {row : List ℕ} (v : ℕ) → UnitRow times power k row → k < 64 → v ≡ units_of power (at times k) → UnitRow times power (k + 1) (set row k v)
  unfolding at
  units-more {k} {row} v done few is = record {
    size = length-set row k v ∙ done.size;
    small = λ b l. low b l (eqb b k) refl;
    each = λ b l. go b l (order k b);
  }
    where
      low : (b : ℕ) → b < 64 → (same : Bool) → eqb b k ≡ same → at (set row k v) b ≤ 32767
      low b l true q =
          subst (λ (x : ℕ). at (set row k v) x ≤ 32767) (sym (eqb-true b k q))
          (omega (arith, get_or-set_same row k v 0 (omega (arith, done.size)), is))
      low b l false q = omega (arith, get_or-set_other row k b v 0 (eqb-false b k q), done.small b l)

      go : (b : ℕ) → b < k + 1 → (k ≤ b) ⊎ (b < k) → at (set row k v) b ≡ units_of power (at times b)
      go b l (inl h) =
          let same : b ≡ k = omega arith in
          subst (λ (x : ℕ). at (set row k v) x ≡ units_of power (at times x)) (sym same)
          (get_or-set_same row k v 0 (omega (arith, done.size)) ∙ is)
      go b l (inr h) = get_or-set_other row k b v 0 (λ q. omega arith) ∙ done.each b h

-- units keep the order of times
pub units-kept : (power : ℕ) {x y : ℕ} → x ≤ y → units_of power x ≤ units_of power y
units-kept power {x} {y} l =
    let halves : x / 2 ^ power ≤ y / 2 ^ power = shr_mono power l in
    omega arith
