-- The lent list after a call: what was written, then what the list held past it, or the list as it was. So it keeps its length and all that stands past
-- the written part.
use mathlib.Core.Path.{◌≡◌, ap, ◌∙◌}
use mathlib.Core.Logic.{◌⊎◌, inl, inr, ◌≢◌}
use mathlib.Core.List.{List, ◌++◌}
use Prim.Native.Nat.{ℕ, ◌+◌, ◌-◌, ◌≤◌, ◌<◌}
use native.Mathlib.Omega.{arith}
use lib.ListN.{length, get_or, drop, length-append, length-drop, get_or-append}
use lib.Seq.{get_or-append-add, get_or-drop}
use Rattle.files.specs.Refusals.{if_passed}
use Rattle.files.proofs.First.{zero_or_not, if-passed, if-refused}

-- a list lent to a call that answers n, and writes k elements if n is 0
module _ {A : Type 0} (missing : A) (n k : ℕ) (written lent : List A) (long : length written ≡ k) where
  as_long : k ≤ length lent → length (written ++ drop k lent) ≡ length lent
  as_long room =
      let both = length-append written (drop k lent) in
      let rest = length-drop k lent in
      omega arith

  past-it : (i : ℕ) → k ≤ i → get_or (written ++ drop k lent) i missing ≡ get_or lent i missing
  past-it i past =
      let at : i ≡ length written + (i - k) = omega arith in
      let back : k + (i - k) ≡ i = omega arith in
      ap (λ (j : ℕ). get_or (written ++ drop k lent) j missing) at ∙
      (get_or-append-add written (drop k lent) (i - k) missing ∙ (get_or-drop k lent (i - k) missing ∙ ap (λ (j : ℕ). get_or lent j missing) back))

  pub kept-past :
      (n ≡ 0 → k ≤ length lent) →
      (length (if_passed n (written ++ drop k lent) lent) ≡ length lent) ×
      ((i : ℕ) → k ≤ i → get_or (if_passed n (written ++ drop k lent) lent) i missing ≡ get_or lent i missing)
  kept-past room = go (zero_or_not n)
    where
      go : (n ≡ 0) ⊎ (n ≢ 0) →
          (length (if_passed n (written ++ drop k lent) lent) ≡ length lent) ×
          ((i : ℕ) → k ≤ i → get_or (if_passed n (written ++ drop k lent) lent) i missing ≡ get_or lent i missing)
      go (inl none) =
          let is = if-passed n (written ++ drop k lent) lent none in
          (ap length is ∙ as_long (room none), λ i past. ap (λ (xs : List A). get_or xs i missing) is ∙ past-it i past)
      go (inr some) =
          let is = if-refused n (written ++ drop k lent) lent some in
          (ap length is, λ i past. ap (λ (xs : List A). get_or xs i missing) is)

  pub written_at : n ≡ 0 → (i : ℕ) → i < k → get_or (if_passed n (written ++ drop k lent) lent) i missing ≡ get_or written i missing
  written_at none i before =
      let inside : i < length written = omega arith in
      ap (λ (xs : List A). get_or xs i missing) (if-passed n (written ++ drop k lent) lent none) ∙
      get_or-append written (drop k lent) missing i inside
