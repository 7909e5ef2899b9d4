-- A number below 2 ^ k is the number made of its k digits, the most significant first, so its ones are counted digit by digit; and the digit at a place of
-- a number that is made of digits is the one put there. By induction on k, halving at each step.
use mathlib.Core.Path.{◌≡◌, refl, sym, ap, ◌∙◌}
use mathlib.Core.Logic.{◌⊎◌, inl, inr}
use mathlib.Core.Bool.{Bool, true, false}
use Prim.Native.Nat.{ℕ, zero, suc, ◌+◌, ◌-◌, ◌*◌, ◌/◌, ◌%◌, ◌^◌, ◌≤◌, ◌<◌}
use native.Mathlib.Nat.{not-suc-le-zero, sub-zero, div-eq_of_lt, pow-suc}
use native.Mathlib.Omega.{arith}
use lib.Dec.{eqb}
use lib.Pow.{shr-shr}
use lib.Count.{ones, ones_step}
use Rattle.model.specs.Lists.{counted, sum_over}
use Rattle.model.proofs.Basics.{below_suc}
use Rattle.marks.specs.Marks.{number, bit_of, set_below}

-- digit j of k, digit 0 the most significant
unfoldable pub digit_at : ℕ → ℕ → ℕ → Bool
digit_at k x j = eqb (x / 2 ^ (k - suc j) % 2) 1

-- a digit counts itself
digit-counted : (d : ℕ) → d < 2 → counted (eqb d 1) 1 ≡ d
unfolding counted
digit-counted zero l = refl
digit-counted (suc zero) l = refl
digit-counted (suc (suc d)) l = absurd (omega arith)

counted-below : (b : Bool) → counted b 1 < 2
unfolding counted
counted-below true = omega arith
counted-below false = omega arith

counted-digit : (b : Bool) → eqb (counted b 1) 1 ≡ b
unfolding counted
counted-digit true = refl
counted-digit false = refl

pub number-below : (k : ℕ) (marked : ℕ → Bool) → number k marked < 2 ^ k
unfolding number
number-below zero marked = omega arith
number-below (suc k) marked =
    let shorter : number k marked < 2 ^ k = number-below k marked in
    omega (arith, pow-suc 2 k, counted-below (marked k))

-- the first n digits of k are the number shifted right past the rest
first-digits : (k x : ℕ) → x < 2 ^ k → (n : ℕ) → n ≤ k → number n (digit_at k x) ≡ x / 2 ^ (k - n)
unfolding number digit_at
first-digits k x below zero l = rw (sub-zero k) (sym (div-eq_of_lt below))
first-digits k x below (suc n) l =
    let shorter : number n (digit_at k x) ≡ x / 2 ^ (k - n) = first-digits k x below n (omega arith) in
    let place : k - suc n + 1 ≡ k - n = omega arith in
    let halved : x / 2 ^ (k - suc n) / 2 ^ 1 ≡ x / 2 ^ (k - n) = rw place at (shr-shr x (k - suc n) 1) in
    let last : counted (digit_at k x n) 1 ≡ x / 2 ^ (k - suc n) % 2 = digit-counted (x / 2 ^ (k - suc n) % 2) (omega arith) in
    omega arith

ones-number : (k : ℕ) (marked : ℕ → Bool) → ones (number k marked) ≡ set_below k marked
unfolding number set_below sum_over ones
ones-number zero marked = refl
ones-number (suc k) marked =
    let half : (2 * number k marked + counted (marked k) 1) / 2 ≡ number k marked = omega (arith, counted-below (marked k)) in
    let last : (2 * number k marked + counted (marked k) 1) % 2 ≡ counted (marked k) 1 = omega (arith, counted-below (marked k)) in
    let rest : ones ((2 * number k marked + counted (marked k) 1) / 2) ≡ sum_over k marked (λ i. 1) = ap ones half ∙ ones-number k marked in
    omega (arith, ones_step (2 * number k marked + counted (marked k) 1))

pub ones-digits : (k x : ℕ) → x < 2 ^ k → ones x ≡ set_below k (digit_at k x)
ones-digits k x below =
    let none : k - k ≡ 0 = omega arith in
    let whole : number k (digit_at k x) ≡ x = first-digits k x below k (omega arith) ∙ rw none (omega arith) in
    ap ones (sym whole) ∙ ones-number k (digit_at k x)

-- the digit put at a place stands there
pub digit-of : (k : ℕ) (marked : ℕ → Bool) (j : ℕ) → j < k → digit_at k (number k marked) j ≡ marked j
unfolding number digit_at
digit-of zero marked j l = absurd (not-suc-le-zero l)
digit-of (suc k) marked j l = go (below_suc l) (λ m. digit-of k marked j m)
  where
    go : (j < k) ⊎ (j ≡ k) → (j < k → digit_at k (number k marked) j ≡ marked j) →
        eqb ((2 * number k marked + counted (marked k) 1) / 2 ^ (suc k - suc j) % 2) 1 ≡ marked j
    go (inl m) shorter =
        let place : 1 + (k - suc j) ≡ suc k - suc j = omega arith in
        let half : (2 * number k marked + counted (marked k) 1) / 2 ^ 1 ≡ number k marked = omega (arith, counted-below (marked k)) in
        rw (← place, ← shr-shr (2 * number k marked + counted (marked k) 1) 1 (k - suc j), half) (shorter m)
    go (inr e) shorter =
        let place : suc k - suc j ≡ 0 = omega arith in
        let last : (2 * number k marked + counted (marked k) 1) / 2 ^ 0 % 2 ≡ counted (marked k) 1 = omega (arith, counted-below (marked k)) in
        rw (place, last, counted-digit (marked k)) (ap marked (sym e))

-- a bit of a word is one of its 64 digits
pub bit-digit : (word j : ℕ) → j < 64 → bit_of word j ≡ digit_at 64 word j
unfolding bit_of digit_at
bit-digit word j l =
    let place : 63 - j ≡ 64 - suc j = omega arith in
    ap (λ (n : ℕ). eqb (word / 2 ^ n % 2) 1) place
