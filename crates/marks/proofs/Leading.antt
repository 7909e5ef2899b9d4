-- The leading zeros of a number of k digits without its first ones are the place of the first digit set from there on: the number's digits past the length
-- that `leading_length` gives are 0, and the one at it is 1.
use mathlib.Core.Path.{◌≡◌, sym, ap, ◌∙◌, subst}
use mathlib.Core.Logic.{◌⊎◌, inl, inr}
use mathlib.Core.Bool.{Bool, true, false}
use Prim.Native.Nat.{ℕ, suc, ◌+◌, ◌-◌, ◌*◌, ◌/◌, ◌%◌, ◌^◌, ◌≤◌, ◌<◌}
use native.Mathlib.Nat.{lt_of_lt_of_le, mod-lt, pow-suc, div-eq_of_lt}
use native.Mathlib.Omega.{arith}
use lib.Bits.{bit_and, and_mask}
use lib.Count.{count_leading_zeros, leading_length}
use lib.Pow.{pow_pos, pow_mono, high, field, mod-mod-pow, ones_split, ones_lt}
use Rattle.model.proofs.Basics.{order}
use Rattle.marks.specs.Marks.{bit_of}
use Rattle.marks.proofs.Digits.{digit_at, bit-digit}

-- r is the first of the marks from `from` to limit - 1 that is set, or the limit if there is none
pub record FirstOrLimit (marked : ℕ → Bool) (from limit r : ℕ) : Type 0 where
  pub not_before : from ≤ r
  pub within : r ≤ limit
  pub none_before : (i : ℕ) → from ≤ i → i < r → marked i ≡ false
  pub set : r < limit → marked r ≡ true

-- a remainder by 2 ^ whole keeps the digits below
digit_low : (x whole e : ℕ) → e < whole → x % 2 ^ whole / 2 ^ e % 2 ≡ x / 2 ^ e % 2
digit_low x whole e l =
    let above : ℕ = whole - e - 1 in
    let split : above + 1 + e ≡ whole = omega arith in
    let cut : x % 2 ^ (above + 1 + e) / 2 ^ e ≡ x / 2 ^ e % 2 ^ (above + 1) = field x (above + 1) e in
    ap (λ (n : ℕ). x % 2 ^ n / 2 ^ e % 2) (sym split) ∙ (ap (λ (n : ℕ). n % 2) cut ∙ mod-mod-pow (x / 2 ^ e) above 1)

-- the highest digit of a number of suc e digits
top_digit : (x e : ℕ) → x < 2 ^ suc e → 2 ^ suc e ≤ 2 * x + 1 → x / 2 ^ e ≡ 1
top_digit x e below long =
    let doubled : 2 ^ suc e ≡ 2 ^ e * 2 = pow-suc 2 e in
    let parts : 1 * 2 ^ e + (x - 2 ^ e) ≡ x = omega arith in
    ap (λ (n : ℕ). n / 2 ^ e) (sym parts) ∙ high 1 e (omega arith)

-- the digits of x from `from` on make a number of length `long`
module _ (k x from long : ℕ) (inside : from < k) (below : x % 2 ^ (k - from) < 2 ^ long) (least : 2 ^ long ≤ 2 * (x % 2 ^ (k - from)) + 1) where
  short : long ≤ k - from
  short = go (order long (k - from))
    where
      go : (long ≤ k - from) ⊎ (k - from < long) → long ≤ k - from
      go (inl l) = l
      go (inr l) =
          let small : x % 2 ^ (k - from) < 2 ^ (k - from) = mod-lt x (pow_pos (k - from)) in
          let more : 2 ^ suc (k - from) ≤ 2 ^ long = pow_mono l in
          absurd (omega (arith, pow-suc 2 (k - from)))

  zero-before : (i : ℕ) → from ≤ i → i + long < k → digit_at k x i ≡ false
  unfolding digit_at
  zero-before i l h =
      let none : x % 2 ^ (k - from) / 2 ^ (k - suc i) ≡ 0 = div-eq_of_lt (lt_of_lt_of_le below (pow_mono (omega arith))) in
      rw (← digit_low x (k - from) (k - suc i) (omega arith), none)

  one_at : (i : ℕ) → i + long ≡ k → i < k → digit_at k x i ≡ true
  unfolding digit_at
  one_at i whole h =
      let length : long ≡ suc (k - suc i) = omega arith in
      let one : x % 2 ^ (k - from) / 2 ^ (k - suc i) ≡ 1 = top_digit (x % 2 ^ (k - from)) (k - suc i) (rw length at below) (rw length at least) in
      let l : long ≤ k - from = short in
      rw (← digit_low x (k - from) (k - suc i) (omega arith), one)

pub first-digit : (k x from : ℕ) → from < k → FirstOrLimit (digit_at k x) from k (count_leading_zeros k (x % 2 ^ (k - from)))
first-digit k x from inside =
    let zeros : ℕ = count_leading_zeros k (x % 2 ^ (k - from)) in
    let small : x % 2 ^ (k - from) < 2 ^ (k - from) = mod-lt x (pow_pos (k - from)) in
    let wide : 2 ^ (k - from) ≤ 2 ^ k = pow_mono {i = k - from} {j = k} (omega arith) in
    let top = leading_length k (x % 2 ^ (k - from)) (omega arith) in
    let long : ℕ = top.0 in
    let whole : zeros + long ≡ k = top.1 in
    let l : long ≤ k - from = short k x from long inside top.2 top.3 in
    record {
      not_before = omega arith;
      within = omega arith;
      none_before = λ i h b. zero-before k x from long inside top.2 top.3 i h (omega arith);
      set = λ b. one_at k x from long inside top.2 top.3 zeros whole b;
    }

-- the same for the bits of a word
pub first_bit : (word from : ℕ) {r : ℕ} → from < 64 → r ≡ count_leading_zeros 64 (word % 2 ^ (64 - from)) → FirstOrLimit (bit_of word) from 64 r
first_bit word from {r} inside is =
    let first = subst (λ (n : ℕ). FirstOrLimit (digit_at 64 word) from 64 n) (sym is) (first-digit 64 word from inside) in
    record {
      not_before = first.not_before;
      within = first.within;
      none_before = λ i h b. let in-word : r ≤ 64 = first.within in bit-digit word i (omega arith) ∙ first.none_before i h b;
      set = λ b. bit-digit word r b ∙ first.set b;
    }

-- ones shifted right are the mask of the bits from a bit on
pub masked : (word from : ℕ) → from < 64 → bit_and word ((2 ^ 64 - 1) / 2 ^ from) ≡ word % 2 ^ (64 - from)
masked word from inside =
    let whole : 64 - from + from ≡ 64 = omega arith in
    let split : 2 ^ 64 - 1 ≡ (2 ^ (64 - from) - 1) * 2 ^ from + (2 ^ from - 1)
    = ap (λ (n : ℕ). 2 ^ n - 1) (sym whole) ∙ ones_split (64 - from) from in
    let mask : (2 ^ 64 - 1) / 2 ^ from ≡ 2 ^ (64 - from) - 1 = ap (λ (n : ℕ). n / 2 ^ from) split ∙ high (2 ^ (64 - from) - 1) from (ones_lt from) in
    ap (bit_and word) mask ∙ and_mask word (64 - from)
