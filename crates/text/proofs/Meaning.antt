-- The digits of a number make the number, are digits, and do not begin with 0: by the digits of n / 10 and the last one.
use mathlib.Core.Path.{◌≡◌, refl, sym, ap, ◌∙◌}
use mathlib.Core.Logic.{◌⊎◌, inl, inr, ◌≢◌}
use mathlib.Core.List.{List, [], ◌∷◌, ◌++◌}
use Prim.Native.Nat.{ℕ, zero, suc, ◌+◌, ◌-◌, ◌*◌, ◌/◌, ◌%◌, ◌≤◌, ◌<◌}
use native.Mathlib.Omega.{arith}
use lib.ListN.{length, get_or, get_or-append}
use lib.Seq.{get_or_at}
use Rattle.text.specs.Text.{digit, decimal}
use Rattle.text.specs.Theorems.{value_from, DecimalReads, DecimalDigits, NoLeadingZero, DecimalZero}
use Rattle.text.proofs.Decimal.{order, decimal-last, decimal-more, digits_last, digits_more, digits-some}

value-append : (v : ℕ) (xs ys : List ℕ) → value_from v (xs ++ ys) ≡ value_from (value_from v xs) ys
unfolding value_from
value-append v [] ys = refl
value-append v (x ∷ xs) ys = value-append (10 * v + (x - digit 0)) xs ys

-- ── By steps: what holds of one digit, and of n if it does of n / 10, holds of every number ──

by_digits : (P : ℕ → Type 0) → ((n : ℕ) → n < 10 → P n) → ((n : ℕ) → 10 ≤ n → P (n / 10) → P n) → (k n : ℕ) → n < k → P n
by_digits P one more zero n h = absurd (omega arith)
by_digits P one more (suc k) n h = go (order 10 n) (by_digits P one more k (n / 10))
  where
    go : (10 ≤ n) ⊎ (n < 10) → (n / 10 < k → P (n / 10)) → P n
    go (inl l) rest = more n l (rest (omega arith))
    go (inr l) rest = one n l

pub decimal-reads : DecimalReads
unfolding value_from digit
decimal-reads n =
    by_digits (λ m. value_from 0 (decimal m) ≡ m)
    (λ m l. let made : 10 * 0 + (48 + m - 48) ≡ m = omega arith in ap (value_from 0) (decimal-last m l) ∙ made)
    (λ m l rest.
    let made : 10 * value_from 0 (decimal (m / 10)) + (48 + m % 10 - 48) ≡ m = omega (arith, rest) in
    ap (value_from 0) (decimal-more m l) ∙ (value-append 0 (decimal (m / 10)) (digit (m % 10) ∷ []) ∙ made))
    (suc n) n (omega arith)

-- the digits before the last, and the last
front_at : (m i : ℕ) → 10 ≤ m → i < length (decimal (m / 10)) → get_or (decimal m) i 0 ≡ get_or (decimal (m / 10)) i 0
front_at m i l below =
    ap (λ (z : List ℕ). get_or z i 0) (decimal-more m l) ∙ get_or-append (decimal (m / 10)) (digit (m % 10) ∷ []) 0 i below

last-at : (m i : ℕ) → 10 ≤ m → i ≡ length (decimal (m / 10)) → get_or (decimal m) i 0 ≡ digit (m % 10)
last-at m i l is =
    ap (λ (z : List ℕ). get_or z i 0) (decimal-more m l) ∙ get_or_at (decimal (m / 10)) (digit (m % 10)) [] 0 i (sym is)

Digits : ℕ → Type 0
Digits m = (i : ℕ) → i < length (decimal m) → (digit 0 ≤ get_or (decimal m) i 0) × (get_or (decimal m) i 0 ≤ digit 9)

pub decimal-digits : DecimalDigits
unfolding Digits digit
decimal-digits n = by_digits Digits one more (suc n) n (omega arith)
  where
    one : (m : ℕ) → m < 10 → Digits m
    one m l i below =
        let first : i ≡ 0 = omega (arith, below, digits_last m l) in
        let is : get_or (decimal m) i 0 ≡ digit m
        = ap (λ (z : List ℕ). get_or z i 0) (decimal-last m l) ∙ ap (λ (j : ℕ). get_or (digit m ∷ []) j 0) first in
        (omega (arith, is), omega (arith, is, l))

    more : (m : ℕ) → 10 ≤ m → Digits (m / 10) → Digits m
    more m l rest i below = go (order (length (decimal (m / 10))) i)
      where
        go : (length (decimal (m / 10)) ≤ i) ⊎ (i < length (decimal (m / 10))) → (digit 0 ≤ get_or (decimal m) i 0) × (get_or (decimal m) i 0 ≤ digit 9)
        go (inl past) =
            let is = last-at m i l (omega (arith, past, below, digits_more m l)) in
            (omega (arith, is), omega (arith, is))
        go (inr before) =
            let is = front_at m i l before in
            let d = rest i before in
            (omega (arith, is, d.0), omega (arith, is, d.1))

pub no-leading-zero : NoLeadingZero
unfolding digit
no-leading-zero n =
    by_digits (λ m. 1 ≤ m → get_or (decimal m) 0 0 ≢ digit 0)
    (λ m l some e.
    let is : get_or (decimal m) 0 0 ≡ digit m = ap (λ (z : List ℕ). get_or z 0 0) (decimal-last m l) in
    omega (arith, is, e, some))
    (λ m l rest some e. rest (omega arith) (sym (front_at m 0 l (digits-some (m / 10))) ∙ e))
    (suc n) n (omega arith)

pub decimal-zero : DecimalZero
decimal-zero = decimal-last 0 (omega arith)
