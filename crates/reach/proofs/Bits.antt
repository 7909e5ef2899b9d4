-- Bits of words: `|` joins them, a power of 2 has one, and a shift and a mask test one. From the digit laws of lib.Bits, one digit at a time.
use mathlib.Core.Path.{◌≡◌, refl, sym, ap, ◌∙◌}
use mathlib.Core.Bool.{Bool, true, false, not, ◌||◌}
use Prim.Native.Nat.{ℕ, zero, suc, ◌+◌, ◌/◌, ◌%◌, ◌^◌, ◌<◌, max}
use native.Mathlib.Nat.{div-eq_of_lt, pow-suc}
use native.Mathlib.Omega.{arith}
use lib.Dec.{eqb, eqb-zero-suc, eqb-suc-zero, eqb-suc-suc}
use lib.Arith.{digits_mod}
use lib.Pow.{pow_pos, shr-shr}
use lib.Bits.{bit_and, bit_or, or_step, or_shr, and_mask}
use Rattle.reach.specs.Reach.{bit}

pub or-false : (b : Bool) → b || false ≡ b
or-false true = refl
or-false false = refl

pub or-true : (b : Bool) → b || true ≡ true
or-true true = refl
or-true false = refl

-- ── Digits ──

digit-below : (x : ℕ) → x % 2 < 2
digit-below x = omega arith

max-below : (p q : ℕ) → p < 2 → q < 2 → max p q < 2
max-below zero zero l m = omega arith
max-below zero (suc zero) l m = omega arith
max-below (suc zero) zero l m = omega arith
max-below (suc zero) (suc zero) l m = omega arith
max-below zero (suc (suc q)) l m = absurd (omega arith)
max-below (suc zero) (suc (suc q)) l m = absurd (omega arith)
max-below (suc (suc p)) q l m = absurd (omega arith)

max-digit : (p q : ℕ) → p < 2 → q < 2 → eqb (max p q) 1 ≡ eqb p 1 || eqb q 1
max-digit zero zero l m = refl
max-digit zero (suc zero) l m = refl
max-digit (suc zero) zero l m = refl
max-digit (suc zero) (suc zero) l m = refl
max-digit zero (suc (suc q)) l m = absurd (omega arith)
max-digit (suc zero) (suc (suc q)) l m = absurd (omega arith)
max-digit (suc (suc p)) q l m = absurd (omega arith)

digit-test : (d : ℕ) → d < 2 → not (eqb d 0) ≡ eqb d 1
digit-test zero l = refl
digit-test (suc zero) l = refl
digit-test (suc (suc d)) l = absurd (omega arith)

-- ── Words ──

pub bit-or : (x y b : ℕ) → bit (bit_or x y) b ≡ bit x b || bit y b
unfolding bit
bit-or x y b =
    let p : ℕ = x / 2 ^ b in
    let q : ℕ = y / 2 ^ b in
    let digit : bit_or p q % 2 ≡ max (p % 2) (q % 2) =
    ap (λ (n : ℕ). n % 2) (or_step p q) ∙
    digits_mod (bit_or (p / 2) (q / 2)) (max-below (p % 2) (q % 2) (digit-below p) (digit-below q)) in
    ap (λ (n : ℕ). eqb (n % 2) 1) (or_shr x y b) ∙
    (ap (λ (n : ℕ). eqb n 1) digit ∙ max-digit (p % 2) (q % 2) (digit-below p) (digit-below q))

pub bit-zero : (b : ℕ) → bit 0 b ≡ false
unfolding bit
bit-zero b = ap (λ (n : ℕ). eqb (n % 2) 1) (div-eq_of_lt (pow_pos b))

pub bit-power : (at b : ℕ) → bit (2 ^ at) b ≡ eqb at b
unfolding bit
bit-power zero zero = refl
bit-power zero (suc b) =
    let small : 1 < 2 ^ suc b = omega (arith, pow-suc 2 b, pow_pos b) in
    ap (λ (n : ℕ). eqb (n % 2) 1) (div-eq_of_lt small) ∙ sym (eqb-zero-suc b)
bit-power (suc at) zero =
    let even : 2 ^ suc at / 2 ^ 0 % 2 ≡ 0 = omega (arith, pow-suc 2 at) in
    ap (λ (n : ℕ). eqb n 1) even ∙ sym (eqb-suc-zero at)
bit-power (suc at) (suc b) =
    let half : 2 ^ suc at / 2 ^ 1 ≡ 2 ^ at = omega (arith, pow-suc 2 at) in
    let place : 1 + b ≡ suc b = omega arith in
    let shifted : 2 ^ suc at / 2 ^ suc b ≡ 2 ^ at / 2 ^ b =
    ap (λ (n : ℕ). 2 ^ suc at / 2 ^ n) (sym place) ∙ (sym (shr-shr (2 ^ suc at) 1 b) ∙ ap (λ (n : ℕ). n / 2 ^ b) half) in
    ap (λ (n : ℕ). eqb (n % 2) 1) shifted ∙ (bit-power at b ∙ sym (eqb-suc-suc at b))

-- a shift and a mask test a bit
pub bit-tested : (word k : ℕ) → not (eqb (bit_and (word / 2 ^ k) 1) 0) ≡ bit word k
unfolding bit
bit-tested word k =
    ap (λ (n : ℕ). not (eqb n 0)) (and_mask (word / 2 ^ k) 1) ∙ digit-test (word / 2 ^ k % 2) (digit-below (word / 2 ^ k))
