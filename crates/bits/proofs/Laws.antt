-- Laws of fields: a field is below the power of its width, splits at any place, is a byte where it covers one, and is 0 exactly if
-- each bit is, each by induction on the width. By splits, whole bytes grow by the next byte, and a field is cut out of a longer one.
use mathlib.Core.Path.{◌≡◌, refl, sym, ap, ◌∙◌}
use mathlib.Core.Logic.{◌⊎◌, inl, inr}
use mathlib.Core.List.{List}
use Prim.Native.Nat.{ℕ, zero, suc, ◌+◌, ◌-◌, ◌*◌, ◌/◌, ◌%◌, ◌^◌, ◌<◌}
use native.Mathlib.Nat.{not-suc-le-zero, le_of_suc-le-suc, eq-or-lt_of_le, add-zero, add-suc, add_assoc, mul_assoc, pow-suc, div-eq_of_lt}
use native.Mathlib.Omega.{arith}
use lib.ListN.{get_or}
use lib.Pow.{shr-shr, high, low}
use Rattle.bits.specs.Bits.{bit_at, field}

pub field_below : (bytes : List ℕ) (position width : ℕ) → field bytes position width < 2 ^ width
unfolding field bit_at
field_below bytes position zero = omega arith
field_below bytes position (suc width) =
    let shorter : field bytes position width < 2 ^ width = field_below bytes position width in
    omega (arith, pow-suc 2 width)

pub field-split :
    (bytes : List ℕ) (position v w : ℕ)
    → field bytes position (v + w) ≡ field bytes position v * 2 ^ w + field bytes (position + v) w
unfolding field
field-split bytes position v zero = rw (add-zero v) (omega arith)
field-split bytes position v (suc w) =
    let doubled : field bytes position v * 2 ^ suc w ≡ field bytes position v * 2 ^ w * 2
    = rw pow-suc (sym (mul_assoc (field bytes position v) (2 ^ w) 2)) in
    let last : bit_at bytes (position + (v + w)) ≡ bit_at bytes (position + v + w)
    = ap (bit_at bytes) (sym (add_assoc position v w)) in
    rw add-suc (omega (arith, field-split bytes position v w))

-- The first bits of a byte are the byte shifted right past the rest, so all eight are the byte.
pub field-byte :
    (bytes : List ℕ) (index width rest : ℕ) → get_or bytes index 0 < 256 → width + rest ≡ 8
    → field bytes (index * 8) width ≡ get_or bytes index 0 / 2 ^ rest
unfolding field bit_at
field-byte bytes index zero rest below whole =
    let eight : rest ≡ 8 = omega arith in
    rw eight (sym (div-eq_of_lt below))
field-byte bytes index (suc width) rest below whole =
    let byte : (index * 8 + width) / 8 ≡ index = omega arith in
    let place : 7 - (index * 8 + width) % 8 ≡ rest = omega arith in
    let earlier : field bytes (index * 8) width ≡ get_or bytes index 0 / 2 ^ (rest + 1)
    = field-byte bytes index width (rest + 1) below (omega arith) in
    rw (byte, place) (omega (arith, shr-shr (get_or bytes index 0) rest 1))

-- The field of some whole bytes and the next one.
pub field_next :
    (bytes : List ℕ) (index count : ℕ) → get_or bytes (index + count) 0 < 256
    → field bytes (index * 8) (count * 8 + 8) ≡ field bytes (index * 8) (count * 8) * 256 + get_or bytes (index + count) 0
field_next bytes index count below =
    let place : index * 8 + count * 8 ≡ (index + count) * 8 = omega arith in
    rw (field-split, place, field-byte bytes (index + count) 8 0) (omega arith)

-- A field inside another is the other shifted right past what follows, and cut to the width.
pub field-inside :
    (bytes : List ℕ) (position skip width rest total : ℕ) → skip + width + rest ≡ total
    → field bytes position total / 2 ^ rest % 2 ^ width ≡ field bytes (position + skip) width
field-inside bytes position skip width rest total whole =
    rw (
      ← whole,
      field-split bytes position (skip + width) rest,
      high (field bytes position (skip + width)) rest (field_below bytes (position + (skip + width)) rest),
      field-split bytes position skip width,
    )
    (low (field bytes position skip) width (field_below bytes (position + skip) width))

-- Of a field, a shift right leaves the first bits, a mask the last ones.
pub field-high : (bytes : List ℕ) (position v w : ℕ) → field bytes position (v + w) / 2 ^ w ≡ field bytes position v
field-high bytes position v w =
    ap (λ (n : ℕ). n / 2 ^ w) (field-split bytes position v w) ∙ high (field bytes position v) w (field_below bytes (position + v) w)

pub field-low : (bytes : List ℕ) (position v w : ℕ) → field bytes position (v + w) % 2 ^ w ≡ field bytes (position + v) w
field-low bytes position v w =
    ap (λ (n : ℕ). n % 2 ^ w) (field-split bytes position v w) ∙ low (field bytes position v) w (field_below bytes (position + v) w)

-- A field is 0 exactly if each of its bits is.
pub zero_bits :
    (bytes : List ℕ) (position width : ℕ) → field bytes position width ≡ 0 → (i : ℕ) → i < width → bit_at bytes (position + i) ≡ 0
unfolding field
zero_bits bytes position zero none i l = absurd (not-suc-le-zero l)
zero_bits bytes position (suc width) none i l = go (eq-or-lt_of_le (le_of_suc-le-suc l)) (zero_bits bytes position width)
  where
    go :
        (i ≡ width) ⊎ (i < width) → (field bytes position width ≡ 0 → (k : ℕ) → k < width → bit_at bytes (position + k) ≡ 0)
        → bit_at bytes (position + i) ≡ 0
    go (inl e) rest = ap (λ (k : ℕ). bit_at bytes (position + k)) e ∙ omega arith
    go (inr k) rest = rest (omega arith) i k

pub bits-zero :
    (bytes : List ℕ) (position width : ℕ) → ((i : ℕ) → i < width → bit_at bytes (position + i) ≡ 0) → field bytes position width ≡ 0
unfolding field
bits-zero bytes position zero none = refl
bits-zero bytes position (suc width) none =
    let last : bit_at bytes (position + width) ≡ 0 = none width (omega arith) in
    let rest : field bytes position width ≡ 0 = bits-zero bytes position width (λ i l. none i (omega arith)) in
    omega arith
