-- `bits::field_at` meets its contract: the field lies inside the four bytes that are gathered, so shifting out what follows and
-- masking to the width leaves it (`field-inside`).
use mathlib.Core.Path.{◌≡◌, ◌∙◌}
use mathlib.Core.List.{List}
use Prim.Native.Nat.{ℕ, ◌-◌, ◌*◌, ◌/◌, ◌%◌, ◌^◌, ◌≤◌}
use native.Mathlib.Omega.{arith}
use native.Mathlib.Nat.{one-mul, div-add-mod'}
use lib.Bits.{bit_and, and_mask}
use lib.Pow.{shl_exact}
use Rattle.bits.specs.Bits.{field}
use Rattle.bits.proofs.Laws.{field-inside}
use Rattle.bits.proofs.field_at.Goals as goal

-- `1 << width` at 64 bits.
one_shifted : (width : ℕ) → width ≤ 25 → (1 * 2 ^ width) % 2 ^ 64 ≡ 2 ^ width
one_shifted width narrow = shl_exact {a = 1} 1 width 64 (omega arith) (omega arith) ∙ one-mul (2 ^ width)

-- What the code makes of the four bytes is the field.
cut :
    (bytes : List ℕ) (position width four : ℕ) → width ≤ 25 → four ≡ field bytes (position / 8 * 8) 32
    → bit_and (four / 2 ^ (32 - bit_and position 7 - width)) ((1 * 2 ^ width) % 2 ^ 64 - 1) ≡ field bytes position width
cut bytes position width four narrow gathered =
    let skipped : ℕ = position % 8 in
    let rest : ℕ = 32 - skipped - width in
    rw
    (one_shifted width narrow, and_mask position 3, and_mask (four / 2 ^ rest) width, gathered)
    (rw div-add-mod' at (field-inside bytes (position / 8 * 8) skipped width rest 32 (omega arith)))

pub returns : goal.returns
returns c = cut c.args.bytes.now c.args.position c.args.width c.four_at-four.result c.requires c.four_at-four.ensures
