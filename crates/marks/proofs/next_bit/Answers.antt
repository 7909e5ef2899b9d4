-- `marks::next_bit` meets its contract: the mask leaves the bits from `from` on (`masked`), and their leading zeros are the place of the first set
-- (`first_bit`).
use mathlib.Core.Path.{ap}
use Prim.Native.Nat.{ℕ, ◌-◌, ◌/◌, ◌^◌, ◌<◌}
use native.Mathlib.Omega.{arith}
use lib.Bits.{bit_and}
use lib.Count.{count_leading_zeros}
use Rattle.marks.specs.Marks.{bit_of}
use Rattle.marks.proofs.Leading.{FirstOrLimit, first_bit, masked}
use Rattle.marks.proofs.next_bit.Goals as goal

-- the number of leading zeros that the code takes
abbrev zeros : ℕ → ℕ → ℕ
zeros word from = count_leading_zeros 64 (bit_and word ((2 ^ 64 - 1) / 2 ^ from))

zeros_first : (word from : ℕ) → from < 64 → FirstOrLimit (bit_of word) from 64 (zeros word from)
zeros_first word from inside = first_bit word from inside (ap (count_leading_zeros 64) (masked word from inside))

pub returns-then-bit-lt64 : goal.returns-then-bit-lt64
returns-then-bit-lt64 c =
    let first = zeros_first c.args.word c.args.from c.requires in
    (first.not_before, omega arith, first.set (omega arith), first.none_before)

pub returns-else-bit-lt64 : goal.returns-else-bit-lt64
returns-else-bit-lt64 c =
    let first = zeros_first c.args.word c.args.from c.requires in
    λ i l h. first.none_before i l (omega arith)
