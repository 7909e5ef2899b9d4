-- `marks::is_marked` meets its contract: shifted right past the bits behind it, the bit of a place is the word's last digit.
use mathlib.Core.Path.{ap}
use Prim.Native.Nat.{ℕ, ◌-◌, ◌/◌, ◌%◌, ◌^◌}
use lib.Bits.{and_mask}
use lib.Dec.{eqb}
use lib.ListN.{get_or}
use Rattle.marks.specs.Marks.{bit_of, mark_at}
use Rattle.marks.proofs.is_marked.Goals as goal

pub returns : goal.returns
unfolding mark_at bit_of
returns c =
    let place = c.args.place in
    let word = get_or c.args.marks.words (place / 64) 0 in
    ap (λ (k : ℕ). eqb k 1) (and_mask (word / 2 ^ (63 - place % 64)) 1)
