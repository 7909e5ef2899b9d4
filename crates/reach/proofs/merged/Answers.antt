-- `reach::merged` meets its contract: the word takes all bits of the other where bit k is set, and stays as it is where it is not.
use mathlib.Core.Path.{◌≡◌, sym, ◌∙◌}
use mathlib.Core.Bool.{true}
use Rattle.reach.specs.Reach.{bit}
use Rattle.reach.proofs.Bits.{bit-or}
use Rattle.reach.proofs.merged.Goals as goal

pub returns-then-has_bit : goal.returns-then-has_bit
returns-then-has_bit c = λ b.
    let set : bit c.args.word c.args.k ≡ true = sym c.has_bit.ensures ∙ c.if-has_bit.true in
    rw set (bit-or c.args.word c.args.row b)
