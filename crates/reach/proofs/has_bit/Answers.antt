-- `reach::has_bit` meets its contract: a shift and a mask test the bit.
use Rattle.reach.proofs.Bits.{bit-tested}
use Rattle.reach.proofs.has_bit.Goals as goal

pub returns : goal.returns
returns c = bit-tested c.args.word c.args.at
