-- `subsumption::row_below` meets its contract: after b steps the first b delays are tested.
use native.Mathlib.Omega.{arith}
use Rattle.records.specs.Columns.{at}
use Rattle.subsumption.proofs.Shifts.{below_more}
use Rattle.subsumption.proofs.row_below.Goals as goal

pub below-requires : goal.below-requires
unfolding at
below-requires c = (omega (arith, c.requires.3 c.loop-b.b), omega (arith, c.requires.1))

pub loop-b-preserved : goal.loop-b-preserved
unfolding at
loop-b-preserved c = below_more c.below.result c.loop-b.invariant (omega arith) c.below.ensures
