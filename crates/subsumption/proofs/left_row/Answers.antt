-- `subsumption::left_row` meets its contract: after a steps the first a delays are taken off.
use native.Mathlib.Omega.{arith}
use Rattle.records.specs.Columns.{at}
use Rattle.subsumption.proofs.Shifts.{left-more}
use Rattle.subsumption.proofs.left_row.Goals as goal

pub loop-a-preserved : goal.loop-a-preserved
unfolding at
loop-a-preserved c = left-more c.saturating_sub.result c.loop-a.invariant (omega arith) c.saturating_sub.ensures
