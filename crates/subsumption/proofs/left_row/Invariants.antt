-- `subsumption::left_row` meets its contract: after a steps the first a delays are taken off.
use Rattle.subsumption.specs.Subsumption.{LeftRow}
use Rattle.subsumption.proofs.left_row.Given as goal

abbrev pub invariant-loop-a : goal.invariant-loop-a
invariant-loop-a l = LeftRow l.delays l.limit l.a l.left
