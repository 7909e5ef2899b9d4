-- `subsumption::row_below` meets its contract: after b steps the first b delays are tested.
use Rattle.subsumption.specs.Subsumption.{BelowRow}
use Rattle.subsumption.proofs.row_below.Given as goal

abbrev pub invariant-loop-b : goal.invariant-loop-b
invariant-loop-b l = BelowRow l.delays l.limit l.b l.row
