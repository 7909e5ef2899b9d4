-- `subsumption::exchange_row` meets its contract: after b steps the first b counts lost the one row and have the other.
use Rattle.records.specs.Columns.{at}
use Rattle.subsumption.specs.Subsumption.{RowShifted}
use Rattle.subsumption.proofs.exchange_row.Given as goal

abbrev pub invariant-loop-b : goal.invariant-loop-b
invariant-loop-b l = RowShifted (λ i. at l.less i) (λ i. at l.more i) l.place l.b l.initial.counts l.counts
