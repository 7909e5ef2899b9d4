-- `subsumption::shift_edge` meets its contract: after a steps the edge is counted anew for the pairs out of the first a tasks.
use Rattle.records.specs.Columns.{at}
use Rattle.subsumption.specs.Subsumption.{BelowRow, EdgeShifted}
use Rattle.subsumption.proofs.shift_edge.Given as goal

abbrev pub invariant-loop-a : goal.invariant-loop-a
invariant-loop-a l =
    EdgeShifted (at l.was.from.now) (at l.was.to.now) (at l.next.from.now) (at l.next.to.now) l.was.limit l.next.limit l.a l.initial.counts l.counts × BelowRow l.was.to.now l.last 64 l.less ×
    BelowRow l.next.to.now l.next_last 64 l.more
