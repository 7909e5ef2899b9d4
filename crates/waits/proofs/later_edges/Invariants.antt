-- `waits::later_edges` meets its contract: after j steps the entries stand for those of the first j edges that let a turn wait.
use lib.ListN.{length}
use Rattle.records.specs.Columns.{at}
use Rattle.waits.proofs.Later.{LateBelow}
use Rattle.waits.proofs.later_edges.Given as goal

abbrev pub invariant-loop-e : goal.invariant-loop-e
invariant-loop-e l = LateBelow l.edges (length l.time) (at l.time) l.turns l.e-index l.back l.lasting l.to_sink l.count
