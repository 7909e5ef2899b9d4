-- `subsumption::count_edges` meets its contract: after j steps the first j edges are counted.
use lib.ListN.{take}
use Rattle.records.specs.Columns.{edges_in}
use Rattle.subsumption.specs.Subsumption.{CountsOf}
use Rattle.subsumption.proofs.count_edges.Given as goal

abbrev pub invariant-loop-e : goal.invariant-loop-e
invariant-loop-e l = CountsOf l.tasks l.from l.to (edges_in (take l.e-index l.edges)) l.counts
