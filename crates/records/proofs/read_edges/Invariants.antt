-- `records::read_edges` meets its contract: after j steps the first j records are those of the first j edges.
use lib.ListN.{length}
use Rattle.layout.specs.Layout.{record_start, edge_at}
use Rattle.records.specs.Columns.{record_of}
use Rattle.records.proofs.Fill.{Filled}
use Rattle.records.proofs.read_edges.Given as goal

abbrev pub invariant-loop-j : goal.invariant-loop-j
invariant-loop-j l = Filled (λ i. record_of (edge_at l.bytes (record_start l.position i))) (length l.initial.edges) l.j l.edges
