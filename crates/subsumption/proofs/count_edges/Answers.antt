-- `subsumption::count_edges` meets its contract: after j steps the first j edges are counted.
use native.Mathlib.Omega.{arith}
use lib.ListN.{take}
use Rattle.std.proofs.lemmas.List.{length-map, length-take-le}
use Rattle.records.specs.Columns.{at, edge_of}
use Rattle.records.proofs.EdgesIn.{ends_at}
use Rattle.subsumption.proofs.Totals.{counts-covered, first-none, first_counted}
use Rattle.subsumption.proofs.count_edges.Goals as goal

pub loop-e-init : goal.loop-e-init
loop-e-init c =
    let args = c.args in
    let asked = c.requires in
    first-none args.edges.now args.tasks args.from.now args.to.now asked.tasks_in_bounds.2 asked.small.1

pub count_edge-requires-clause-tasks_bound : goal.count_edge-requires-clause-tasks_bound
count_edge-requires-clause-tasks_bound c =
    let args = c.args in
    let asked = c.requires in
    let loop = c.loop-e in
    let ends = ends_at args.edges.now asked.tasks_bound.1 loop.e-index c.loop-e-test.true in
    let many = length-map (take loop.e-index args.edges.now) edge_of in
    let taken = length-take-le loop.e-index args.edges.now (omega (arith, c.loop-e-test.true)) in (
      asked.tasks_bound.0,
      ends.0,
      ends.1,
      omega arith,
      counts-covered loop.invariant (omega (arith, many, taken, asked.edges_bound, c.loop-e-test.true)) _ _,
    )

pub loop-e-preserved : goal.loop-e-preserved
unfolding at
loop-e-preserved c =
    let args = c.args in
    first_counted args.edges.now args.tasks args.from.now args.to.now c.loop-e.e-index c.loop-e-test.true c.loop-e.invariant c.count_edge.ensures
