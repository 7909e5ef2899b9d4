-- `subsumption::add_pair` meets its contract: the edges that stay are counted by the delays as they fall, then the delays fall so, and the pair's edge comes
-- last.
use mathlib.Core.Bool.{not}
use native.Mathlib.Omega.{arith}
use Rattle.model.specs.Plan.{with_pair, pair_edge}
use Rattle.model.proofs.Plans.{length-keep}
use Rattle.std.proofs.lemmas.List.{length-map}
use Rattle.records.specs.Columns.{edge_of, edges_in}
use Rattle.subsumption.specs.Subsumption.{subsumes_by}
use Rattle.subsumption.proofs.Totals.{counts-covered, counts-more}
use Rattle.subsumption.proofs.add_pair.Goals as goal

pub count_edge-requires : goal.count_edge-requires
count_edge-requires c =
    let args = c.args in
    let rows = c.join_rows.ensures in
    let columns = c.join_rows-2.ensures in
    let held = c.shift_edges.ensures _ _ rows.inside columns.inside in
    let few = c.requires.tasks_bound in
    let kept = length-keep (λ e. not (subsumes_by args.from.now args.to.now args.a args.b e)) (edges_in args.edges.now) in
    let all = length-map args.edges.now edge_of in
    record {
      tasks_in_bounds = (omega (arith, rows.size, c.requires.tasks_in_bounds.0), omega (arith, columns.size, c.requires.tasks_in_bounds.1), held.size, columns.small);
      tasks_bound = (few.0, few.1, few.2, omega arith, counts-covered held (omega (arith, kept, all, c.requires.edges_bound)) args.a args.b);
    }

pub returns-clause-counts : goal.returns-clause-counts
unfolding with_pair pair_edge
returns-clause-counts c =
    counts-more (c.shift_edges.ensures _ _ c.join_rows.ensures.inside c.join_rows-2.ensures.inside) c.args.a c.args.b 0 c.count_edge.ensures
