-- `judgement::check_order` meets its contract: the fronts of the lists hold the graph's edges and the result's, so the search by them is that in the result.
use mathlib.Core.Path.{◌∙◌}
use native.Mathlib.Omega.{arith}
use Rattle.acceptance.proofs.Readings.{graph-within, few-tasks, as-many-edges, few-edges, original-fit}
use Rattle.judgement.proofs.Judging.{held-fit, result-within, lost-is}
use Rattle.judgement.proofs.check_order.Goals as goal

pub slice_bounds-lost_order-end : goal.slice_bounds-lost_order-end
slice_bounds-lost_order-end c = (graph-within c.requires.accepted_reading).ordering

pub slice_bounds-lost_order-end-2 : goal.slice_bounds-lost_order-end-2
slice_bounds-lost_order-end-2 c = result-within c.requires.accepted_reading c.requires.made.1

pub lost_order-requires : goal.lost_order-requires
lost_order-requires c =
    let graph = c.requires.accepted_reading in
    record {
      tasks_in_bounds = (omega (arith, as-many-edges graph), omega (arith, as-many-edges graph, few-edges graph), few-tasks graph);
      fit = original-fit graph;
      fit_2 = held-fit graph c.requires.made.1;
    }

pub returns : goal.returns
returns c = c.lost_order.ensures ∙ lost-is c.requires.accepted_reading c.requires.made.1
