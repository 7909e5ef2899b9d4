-- `judgement::made_result` meets its contract: the fronts of the lists hold the graph's and the proposed edges, so what is made of them is the result's.
use native.Mathlib.Omega.{arith}
use Rattle.acceptance.proofs.Readings.{graph-within, as-many-edges, few-edges}
use Rattle.judgement.proofs.Judging.{processors-within, processors-small, graph-circled, fit-by-processors, proposed-within, few-lent, made-by-processors}
use Rattle.judgement.proofs.made_result.Goals as goal

pub slice_bounds-result_edges-end : goal.slice_bounds-result_edges-end
slice_bounds-result_edges-end c = (graph-within c.requires.accepted).ordering

pub slice_bounds-result_edges-end-2 : goal.slice_bounds-result_edges-end-2
slice_bounds-result_edges-end-2 c = processors-within c.requires.accepted

pub slice_bounds-result_edges-end-3 : goal.slice_bounds-result_edges-end-3
slice_bounds-result_edges-end-3 c = proposed-within c.requires

pub result_edges-requires : goal.result_edges-requires
result_edges-requires c =
    let graph = c.requires.accepted in
    record {
      edges_len_bound = (omega (arith, as-many-edges graph, few-edges graph), few-lent c.requires);
      by_index = processors-small graph;
      fit = fit-by-processors graph;
      circled = graph-circled graph;
    }

pub returns : goal.returns
returns c = made-by-processors c.requires c.result_edges.ensures
