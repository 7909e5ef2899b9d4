-- `judgement::check_cycle` meets its contract: the words hold between which processors paths of the result lead, so the search finds the first proposed edge
-- on a cycle of it, if there is one.
use mathlib.Core.Path.{◌∙◌}
use Rattle.reach.proofs.Delays.{same-ends}
use Rattle.judgement.proofs.Judging.{processors-within, processors-small, proposed-within, few-lent, proposed_ends, made, result-joins, result-circled, result-reached, result-within, cycle-is}
use Rattle.judgement.proofs.check_cycle.Goals as goal

pub slice_bounds-paths_between_processors-end : goal.slice_bounds-paths_between_processors-end
slice_bounds-paths_between_processors-end c = result-within c.requires.judgeable.accepted (made c.requires.judgeable c.requires.held_result)

pub slice_bounds-paths_between_processors-end-2 : goal.slice_bounds-paths_between_processors-end-2
slice_bounds-paths_between_processors-end-2 c = processors-within c.requires.judgeable.accepted

pub paths_between_processors-reach-requires : goal.paths_between_processors-reach-requires
paths_between_processors-reach-requires c =
    let graph = c.requires.judgeable.accepted in
    record { ends = result-joins graph (made c.requires.judgeable c.requires.held_result); by_index = processors-small graph }

pub slice_bounds-cyclic_edge-end : goal.slice_bounds-cyclic_edge-end
slice_bounds-cyclic_edge-end c = proposed-within c.requires.judgeable

pub slice_bounds-cyclic_edge-end-2 : goal.slice_bounds-cyclic_edge-end-2
slice_bounds-cyclic_edge-end-2 c = processors-within c.requires.judgeable.accepted

pub cyclic_edge-requires : goal.cyclic_edge-requires
cyclic_edge-requires c =
    let graph = c.requires.judgeable.accepted in
    let room = (c.paths_between_processors-reach.ensures _ (same-ends _) (result-circled graph (made c.requires.judgeable c.requires.held_result))).room in
    record {
      edges_len_bound = (few-lent c.requires.judgeable, room);
      by_index = processors-small graph;
      ends = proposed_ends c.requires.judgeable;
    }

pub returns : goal.returns
returns c =
    let judgeable = c.requires.judgeable in
    let made = made judgeable c.requires.held_result in
    let reached = result-reached judgeable.accepted made (c.paths_between_processors-reach.ensures _ (same-ends _) (result-circled judgeable.accepted made)) in
    c.cyclic_edge.ensures _ reached ∙ cycle-is judgeable
