-- `steps::step` meets its contract: stage, delays, counts, ends and latest starts are those of the present graph, so the best pair by them is the step's.
use native.Mathlib.Omega.{arith}
use Rattle.steps.proofs.Stepping.{rows_long, lent-few, lent-ends, lent-counts, none_left, found, candidate, replace-given, next-held, next-ready}
use Rattle.steps.proofs.step.Goals as goal

pub best_pair-requires : goal.best_pair-requires
best_pair-requires c = rows_long (c.requires.2)

pub returns-in_err-pair : goal.returns-in_err-pair
returns-in_err-pair c = λ g list here. rw c.from_residual.ensures (none_left here c.in_err-pair.ensures, here.held)

pub slice_bounds-add_pair-end : goal.slice_bounds-add_pair-end
slice_bounds-add_pair-end c =
    let held = (c.requires.2).held in
    omega (arith, held.few, held.room)

pub add_pair-requires-clause-edges_bound : goal.add_pair-requires-clause-edges_bound
add_pair-requires-clause-edges_bound c = lent-few (c.requires.2)

pub add_pair-requires-clause-tasks_bound : goal.add_pair-requires-clause-tasks_bound
add_pair-requires-clause-tasks_bound c =
    let here = c.requires.2 in
    let best = c.in_ok-pair.ensures in
    ((rows_long here).0, best.1.source_below best.0, best.1.sink_below best.0, lent-ends here)

pub add_pair-requires-clause-counts_of : goal.add_pair-requires-clause-counts_of
add_pair-requires-clause-counts_of c = lent-counts (c.requires.2)

pub replace-requires-clause-held_stage : goal.replace-requires-clause-held_stage
replace-requires-clause-held_stage c =
    let best = c.in_ok-pair.ensures in
    let delays = c.add_pair.ensures.delays in
    replace-given (c.requires.2) best.1 best.0 delays.0 delays.1

pub returns : goal.returns
returns c =
    let best = c.in_ok-pair.ensures in
    let delays = c.add_pair.ensures.delays in
    λ g list here. record {
      found = found here best.1 best.0;
      candidate = candidate here best.1 best.0;
      held = next-held here best.1 best.0 delays.0 delays.1 (c.replace.ensures list here.held);
      ready = next-ready here best.1 best.0 delays.0 delays.1 c.add_pair.ensures.counts;
    }
