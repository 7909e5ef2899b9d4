-- `plan::plan_from` meets its contract: the steps start from the first stage, its delays, counts and times, and lead to the plan. Lists of 4096 have room for
-- all tasks, and are clear.
use mathlib.Core.Path.{refl}
use Prim.Native.Nat.{◌*◌, ◌≤◌}
use native.Mathlib.Omega.{arith}
use lib.ListN.{replicate}
use Rattle.acceptance.proofs.Readings.{graph-within, few-tasks}
use Rattle.present.proofs.Ordering.{timed-sizes}
use Rattle.plan.proofs.Beginning.{blank-at, row-lent, row_kept, begun}
use Rattle.plan.proofs.plan_from.Goals as goal

pub prepare-requires : goal.prepare-requires
prepare-requires c =
    let room : c.args.graph.tasks * 64 ≤ 4096 = omega (arith, few-tasks c.requires.accepted_reading) in
    record {
      accepted_reading = c.requires.accepted_reading;
      held_stage = c.requires.held_stage;
      by_index = c.requires.by_index;
      tasks_in_bounds = (room, room, room);
      by_index_2 = (blank-at 4096, blank-at 4096, blank-at 4096);
    }

pub slice_bounds-end-end : goal.slice_bounds-end-end
slice_bounds-end-end c = few-tasks c.requires.accepted_reading

pub slice_bounds-latest-end : goal.slice_bounds-latest-end
slice_bounds-latest-end c = few-tasks c.requires.accepted_reading

pub first_times-order-requires : goal.first_times-order-requires
first_times-order-requires c =
    record {
      accepted_reading = c.requires.accepted_reading;
      end_len = (row-lent c.requires.accepted_reading (replicate 64 0) refl, row-lent c.requires.accepted_reading (replicate 64 0) refl);
    }

pub slice_bounds-follow_steps-end : goal.slice_bounds-follow_steps-end
slice_bounds-follow_steps-end c = (graph-within c.requires.accepted_reading).time

pub slice_bounds-end-end-2 : goal.slice_bounds-end-end-2
slice_bounds-end-end-2 c = row_kept c.requires.accepted_reading c.first_times-order.new.end _ (timed-sizes c.first_times-order.ensures.timed).0

pub slice_bounds-latest-end-2 : goal.slice_bounds-latest-end-2
slice_bounds-latest-end-2 c = row_kept c.requires.accepted_reading c.first_times-order.new.latest _ (timed-sizes c.first_times-order.ensures.timed).1

pub follow_steps-last-requires : goal.follow_steps-last-requires
follow_steps-last-requires c = (_, (begun c.requires.accepted_reading c.first_times-order.new.end c.first_times-order.new.latest _ _ c.requires.held_stage c.prepare.ensures c.first_times-order.ensures.ordered c.first_times-order.ensures.timed))

pub returns : goal.returns
returns c = c.follow_steps-last.ensures _ (begun c.requires.accepted_reading c.first_times-order.new.end c.first_times-order.new.latest _ _ c.requires.held_stage c.prepare.ensures c.first_times-order.ensures.ordered c.first_times-order.ensures.timed)
