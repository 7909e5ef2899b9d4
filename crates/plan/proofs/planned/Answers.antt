-- `plan::planned` meets its contract: the first stage, and the steps from it. The table has room for the least delays between all tasks.
use native.Mathlib.Omega.{arith}
use Rattle.redundancy.proofs.Graphs.{graph-apart}
use Rattle.acceptance.proofs.Readings.{graph-fronts, graph-within, few-tasks, as-many-edges, original-fit, square-small}
use Rattle.plan.proofs.Beginning.{first-held, table-held}
use Rattle.plan.proofs.planned.Goals as goal

pub slice_bounds-first_stage-end : goal.slice_bounds-first_stage-end
slice_bounds-first_stage-end c = (graph-within c.requires).ordering

pub first_stage-first-requires : goal.first_stage-first-requires
first_stage-first-requires c =
    let given = c.requires in
    let held = graph-fronts given in
    let long = as-many-edges given in
    let few = given.accepted.formed.syncs_formed.few in
    record {
      tasks_bound = (few-tasks given, omega (arith, long), omega (arith, long, few, held.edges_are));
      fit = original-fit given;
      apart = graph-apart _ given.accepted.formed given.accepted.no_zero_cycle held.tasks-are held.held;
      tasks_in_bounds = square-small given;
    }

pub plan_from-requires : goal.plan_from-requires
plan_from-requires c =
    let stage = c.first_stage-first.ensures in
    record { accepted_reading = c.requires; held_stage = first-held c.requires stage.stage; by_index = (_, table-held c.requires _ stage.table) }
