-- `records::read_tasks` meets its contract: after v steps the first v elements of both lists are those of the first v tasks.
use mathlib.Core.Path.{◌≡◌, refl}
use Prim.Native.Nat.{◌<◌}
use native.Mathlib.Omega.{arith}
use lib.ListN.{length}
use Rattle.records.proofs.Fill.{filled_none, filled_more, filled-all}
use Rattle.records.proofs.read_tasks.Goals as goal

pub loop-v-init : goal.loop-v-init
loop-v-init c = (filled_none _ _ refl, filled_none _ _ c.requires.time_len)

pub loop-v-preserved : goal.loop-v-preserved
loop-v-preserved c =
    let inv = c.loop-v.invariant in
    let below : c.loop-v.v < length c.args.processor.now
    = omega (arith, inv.0.size) in
    (filled_more _ inv.0 below c.task_at-task.ensures.processor, filled_more _ inv.1 below c.task_at-task.ensures.time)

pub returns : goal.returns
returns c =
    let inv = c.loop-v.invariant in
    let whole : c.loop-v.v ≡ length c.args.processor.now
    = omega (arith, inv.0.size) in
    record { processor_after = filled-all inv.0 whole; time_after = filled-all inv.1 whole }
