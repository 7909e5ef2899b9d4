-- `waits::ends_into` meets its contract: after v steps the first v elements are the ends of the first v tasks.
use mathlib.Core.Path.{◌≡◌, refl}
use Prim.Native.Nat.{◌<◌}
use native.Mathlib.Omega.{arith}
use lib.ListN.{length}
use Rattle.records.specs.Columns.{at}
use Rattle.records.proofs.Fill.{filled_none, filled_more, filled-all}
use Rattle.waits.proofs.ends_into.Goals as goal

pub loop-v-init : goal.loop-v-init
loop-v-init c = filled_none _ _ c.requires.row_len.1

pub overflow_add-end : goal.overflow_add-end
unfolding at
overflow_add-end c =
    let v = c.loop-v.v in
    let below : v < length c.args.row.now = omega arith in
    omega (arith, c.type_inv.time v, c.requires.by_index v below)

pub loop-v-preserved : goal.loop-v-preserved
unfolding at
loop-v-preserved c = filled_more _ c.loop-v.invariant c.loop-v-test.true refl

pub returns : goal.returns
returns c =
    let whole : c.loop-v.v ≡ length c.args.time.now = omega (arith, c.loop-v.invariant.size) in
    filled-all c.loop-v.invariant whole
