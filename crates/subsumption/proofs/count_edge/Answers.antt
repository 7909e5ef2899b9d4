-- `subsumption::count_edge` meets its contract: an edge that is not counted yet has a limit of 0.
use mathlib.Core.Path.{refl}
use Prim.Native.Nat.{◌+◌, ◌*◌, ◌≤◌}
use native.Mathlib.Omega.{arith}
use lib.ListN.{length}
use Rattle.updates.proofs.Rows.{row-size, row-at, row_small}
use Rattle.subsumption.proofs.Shifts.{edge-as}
use Rattle.subsumption.proofs.Fallen.{lent-covered}
use Rattle.subsumption.proofs.count_edge.Goals as goal

pub shift_edge-requires : goal.shift_edge-requires
shift_edge-requires c =
    let args = c.args in
    let rows = c.requires.tasks_in_bounds in
    let few = c.requires.tasks_bound in
    let from-room : args.source * 64 + 64 ≤ length args.delays.from.now = omega (arith, rows.0, few.1) in
    let to_room : args.sink * 64 + 64 ≤ length args.delays.to.now = omega (arith, rows.1, few.2) in
    let from_size = row-size args.source args.delays.from.now from-room in
    let to_size = row-size args.sink args.delays.to.now to_room in
    let small = row_small args.sink args.delays.to.now to_room rows.3 in
    record {
      from_len = (from_size, to_size, from_size, to_size, small, small);
      limit_bound = (omega arith, few.3, few.0, rows.2, λ b l below limit. refl);
      covered = lent-covered args.delays.from.now args.delays.to.now args.source args.sink from-room to_room 0 args.counts.now few.0 few.4;
    }

pub returns : goal.returns
returns c =
    let args = c.args in
    let rows = c.requires.tasks_in_bounds in
    let few = c.requires.tasks_bound in
    let from-room : args.source * 64 + 64 ≤ length args.delays.from.now = omega (arith, rows.0, few.1) in
    let to_room : args.sink * 64 + 64 ≤ length args.delays.to.now = omega (arith, rows.1, few.2) in
    let from_is = row-at args.source args.delays.from.now from-room in
    let to_is = row-at args.sink args.delays.to.now to_room in
    edge-as few.0 refl from_is to_is from_is to_is c.shift_edge.ensures
