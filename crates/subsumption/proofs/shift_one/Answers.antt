-- `subsumption::shift_one` meets its contract: the edge is counted by the rows of its source and sink as they fall, and where none of their numbers falls to
-- its own delay, its shares stay.
use mathlib.Core.Path.{sym, ◌∙◌}
use mathlib.Core.Bool.{not}
use Prim.Native.Nat.{◌+◌, ◌*◌, ◌≤◌}
use native.Mathlib.Omega.{arith}
use lib.ListN.{length}
use Rattle.records.specs.Columns.{at, edge_of}
use Rattle.updates.proofs.Rows.{row-size, row-at, row_small}
use Rattle.subsumption.specs.Subsumption.{subsumes_by}
use Rattle.subsumption.proofs.Shifts.{counted-few, edge-as}
use Rattle.subsumption.proofs.Totals.{edge-still, limit-stays}
use Rattle.subsumption.proofs.Fallen.{lent-covered, far-fell, lowered-fell, lowered-small, lowered-tests, limit-far}
use Rattle.subsumption.proofs.shift_one.Goals as goal

pub returns-then-both_above : goal.returns-then-both_above
unfolding at edge_of
returns-then-both_above c =
    let args = c.args in
    let far = c.both_above.ensures c.if-both_above.true in
    edge-still args.e.delay (far-fell args.a args.b args.before.from.now args.e.source far.0) (far-fell args.b args.a args.before.to.now args.e.sink far.1) args.counts.now c.requires.tasks_bound.0
    (limit-far args.before.from.now args.before.to.now args.a args.b args.e.source args.e.sink args.e.delay far.0)

pub returns-then-both_above-2 : goal.returns-then-both_above-2
returns-then-both_above-2 c =
    let args = c.args in
    let far = c.both_above-then-limit-ne0.ensures c.if-both_above-2.true in
    let limit = c.limit_after-limit.ensures in
    edge-still args.e.delay (lowered-fell c.lowered-fell_from.ensures far.0) (lowered-fell c.lowered-fell_to.ensures far.1) args.counts.now c.requires.tasks_bound.0
    (sym limit ∙ limit-stays (not (subsumes_by args.before.from.now args.before.to.now args.a args.b (edge_of args.e))) limit c.if-limit-ne0.true)

pub shift_edge-requires : goal.shift_edge-requires
shift_edge-requires c =
    let args = c.args in
    let few = c.requires.tasks_bound in
    let from-room : args.e.source * 64 + 64 ≤ length args.before.from.now = omega (arith, c.requires.tasks_in_bounds.0, few.3) in
    let to_room : args.e.sink * 64 + 64 ≤ length args.before.to.now = omega (arith, c.requires.tasks_in_bounds.1, few.4) in
    let sinks = c.lowered-fell_to.ensures in
    let stays = counted-few (not (subsumes_by args.before.from.now args.before.to.now args.a args.b (edge_of args.e))) (args.e.delay + 1) in
    record {
      from_len = (
        row-size args.e.source args.before.from.now from-room,
        row-size args.e.sink args.before.to.now to_room,
        c.lowered-fell_from.ensures.size,
        sinks.size,
        row_small args.e.sink args.before.to.now to_room c.requires.tasks_in_bounds.4,
        lowered-small sinks c.requires.tasks_in_bounds.4,
      );
      limit_bound = (omega arith, omega (arith, c.limit_after-limit.ensures, stays), few.0, c.requires.tasks_in_bounds.2, lowered-tests sinks to_room);
      covered = lent-covered args.before.from.now args.before.to.now args.e.source args.e.sink from-room to_room (args.e.delay + 1) args.counts.now few.0 c.requires.covered;
    }

pub returns : goal.returns
returns c =
    let args = c.args in
    let few = c.requires.tasks_bound in
    let from-room : args.e.source * 64 + 64 ≤ length args.before.from.now = omega (arith, c.requires.tasks_in_bounds.0, few.3) in
    let to_room : args.e.sink * 64 + 64 ≤ length args.before.to.now = omega (arith, c.requires.tasks_in_bounds.1, few.4) in
    let sources = c.lowered-fell_from.ensures in
    let sinks = c.lowered-fell_to.ensures in
    edge-as few.0 c.limit_after-limit.ensures (row-at args.e.source args.before.from.now from-room) (row-at args.e.sink args.before.to.now to_room) sources.each sinks.each
    c.shift_edge.ensures
