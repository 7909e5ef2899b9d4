-- `subsumption::shift_edges` meets its contract: after j steps the first j edges are counted by the delays as they fall, whatever lists hold them.
use mathlib.Core.Path.{◌≡◌, refl, sym}
use native.Mathlib.Omega.{arith}
use lib.ListN.{length}
use Rattle.records.specs.Columns.{at, edge_of}
use Rattle.records.proofs.EdgesIn.{ends_at}
use Rattle.subsumption.proofs.Shifts.{edge-as}
use Rattle.subsumption.proofs.Totals.{changed-none, changed-covered, changed-more, changed-all}
use Rattle.subsumption.proofs.Fallen.{lowered-rows, lowers-rows}
use Rattle.subsumption.proofs.shift_edges.Goals as goal

pub loop-e-init : goal.loop-e-init
loop-e-init c =
    λ from' to' rows columns. changed-none _ _ _ _ _ _ _ c.requires.counts_of

pub shift_one-requires : goal.shift_one-requires
unfolding at edge_of
shift_one-requires c =
    let args = c.args in
    let loop = c.loop-e in
    let below = c.loop-e-test.true in
    let rows = c.requires.tasks_in_bounds in
    let few = c.requires.tasks_bound in
    let ends = ends_at args.edges.now few.3 loop.e-index below in
    let from' = lowered-rows args.a args.b args.before.tasks args.before.from.now in
    let to' = lowered-rows args.b args.a args.before.tasks args.before.to.now in
    let changed =
    loop.invariant from' to' (lowers-rows args.a args.b args.before.tasks args.before.from.now) (lowers-rows args.b args.a args.before.tasks args.before.to.now) in
    record {
      tasks_in_bounds = (rows.0, rows.1, changed.size, rows.2, rows.3);
      tasks_bound = (few.0, few.1, few.2, ends.0, ends.1);
      covered = changed-covered _ _ _ _ _ _ _ below changed c.requires.edges_bound;
    }

pub loop-e-preserved : goal.loop-e-preserved
unfolding at
loop-e-preserved c =
    let args = c.args in
    let loop = c.loop-e in
    let below = c.loop-e-test.true in
    let few = c.requires.tasks_bound in
    let ends = ends_at args.edges.now few.3 loop.e-index below in
    λ from' to' rows columns.
    changed-more _ _ _ _ _ _ _ below (loop.invariant from' to' rows columns)
    (edge-as few.0 refl (λ x l. refl) (λ x l. refl) (λ x l. sym (rows _ x ends.0 l)) (λ x l. sym (columns _ x ends.1 l)) c.shift_one.ensures)

pub returns : goal.returns
returns c =
    let whole : c.loop-e.e-index ≡ length c.args.edges.now = omega arith in
    λ from' to' rows columns.
    changed-all _ _ _ _ _ _ _
    (rw whole at (c.loop-e.invariant from' to' rows columns))
