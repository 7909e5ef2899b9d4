-- `subsumption::shift_edge` meets its contract: after a steps the edge is counted anew for the pairs out of the first a tasks.
use mathlib.Core.Path.{◌≡◌}
use Prim.Native.Nat.{◌-◌, ◌<◌}
use native.Mathlib.Omega.{arith}
use Rattle.records.specs.Columns.{at}
use Rattle.subsumption.proofs.Shifts.{below-few, below-zero, edge_none, edge-covered, edge_moved, edge-passed}
use Rattle.subsumption.proofs.shift_edge.Goals as goal
use Rattle.subsumption.proofs.shift_edge.Goals.{then-moves, else-moves, In-loop-a}

few-rows : (c : In-loop-a) → c.loop-a.a < 64
few-rows c = omega (arith, c.requires.limit_bound.2, c.loop-a-test.true)

-- what is left for the row that is next
old-left :
    (c : In-loop-a)
    → at c.left_row.new.left c.loop-a.a ≡ c.args.was.limit - at c.args.was.from.now c.loop-a.a
old-left c = c.left_row.ensures.each c.loop-a.a (few-rows c)

new-left :
    (c : In-loop-a)
    → at c.left_row-2.new.left c.loop-a.a ≡ c.args.next.limit - at c.args.next.from.now c.loop-a.a
new-left c = c.left_row-2.ensures.each c.loop-a.a (few-rows c)

pub loop-a-init : goal.loop-a-init
loop-a-init c =
    let args = c.args in
    (edge_none args.counts.now, below-zero args.was.to.now, below-zero args.next.to.now)

pub renew_row-requires : goal.renew_row-requires
unfolding at
renew_row-requires c =
    let rows = c.requires.from_len in
    (rows.1, omega (arith, old-left (goal.at.renew_row-requires c).In-loop-a, c.requires.limit_bound.0), rows.4, c.loop-a.invariant.1)

pub renew_row-requires-then-moves : goal.renew_row-requires-then-moves
unfolding at
renew_row-requires-then-moves c =
    let rows = c.requires.from_len in
    (rows.3, omega (arith, new-left (goal.at.renew_row-requires-then-moves c).In-loop-a, c.requires.limit_bound.1), rows.5, c.loop-a.invariant.2)

pub exchange_row-requires : goal.exchange_row-requires
unfolding at
exchange_row-requires c =
    let args = c.args in
    let few = c.requires.limit_bound in
    let below = c.loop-a-test.true in
    let more = c.renew_row-then-moves.ensures in
    let less = c.renew_row.ensures in
    let loop = c.loop-a in
    record {
      more_len = (more.size, less.size, omega (arith, few.3, loop.invariant.0.size, below), omega (arith, few.2, below));
      by_index = λ b l.
          let covered = edge-covered loop.invariant.0 c.requires.covered below (old-left (goal.at.exchange_row-requires c).In-loop-a) b l in
          (below-few more b l, omega (arith, less.each b l, covered.0), covered.1);
    }

pub loop-a-preserved : goal.loop-a-preserved
unfolding at
loop-a-preserved c =
    let loop = c.loop-a in
    let old = old-left (goal.at.loop-a-preserved c).In-loop-a in
    let new = new-left (goal.at.loop-a-preserved c).In-loop-a in (
      elim c.if-moves.branch [
        | then-moves w ↦
            rw w.counts-is
            (edge_moved loop.invariant.0 old new (λ b l. w.renew_row.ensures.each b l) (λ b l. w.renew_row-then-moves.ensures.each b l) w.exchange_row.ensures)
        | else-moves w ↦ rw w.counts-is (edge-passed loop.invariant.0 old new c.requires.limit_bound.4 (c.moves.ensures w.if-moves.false))
      ],
      elim c.if-moves.branch [
        | then-moves w ↦ rw (w.less-is, w.last-is) w.renew_row.ensures
        | else-moves w ↦ rw (w.less-is, w.last-is) loop.invariant.1
      ],
      elim c.if-moves.branch [
        | then-moves w ↦ rw (w.more-is, w.next_last-is) w.renew_row-then-moves.ensures
        | else-moves w ↦ rw (w.more-is, w.next_last-is) loop.invariant.2
      ],
    )
