-- `subsumption::exchange_row` meets its contract: after b steps the first b counts lost the one row and have the other.
use mathlib.Core.Path.{◌≡◌}
use mathlib.Core.Logic.{inr}
use Prim.Native.Nat.{◌+◌}
use native.Mathlib.Omega.{arith}
use Rattle.records.specs.Columns.{at}
use Rattle.subsumption.proofs.Shifts.{row_more}
use Rattle.subsumption.proofs.exchange_row.Goals as goal
use Rattle.subsumption.proofs.exchange_row.Goals.{In-loop-b}

-- the number read and written is as it was
still :
    (c : In-loop-b)
    → at c.loop-b.counts (c.args.place + c.loop-b.b) ≡ at c.args.counts.now (c.args.place + c.loop-b.b)
still c = c.loop-b.invariant.outside (c.args.place + c.loop-b.b) (inr (omega arith))

pub overflow_add-counts-in-loop-b : goal.overflow_add-counts-in-loop-b
unfolding at
overflow_add-counts-in-loop-b c =
    omega (arith, still (goal.at.overflow_add-counts-in-loop-b c).In-loop-b, c.requires.by_index c.loop-b.b (omega arith))

pub overflow_sub-counts : goal.overflow_sub-counts
unfolding at
overflow_sub-counts c =
    omega (arith, still (goal.at.overflow_sub-counts c).In-loop-b, c.requires.by_index c.loop-b.b (omega arith))

pub loop-b-preserved : goal.loop-b-preserved
unfolding at
loop-b-preserved c =
    let args = c.args in
    let loop = c.loop-b in
    row_more _ loop.invariant (omega arith) (omega (arith, still (goal.at.loop-b-preserved c).In-loop-b, c.requires.by_index loop.b (omega arith)))
