-- `updates::lower_row` meets its contract: after y steps y numbers are lowered, and each of them that fell is at least the least so far.
use mathlib.Core.Path.{◌≡◌, subst}
use mathlib.Core.Logic.{inr}
use Prim.Native.Nat.{ℕ, ◌+◌, ◌≤◌, ◌<◌}
use native.Mathlib.Omega.{arith}
use lib.ListN.{length, get_or}
use Rattle.records.specs.Columns.{at}
use Rattle.updates.specs.Updates.{RowFell}
use Rattle.updates.proofs.Falls.{fall-counted, fall-small, row_none, row_more}
use Rattle.updates.proofs.lower_row.Goals as goal
use Rattle.updates.proofs.lower_row.Goals.{In-loop-y}

-- the number read and written stands within the rows, and is small, since it is as it was
inside : (c : In-loop-y) → c.args.start + c.loop-y.y < length c.loop-y.rows
inside c = omega (arith, c.loop-y.invariant.0.size, c.requires.start_in_bounds, c.loop-y-test.true)

small : (c : In-loop-y) → at c.loop-y.rows (c.args.start + c.loop-y.y) ≤ 16383
small c =
    let y = c.loop-y.y in
    omega (
      arith,
      c.loop-y.invariant.0.outside (c.args.start + y) (inr (omega arith)),
      c.requires.start_in_bounds.2 y (omega (arith, c.loop-y-test.true)),
    )

pub loop-y-init : goal.loop-y-init
loop-y-init c =
    let args = c.args in
    (row_none args.way args.onward.now args.start args.rows.now 32767, omega arith)

pub bounds-rows-start : goal.bounds-rows-start
bounds-rows-start c = inside (goal.at.bounds-rows-start c).In-loop-y

pub overflow_add-way : goal.overflow_add-way
unfolding at
overflow_add-way c =
    let asked = c.requires.way_bound in
    omega (arith, asked.0, asked.2 c.loop-y.y (omega (arith, c.loop-y-test.true)))

pub nearer-after-requires : goal.nearer-after-requires
unfolding at
nearer-after-requires c =
    let asked = c.requires.way_bound in
    (omega (arith, small (goal.at.nearer-after-requires c).In-loop-y), omega (arith, asked.0, asked.2 c.loop-y.y (omega (arith, c.loop-y-test.true))))

pub fallen-requires : goal.fallen-requires
unfolding at
fallen-requires c = (omega (arith, small (goal.at.fallen-requires c).In-loop-y), omega (arith, small (goal.at.fallen-requires c).In-loop-y, c.nearer-after.ensures))

pub nearer-least-requires : goal.nearer-least-requires
unfolding at
nearer-least-requires c =
    (c.loop-y.invariant.1, fall-small (omega (arith, small (goal.at.nearer-least-requires c).In-loop-y)) c.fallen.ensures.same c.fallen.ensures.less)

pub bounds-rows-start-in-loop-y : goal.bounds-rows-start-in-loop-y
bounds-rows-start-in-loop-y c = inside (goal.at.bounds-rows-start-in-loop-y c).In-loop-y

pub loop-y-preserved : goal.loop-y-preserved
unfolding at
loop-y-preserved c =
    let args = c.args in
    let y = c.loop-y.y in
    let old = get_or c.loop-y.rows (args.start + y) 0 in
    let new = c.nearer-after.result in
    let is = c.nearer-after.ensures in
    let low : new ≤ old = omega (arith, is) in
    let least = c.loop-y.least in
    let kept : c.nearer-least.result ≤ least = omega (arith, c.nearer-least.ensures) in (
      row_more args.way args.onward.now args.start new c.nearer-least.result c.loop-y.invariant.0 (inside (goal.at.loop-y-preserved c).In-loop-y) is kept
          (fall-counted old new c.fallen.result least low c.fallen.ensures.less c.nearer-least.ensures),
      omega (arith, c.loop-y.invariant.1),
    )

pub returns : goal.returns
returns c =
    let args = c.args in
    let whole : c.loop-y.y ≡ 64 = omega arith in
    subst (λ (y : ℕ). RowFell args.way args.onward.now args.start y args.rows.now c.loop-y.rows c.loop-y.least) whole
    c.loop-y.invariant.0
