-- `updates::join_rows` meets its contract: after x steps the first x rows are lowered. A row without a way stays, since no number is above 16,383.
use mathlib.Core.Path.{◌≡◌, refl, sym, subst}
use mathlib.Core.List.{List}
use Prim.Native.Nat.{ℕ, ◌+◌, ◌*◌, ◌≤◌, ◌<◌}
use native.Mathlib.Omega.{arith}
use lib.ListN.{length}
use Rattle.records.specs.Columns.{at}
use Rattle.delays.specs.Rows.{RowCopied}
use Rattle.delays.proofs.Rows.{row-copied}
use Rattle.updates.specs.Updates.{RowsJoined}
use Rattle.updates.proofs.Rows.{copied-small}
use Rattle.updates.proofs.Falls.{JoinedSoFar, joined-none, joined-more, row-still}
use Rattle.updates.proofs.join_rows.Goals as goal
use Rattle.updates.proofs.join_rows.Goals.{then-way-ne-FAR, else-way-ne-FAR, In-loop-x}

few : (c : In-loop-x) → c.loop-x.x < 64
few c = omega (arith, c.requires.0, c.loop-x-test.true)

row_inside : (c : In-loop-x) → c.loop-x.x * 64 + 64 ≤ length c.loop-x.rows
row_inside c = omega (arith, c.loop-x.invariant.joined.size, c.requires.3, c.loop-x-test.true)

copied : (c : In-loop-x) → RowCopied c.args.rows.now (c.args.far * 64) c.copy_from_slice.new.self
copied c = row-copied (omega (arith, c.requires)) c.copy_from_slice.ensures.after

pub loop-x-init : goal.loop-x-init
loop-x-init c = joined-none c.args.near c.args.far c.requires.4

pub bounds-rows-start : goal.bounds-rows-start
bounds-rows-start c = omega (arith, row_inside (goal.at.bounds-rows-start c).In-loop-x, c.requires.1)

pub lower_row-requires : goal.lower_row-requires
unfolding at
lower_row-requires c =
    let joined = c.loop-x.invariant.joined in
    let onward = copied (goal.at.lower_row-requires c).In-loop-x in
    record {
      way_bound = (omega (arith, joined.small (c.loop-x.x * 64 + c.args.near)), onward.size, λ y l. copied-small onward c.requires.4 y);
      start_in_bounds = (
        row_inside (goal.at.lower_row-requires c).In-loop-x,
        omega (arith, few (goal.at.lower_row-requires c).In-loop-x),
        λ y l. joined.small (c.loop-x.x * 64 + y),
      );
    }

pub loop-x-preserved : goal.loop-x-preserved
unfolding at
loop-x-preserved c =
    let done = c.loop-x.invariant in
    let onward = copied (goal.at.loop-x-preserved c).In-loop-x in
    let way = at c.loop-x.rows (c.loop-x.x * 64 + c.args.near) in
    let Next : List ℕ → Type 0 = λ rows. JoinedSoFar c.args.near c.args.far (c.loop-x.x + 1) c.args.rows.now rows in
    elim c.if-way-ne-FAR.branch [
      | then-way-ne-FAR w ↦ subst Next (sym w.rows-is) (joined-more done onward refl w.lower_row.ensures)
      | else-way-ne-FAR w ↦
          subst Next (sym w.rows-is)
          (joined-more done onward refl (row-still way c.copy_from_slice.new.self (c.loop-x.x * 64) c.loop-x.rows 32767 (omega (arith, w.if-way-ne-FAR.false)) done.joined.small))
    ]

pub returns : goal.returns
returns c =
    let whole : c.loop-x.x ≡ c.args.tasks = omega arith in
    subst (λ (x : ℕ). RowsJoined c.args.near c.args.far x c.args.rows.now c.loop-x.rows) whole c.loop-x.invariant.joined
