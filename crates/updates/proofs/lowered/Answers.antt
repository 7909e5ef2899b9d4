-- `updates::lowered` meets its contract: a copy of the row is lowered by the row that is lent as a part of the same list.
use Prim.Native.Nat.{◌+◌, ◌*◌}
use native.Mathlib.Omega.{arith}
use Rattle.records.specs.Columns.{at}
use Rattle.delays.proofs.Rows.{row-copied}
use Rattle.updates.proofs.Rows.{row-size, row_small, copied-small}
use Rattle.updates.proofs.Falls.{row-lowered}
use Rattle.updates.proofs.lowered.Goals as goal

pub lower_row-requires : goal.lower_row-requires
unfolding at
lower_row-requires c =
    let pre = c.requires in
    let rows = c.args.rows.now in
    let copied = row-copied pre.3 c.copy_from_slice.ensures.after in
    record {
      way_bound = (pre.6 (c.args.x * 64 + c.args.near), row-size c.args.far rows pre.4, λ y l. row_small c.args.far rows pre.4 pre.6 y);
      start_in_bounds = (omega (arith, copied.size), omega arith, λ y l. copied-small copied pre.6 (0 + y));
    }

pub returns : goal.returns
unfolding at
returns c = row-lowered c.requires.4 (row-copied c.requires.3 c.copy_from_slice.ensures.after) c.lower_row.ensures
