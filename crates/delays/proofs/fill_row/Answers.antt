-- `delays::fill_row` meets its contract: the row is made in its part of the list.
use mathlib.Core.Path.{sym, subst}
use Prim.Native.Nat.{ℕ, ◌<◌}
use native.Mathlib.Omega.{arith}
use Rattle.records.proofs.Rows.{product_small}
use Rattle.delays.specs.Rows.{Known}
use Rattle.delays.proofs.Table.{row-end}
use Rattle.delays.proofs.Making.{part-size, part-known, list-made}
use Rattle.delays.proofs.fill_row.Goals as goal

pub overflow_mul-at : goal.overflow_mul-at
overflow_mul-at c = omega (arith, row-end c.requires.0, product_small c.args.tasks c.args.tasks c.requires.2.1.few c.requires.2.1.few)

pub overflow_add-end : goal.overflow_add-end
overflow_add-end c = omega (arith, row-end c.requires.0, product_small c.args.tasks c.args.tasks c.requires.2.1.few c.requires.2.1.few)

pub offset_bounds-table-at : goal.offset_bounds-table-at
offset_bounds-table-at c = omega (arith, row-end c.requires.0, product_small c.args.tasks c.args.tasks c.requires.2.1.few c.requires.2.1.few)

pub make_row-requires : goal.make_row-requires
make_row-requires c = (subst (λ (k : ℕ). c.args.a < k) (sym (part-size c.requires.0 c.args.table.now c.requires.1)) c.requires.0, (c.requires.2.0, part-known c.requires.0 c.args.table.now c.requires.1 c.requires.2.1))

pub returns : goal.returns
returns c = record {
  row = λ es square. list-made c.requires.0 c.args.table.now c.requires.1 es (c.make_row.ensures.row es (part-known c.requires.0 c.args.table.now c.requires.1 square));
  known = λ es square.
      subst (λ (k : ℕ). Known k es c.make_row.result c.make_row.new.known) (part-size c.requires.0 c.args.table.now c.requires.1)
      (c.make_row.ensures.known es (part-known c.requires.0 c.args.table.now c.requires.1 square));
}
