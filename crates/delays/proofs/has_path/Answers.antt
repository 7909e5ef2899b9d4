-- `delays::has_path` meets its contract: the entry stands within the table, and is 65,535 exactly where there is no least delay.
use mathlib.Core.Path.{ap, ◌∙◌}
use mathlib.Core.Bool.{not}
use mathlib.Core.List.{List}
use Prim.Native.Nat.{ℕ, ◌+◌, ◌*◌}
use native.Mathlib.Omega.{arith}
use lib.Dec.{eqb}
use lib.ListN.{get_or}
use Rattle.records.proofs.Rows.{place-within, place-small}
use Rattle.delays.proofs.Table.{table_at}
use Rattle.delays.proofs.Paths.{path-by-entry}
use Rattle.delays.proofs.has_path.Goals as goal

pub overflow_mul-result : goal.overflow_mul-result
overflow_mul-result c = omega (arith, place-small c.args.tasks c.args.from c.args.to c.requires.0 c.requires.1 c.requires.2)

pub overflow_add-result : goal.overflow_add-result
overflow_add-result c = omega (arith, place-small c.args.tasks c.args.from c.args.to c.requires.0 c.requires.1 c.requires.2)

pub offset_bounds-table-from : goal.offset_bounds-table-from
offset_bounds-table-from c = omega (arith, place-small c.args.tasks c.args.from c.args.to c.requires.0 c.requires.1 c.requires.2)

pub bounds-table-from : goal.bounds-table-from
bounds-table-from c =
    let args = c.args in
    let asked = c.requires in
    omega (arith, place-within args.tasks args.tasks args.from args.to asked.1 asked.2, asked.3)

pub returns : goal.returns
returns c = λ es fit is.
    let args = c.args in
    let asked = c.requires in
    ap (λ (xs : List ℕ). not (eqb (get_or xs (args.from * args.tasks + args.to) 0) 65535)) is ∙
    (ap (λ (x : ℕ). not (eqb x 65535)) (table_at args.tasks es args.from args.to asked.1 asked.2) ∙
    path-by-entry asked.0 fit args.from args.to)
