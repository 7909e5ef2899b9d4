-- `delays::least_table` meets its contract: after each turn of the loop the rows from the last down to this task's are final, and the rest of the list is as
-- it was.
use mathlib.Core.Path.{◌≡◌, refl, sym, ap, ◌∙◌}
use mathlib.Core.List.{List}
use Prim.Native.Nat.{ℕ, suc, ◌-◌, ◌<◌}
use native.Mathlib.Omega.{arith}
use Rattle.records.specs.Columns.{edges_in}
use Rattle.delays.specs.Delays.{with_row, rows_from}
use Rattle.delays.proofs.Table.{rows_none, rows_next, rows_all}
use Rattle.delays.proofs.Steps.{fit_wide, steps-known}
use Rattle.delays.proofs.least_table.Goals as goal

pub take_steps-requires : goal.take_steps-requires
take_steps-requires c = record { fit = fit_wide c.requires.tasks_bound.0 c.requires.fit; square_value = refl }

pub loop-a-init : goal.loop-a-init
loop-a-init c = (refl, steps-known c.requires.tasks_bound.0 c.requires.fit c.take_steps.ensures, sym (rows_none c.args.tasks (edges_in c.args.edges.now) c.args.table.now))

pub fill_row-done-requires : goal.fill_row-done-requires
fill_row-done-requires c = (omega arith, omega (arith, c.requires.tasks_bound.1), (edges_in c.args.edges.now, c.loop-a.invariant.1))

pub loop-a-preserved : goal.loop-a-preserved
loop-a-preserved c =
    let es = edges_in c.args.edges.now in
    let inner : c.loop-a.a - 1 < c.args.tasks = omega arith in
    let last : c.loop-a.a ≡ suc (c.loop-a.a - 1) = omega arith in (
      omega (arith, c.loop-a.invariant.0),
      c.fill_row-done.ensures.known es c.loop-a.invariant.1,
      c.fill_row-done.ensures.row es c.loop-a.invariant.1 ∙
          (ap (λ (xs : List ℕ). with_row c.args.tasks es (c.loop-a.a - 1) xs)
          (c.loop-a.invariant.2 ∙ ap (λ (k : ℕ). rows_from c.args.tasks es k c.args.table.now) last) ∙
          rows_next c.args.tasks es c.args.table.now (c.loop-a.a - 1) inner c.requires.tasks_bound.1),
    )

pub returns : goal.returns
returns c =
    let none : c.loop-a.a ≡ 0 = omega (arith, c.loop-a-test.false) in
    c.loop-a.invariant.2 ∙ (ap (λ (k : ℕ). rows_from c.args.tasks (edges_in c.args.edges.now) k c.args.table.now) none ∙ rows_all c.args.tasks (edges_in c.args.edges.now) c.args.table.now c.requires.tasks_bound.1)
