-- `passes::lift_from` meets its contract: the tasks that have left the word are raised.
use mathlib.Core.Path.{◌≡◌, refl, sym, subst}
use mathlib.Core.Bool.{not, ◌&&◌}
use mathlib.Core.List.{List}
use Prim.Native.Nat.{ℕ, ◌+◌}
use native.Mathlib.Omega.{arith}
use lib.Dec.{eqb}
use lib.ListN.{get_or}
use Rattle.records.specs.Columns.{at}
use Rattle.reach.specs.Reach.{bit}
use Rattle.turn.proofs.Raising.{Raising, raising-none, raising-more, raising-all}
use Rattle.passes.proofs.lift_from.Goals as goal

pub overflow_add-end : goal.overflow_add-end
unfolding at
overflow_add-end c = omega (arith, c.requires.words_len.4, c.type_inv.time c.args.v)

pub loop-rest-init : goal.loop-rest-init
unfolding at
loop-rest-init c = raising-none (get_or c.args.words.now c.args.v 0) (at c.args.row.now c.args.v + at c.args.time.now c.args.v) c.args.row.now

pub lift-requires : goal.lift-requires
lift-requires c = omega (arith, c.requires.by_index c.first_task-t.result (c.loop-rest.invariant.part c.first_task-t.result c.first_task-t.ensures.2), c.loop-rest.invariant.size)

pub loop-rest-preserved : goal.loop-rest-preserved
unfolding at
loop-rest-preserved c =
    let t = c.first_task-t.result in
    let rest = c.without_first-rest.result in
    let inv = c.loop-rest.invariant in
    let args = c.args in
    let out : (b : ℕ) → bit rest b ≡ bit c.loop-rest.rest b && not (eqb t b) = subst (λ (u : ℕ). (b : ℕ) → bit rest b ≡ bit c.loop-rest.rest b && not (eqb u b)) (sym c.first_task-t.ensures.0) c.without_first-rest.ensures.1 in
    subst (λ (xs : List ℕ). Raising (get_or args.words.now args.v 0) (at args.row.now args.v + at args.time.now args.v) args.row.now rest xs) (sym c.lift.ensures)
    (raising-more inv t rest (omega (arith, c.requires.by_index c.first_task-t.result (c.loop-rest.invariant.part c.first_task-t.result c.first_task-t.ensures.2), inv.size)) c.first_task-t.ensures.2 refl out)

pub returns : goal.returns
unfolding at
returns c = raising-all c.loop-rest.invariant c.loop-rest-test.false
