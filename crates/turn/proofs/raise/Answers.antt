-- `turn::raise` meets its contract: the tasks that have left the set are raised.
use Prim.Native.Nat.{ℕ}
use mathlib.Core.Path.{◌≡◌, sym, subst}
use mathlib.Core.Bool.{not, ◌&&◌}
use native.Mathlib.Omega.{arith}
use lib.Dec.{eqb}
use Rattle.records.specs.Columns.{at}
use Rattle.reach.specs.Reach.{bit}
use Rattle.turn.proofs.Raising.{raising-none, raising-more, raising-all, releasing-none, releasing-more, releasing-all}
use Rattle.turn.proofs.raise.Goals as goal

pub loop-rest-init : goal.loop-rest-init
loop-rest-init c =
    let args = c.args in
    (raising-none args.word args.end args.row.now, releasing-none args.sources.now args.left args.word)

pub loop-rest-preserved : goal.loop-rest-preserved
unfolding at
loop-rest-preserved c =
    let inv = c.loop-rest.invariant in
    let t = c.first_task-t.result in
    let on = inv.0.part t c.first_task-t.ensures.2 in
    let there = c.requires.by_index t on in
    let rest = c.without_first-rest.result in
    let out : (b : ℕ) → bit rest b ≡ bit c.loop-rest.rest b && not (eqb t b) =
    subst (λ (u : ℕ). (b : ℕ) → bit rest b ≡ bit c.loop-rest.rest b && not (eqb u b)) (sym c.first_task-t.ensures.0) c.without_first-rest.ensures.1 in
    (raising-more inv.0 t rest (omega (arith, there, inv.0.size)) c.first_task-t.ensures.2 c.max.ensures out, releasing-more inv.1 t rest on out c.with_task_if_empty-ready.ensures)

pub returns : goal.returns
returns c =
    record {
      lifted = raising-all c.loop-rest.invariant.0 c.loop-rest-test.false;
      released = releasing-all c.loop-rest.invariant.1 c.loop-rest-test.false;
    }
