-- `judgement::lost_order` meets its contract: the orders looked at so far are held. One is held where the entry of its ends is within its delay, and lost where
-- that entry is above it in a finished row.
use mathlib.Core.Path.{◌≡◌, refl, ap, ◌∙◌}
use mathlib.Core.Bool.{true}
use Prim.Native.Nat.{ℕ, ◌+◌, ◌*◌, ◌≤◌}
use native.Mathlib.Numerals.{add-one}
use native.Mathlib.Omega.{arith}
use borrow.Author.Count.{below_none, below_more}
use lib.ListN.{get_or}
use Rattle.records.specs.Columns.{edges_in}
use Rattle.delays.specs.Rows.{Known}
use Rattle.delays.proofs.Steps.{fit_wide, steps-known}
use Rattle.judgement.proofs.Orders.{held, behind, place, moved, order-held, order_lost, first-lost, none-lost}
use Rattle.judgement.proofs.lost_order.Goals as goal
use Rattle.judgement.proofs.lost_order.Goals.{then-most-known+else-most-known-2, else-most-known}

pub take_steps-requires : goal.take_steps-requires
take_steps-requires c = record { fit = fit_wide c.requires.tasks_in_bounds.2 c.requires.fit_2; square_value = refl }

pub loop-j-init : goal.loop-j-init
loop-j-init c = (
  steps-known c.requires.tasks_in_bounds.2 c.requires.fit_2 c.take_steps.ensures,
  below_none (λ i. held c.args.edges.now (edges_in c.args.made.now) c.requires.fit i ≡ true),
)

pub bounds-known-at : goal.bounds-known-at
bounds-known-at c =
    let there = place c.args.edges.now (edges_in c.args.made.now) c.requires.fit c.loop-j.j c.requires.tasks_in_bounds.2 c.loop-j-test.true in
    omega (arith, there, c.loop-j.invariant.0.size)

pub finish_row-done-requires : goal.finish_row-done-requires
finish_row-done-requires c =
    let there = place c.args.edges.now (edges_in c.args.made.now) c.requires.fit c.loop-j.j c.requires.tasks_in_bounds.2 c.loop-j-test.true in
    (omega (arith, there), (edges_in c.args.made.now, c.loop-j.invariant.0))

pub returns-then-most-known-2 : goal.returns-then-most-known-2
returns-then-most-known-2 c =
    let square = c.finish_row-done.ensures.known (edges_in c.args.made.now) c.loop-j.invariant.0 in
    ap (λ (k : ℕ). record { number = 14; place = k }) (add-one c.loop-j.j) ∙
    first-lost c.args.edges.now (edges_in c.args.made.now) c.requires.fit c.loop-j.j c.loop-j-test.true c.loop-j.invariant.1
    (order_lost c.args.edges.now (edges_in c.args.made.now) c.requires.fit c.loop-j.j square c.loop-j-test.true c.finish_row-done.ensures.done
    c.if-most-known-2.true)

pub loop-j-preserved : goal.loop-j-preserved
loop-j-preserved c =
    let e = behind c.args.edges.now (edges_in c.args.made.now) c.requires.fit c.loop-j.j in
    let place = e.source * 64 + e.sink in
    let now :
    Known c.args.tasks (edges_in c.args.made.now) c.if-most-known.done c.if-most-known.known × (get_or c.if-most-known.known place 0 ≤ e.delay) =
    elim c.if-most-known.branch [
      | then-most-known+else-most-known-2 w ↦
          moved place e.delay w.known-is w.done-is
          (w.finish_row-done.ensures.known (edges_in c.args.made.now) c.loop-j.invariant.0)
          w.if-most-known-2.false
      | else-most-known w ↦ moved place e.delay w.known-is w.done-is c.loop-j.invariant.0 w.if-most-known.false
    ] in (
      now.0,
      below_more (λ i. held c.args.edges.now (edges_in c.args.made.now) c.requires.fit i ≡ true) c.loop-j.j c.loop-j.invariant.1
          (order-held c.args.edges.now (edges_in c.args.made.now) c.requires.fit c.loop-j.j now.0 c.loop-j-test.true now.1),
    )

pub returns : goal.returns
returns c =
    none-lost c.args.edges.now (edges_in c.args.made.now) c.requires.fit (λ i below. c.loop-j.invariant.1 i (omega (arith, below, c.loop-j-test.false)))
