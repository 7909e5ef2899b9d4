-- `steps::follow_steps` meets its contract: the loop stands at a stage of the plan, as many steps after the first as it counted.
use native.Mathlib.Omega.{arith}
use Rattle.steps.proofs.Following.{standing-first, here-now, steps-small, adding, standing-next, fewer-edges, output-there, followed}
use Rattle.steps.proofs.follow_steps.Goals as goal

pub loop-taken-init : goal.loop-taken-init
loop-taken-init c = λ g begun. standing-first begun

pub step-requires : goal.step-requires
step-requires c =
    let stands = c.loop-taken.invariant c.requires.0 c.requires.1 in
    (c.requires.0, stands.list, here-now c.requires.1 stands)

pub next_times-order-requires : goal.next_times-order-requires
next_times-order-requires c =
    let begun = c.requires.1 in
    let stands = c.loop-taken.invariant c.requires.0 begun in
    (c.requires.0, stands.list, adding begun stands (c.in-Some.ensures c.requires.0 stands.list (here-now begun stands)))

pub overflow_add-steps : goal.overflow_add-steps
overflow_add-steps c = omega (arith, steps-small c.requires.1 (c.loop-taken.invariant c.requires.0 c.requires.1))

pub loop-taken-smaller : goal.loop-taken-smaller
loop-taken-smaller c =
    let begun = c.requires.1 in
    let stands = c.loop-taken.invariant c.requires.0 begun in
    fewer-edges begun stands (c.in-Some.ensures c.requires.0 stands.list (here-now begun stands))

pub loop-taken-preserved : goal.loop-taken-preserved
loop-taken-preserved c = λ g begun.
    let stands = c.loop-taken.invariant g begun in
    let taken = c.in-Some.ensures g stands.list (here-now begun stands) in
    let added = adding begun stands taken in
    let times = c.next_times-order.ensures in
    standing-next begun stands taken (times.ordered g stands.list added) (times.timed g stands.list added)

pub bounds-end-output : goal.bounds-end-output
bounds-end-output c = output-there c.requires.1 (c.loop-taken.invariant c.requires.0 c.requires.1)

pub returns : goal.returns
returns c = λ g begun.
    let stands = c.loop-taken.invariant g begun in
    let last = c.in_default.ensures g stands.list (here-now begun stands) in
    followed begun stands last.0 last.1
