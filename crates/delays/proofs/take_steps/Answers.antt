-- `delays::take_steps` meets its contract: after j edges the square holds the steps of these.
use native.Mathlib.Omega.{arith}
use Rattle.delays.proofs.Steps.{fit_at, none-taken, one-taken, all-taken}
use Rattle.delays.proofs.take_steps.Goals as goal

pub loop-e-init : goal.loop-e-init
loop-e-init c = none-taken c.args.edges.now c.requires.square_value

pub bounds-square-at : goal.bounds-square-at
bounds-square-at c =
    let place = fit_at c.args.edges.now c.loop-e.e-index c.requires.fit c.loop-e-test.true in
    omega (arith, place, c.loop-e.invariant.size)

pub bounds-square-at-in-loop-e : goal.bounds-square-at-in-loop-e
bounds-square-at-in-loop-e c =
    let place = fit_at c.args.edges.now c.loop-e.e-index c.requires.fit c.loop-e-test.true in
    omega (arith, place, c.loop-e.invariant.size)

pub loop-e-preserved : goal.loop-e-preserved
loop-e-preserved c = one-taken c.args.edges.now c.requires.fit c.loop-e-test.true c.loop-e.invariant c.min.ensures

pub returns : goal.returns
returns c = all-taken c.args.edges.now (omega (arith, c.loop-e-test.false)) c.loop-e.invariant
