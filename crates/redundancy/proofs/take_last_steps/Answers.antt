-- `redundancy::take_last_steps` meets its contract: after j edges the square holds the steps of these, turned round.
use native.Mathlib.Omega.{arith}
use lib.ListN.{length-map}
use Rattle.std.specs.Prelude.{map}
use Rattle.delays.proofs.Steps.{fit_at, none-taken, all-taken}
use Rattle.redundancy.specs.Redundancy.{turned}
use Rattle.redundancy.proofs.Turned.{turned-taken}
use Rattle.redundancy.proofs.take_last_steps.Goals as goal

pub loop-e-init : goal.loop-e-init
loop-e-init c = none-taken (map turned c.args.edges.now) c.requires.square_value

pub bounds-square-at : goal.bounds-square-at
bounds-square-at c =
    let place = fit_at c.args.edges.now c.loop-e.e-index c.requires.fit c.loop-e-test.true in
    omega (arith, place, c.loop-e.invariant.size)

pub bounds-square-at-in-loop-e : goal.bounds-square-at-in-loop-e
bounds-square-at-in-loop-e c =
    let place = fit_at c.args.edges.now c.loop-e.e-index c.requires.fit c.loop-e-test.true in
    omega (arith, place, c.loop-e.invariant.size)

pub loop-e-preserved : goal.loop-e-preserved
loop-e-preserved c = turned-taken c.args.edges.now c.requires.fit c.loop-e-test.true c.loop-e.invariant c.min.ensures

pub returns : goal.returns
returns c =
    all-taken (map turned c.args.edges.now) (omega (arith, c.loop-e-test.false, length-map c.args.edges.now turned)) c.loop-e.invariant
