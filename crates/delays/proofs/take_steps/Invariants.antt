-- `delays::take_steps` meets its contract: after j edges the square holds the steps of these.
use Rattle.delays.proofs.Steps.{StepsTaken}
use Rattle.delays.proofs.take_steps.Given as goal

abbrev pub invariant-loop-e : goal.invariant-loop-e
invariant-loop-e l = StepsTaken l.edges l.e-index l.square
