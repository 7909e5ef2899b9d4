-- `redundancy::take_last_steps` meets its contract: after j edges the square holds the steps of these, turned round.
use Rattle.std.specs.Prelude.{map}
use Rattle.delays.proofs.Steps.{StepsTaken}
use Rattle.redundancy.specs.Redundancy.{turned}
use Rattle.redundancy.proofs.take_last_steps.Given as goal

abbrev pub invariant-loop-e : goal.invariant-loop-e
invariant-loop-e l = StepsTaken (map turned l.edges) l.e-index l.square
