-- `turn::raise` meets its contract: the tasks that have left the set are raised.
use Rattle.turn.proofs.Raising.{Raising, Releasing}
use Rattle.turn.proofs.raise.Given as goal

abbrev pub invariant-loop-rest : goal.invariant-loop-rest
invariant-loop-rest l =
    Raising l.word l.end l.initial.row l.rest l.row × Releasing l.sources l.left l.word l.rest l.ready

abbrev pub decreases-loop-rest : goal.decreases-loop-rest
decreases-loop-rest l = l.rest
