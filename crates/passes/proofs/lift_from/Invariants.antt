-- `passes::lift_from` meets its contract: the tasks that have left the word are raised.
use Prim.Native.Nat.{◌+◌}
use lib.ListN.{get_or}
use Rattle.records.specs.Columns.{at}
use Rattle.turn.proofs.Raising.{Raising}
use Rattle.passes.proofs.lift_from.Given as goal

abbrev pub invariant-loop-rest : goal.invariant-loop-rest
invariant-loop-rest l = Raising (get_or l.words l.v 0) (at l.initial.row l.v + at l.time l.v) l.initial.row l.rest l.row

abbrev pub decreases-loop-rest : goal.decreases-loop-rest
decreases-loop-rest l = l.rest
