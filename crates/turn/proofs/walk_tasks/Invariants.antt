-- `turn::walk_tasks` meets its contract: each step takes one task more, and keeps what `Taking` says.
use Prim.Native.Nat.{◌-◌}
use lib.ListN.{length}
use Rattle.turn.proofs.Taking.{Taking}
use Rattle.turn.proofs.walk_tasks.Given as goal

abbrev pub invariant-loop-ready : goal.invariant-loop-ready
invariant-loop-ready l = Taking l.sinks l.sources l.time (length l.initial.row) l.input l.taken l.done l.ready l.reached l.row l.sequence

abbrev pub decreases-loop-ready : goal.decreases-loop-ready
decreases-loop-ready l = length l.initial.row - l.taken
