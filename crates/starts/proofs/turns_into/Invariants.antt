-- `starts::turns_into` meets its contract: the turns so far stand in front of what the list held, and each turn is made in its own part of the list, from
-- what is gathered from the turns before it.
use mathlib.Core.Path.{◌≡◌}
use lib.ListN.{length}
use Rattle.records.specs.Columns.{edges_in, at}
use Rattle.starts.proofs.Filling.{TurnsFilled}
use Rattle.starts.proofs.turns_into.Given as goal

abbrev pub invariant-loop-done : goal.invariant-loop-done
invariant-loop-done l = record {
  filled : TurnsFilled (length l.time) (edges_in l.edges) (at l.time) l.initial.starts l.done l.starts;
  awaited-long : length l.awaited ≡ 64;
}
