-- `reach::take_between` meets its contract: after j steps the words hold where the first j edges lead, between processors.
use lib.ListN.{take}
use Rattle.std.specs.Prelude.{map}
use Rattle.records.specs.Columns.{edges_in}
use Rattle.reach.specs.Reach.{between}
use Rattle.reach.proofs.Rounds.{EdgesTaken}
use Rattle.reach.proofs.take_between.Given as goal

abbrev pub invariant-loop-e : goal.invariant-loop-e
invariant-loop-e l = EdgesTaken (map (between l.processor) (edges_in (take l.e-index l.edges))) l.words
