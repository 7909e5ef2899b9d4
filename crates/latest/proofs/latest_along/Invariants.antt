-- `latest::latest_along` meets its contract: the numbers raised backwards say which start of each task is the latest, and the loop puts it in
-- their place.
use mathlib.Core.List.{List}
use Prim.Native.Nat.{ℕ, ◌≤◌}
use lib.ListN.{length}
use Rattle.model.specs.Tasks.{Edge}
use Rattle.model.specs.Compute.{latency}
use Rattle.records.specs.Columns.{at}
use Rattle.latest.specs.Latest.{Worked}
use Rattle.latest.proofs.Steps.{Sofar}
use Rattle.latest.proofs.latest_along.Given as goal

abbrev pub invariant-loop-v : goal.invariant-loop-v
invariant-loop-v l =
    (es : List Edge) (sinks : List ℕ) → Worked es sinks l.sources l.time → latency (length l.time) es (at l.time) l.output ≤ l.bound →
    Sofar (length l.time) es (at l.time) l.output l.bound l.v l.row
