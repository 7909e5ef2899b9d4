-- `delays::least_row` meets its contract: no edge betters an entry after what was seen of its source's, and in the end what was seen is the row itself.
use mathlib.Core.List.{List}
use Prim.Native.Nat.{◌≤◌}
use lib.ListN.{length}
use Rattle.model.specs.Tasks.{Edge}
use Rattle.delays.specs.Rows.{sum, Known, Low, Seen}
use Rattle.delays.proofs.least_row.Given as goal

abbrev pub invariant-loop-u : goal.invariant-loop-u
invariant-loop-u l = Low l.lowered × Low l.seen × ((es : List Edge) → Known (length l.row) es l.done l.known → Seen es l.a l.lowered l.seen) × (l.from ≤ length l.row)

abbrev pub decreases-loop-u : goal.decreases-loop-u
decreases-loop-u l = sum l.seen
