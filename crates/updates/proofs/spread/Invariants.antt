-- `updates::spread` meets its contract: after a steps the first a lines are copied.
use mathlib.Core.Path.{◌≡◌}
use lib.ListN.{length}
use Rattle.updates.proofs.Lines.{LinesSpread}
use Rattle.updates.proofs.spread.Given as goal

abbrev pub invariant-loop-a : goal.invariant-loop-a
invariant-loop-a l =
    LinesSpread l.table l.outer l.inner l.tasks l.a l.lines ×
    (length l.lines ≡ length l.initial.lines)
