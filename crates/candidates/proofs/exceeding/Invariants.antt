-- `candidates::exceeding` meets its contract: after b steps, if none was found, none of the first b counts exceeds the number.
use mathlib.Core.Path.{◌≡◌}
use Prim.Native.Nat.{◌≤◌}
use Rattle.candidates.specs.Searches.{RowFew}
use Rattle.candidates.proofs.exceeding.Given as goal

abbrev pub invariant-loop-b : goal.invariant-loop-b
invariant-loop-b l = (l.many ≤ l.b) × (l.many ≡ 0 → RowFew l.counts l.to l.start l.least l.end l.latest l.b)
