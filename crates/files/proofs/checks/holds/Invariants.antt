-- `files::checks::holds` meets its contract: after j keys it is found whether one of these is the one sought.
use mathlib.Core.Path.{◌≡◌}
use lib.Dec.{eqb}
use lib.ListN.{take}
use Rattle.std.specs.List.{list_any}
use Rattle.files.proofs.checks.holds.Given as goal

abbrev pub invariant-loop-key : goal.invariant-loop-key
invariant-loop-key l = l.found ≡ list_any (λ key. eqb key l.sought) (take l.key-index l.keys)
