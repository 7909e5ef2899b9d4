-- `stages::replacing::keep_others` meets its contract: after j steps the first records hold those of the first j edges that the pair does not subsume, at
-- most j, and what lies from place j on is as it was.
use mathlib.Core.Path.{◌≡◌}
use mathlib.Core.Bool.{not}
use Prim.Native.Nat.{◌≤◌}
use lib.ListN.{length}
use Rattle.model.specs.Lists.{keep}
use Rattle.subsumption.specs.Subsumption.{subsumes_by}
use Rattle.stages.specs.Stages.{listed}
use Rattle.stages.proofs.Behind.{Behind}
use Rattle.stages.proofs.replacing.keep_others.Given as goal

abbrev pub invariant-loop-j : goal.invariant-loop-j
invariant-loop-j l =
    (l.kept ≤ l.j) × (length l.stage.edges ≡ 256) ×
    (listed l.kept l.stage.edges ≡ keep (λ e. not (subsumes_by l.from l.to l.a l.b e)) (listed l.j l.initial.stage.edges)) ×
    Behind l.j l.initial.stage.edges l.stage.edges
