-- `first_stage::keep_needed` meets its contract: after j steps the stage holds those of the first j edges that are needed, at most j.
use mathlib.Core.Path.{◌≡◌}
use mathlib.Core.List.{List}
use Prim.Native.Nat.{◌≤◌}
use Rattle.model.specs.Tasks.{Edge}
use Rattle.marks.specs.Marks.{mark_at}
use Rattle.delays.specs.Delays.{delay_table, Fit}
use Rattle.stages.specs.Stages.{HeldStage}
use Rattle.first_stage.proofs.Needing.{needed_below}
use Rattle.first_stage.proofs.keep_needed.Given as goal

abbrev pub invariant-loop-j : goal.invariant-loop-j
invariant-loop-j l =
    (l.stage.count ≤ l.j) ×
    ((es : List Edge) → Fit l.tasks es → l.table ≡ delay_table l.tasks es → HeldStage l.stage (needed_below l.tasks es (mark_at l.marks) l.edges l.j))
