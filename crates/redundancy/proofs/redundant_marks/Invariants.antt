-- `redundancy::redundant_marks` meets its contract: the last steps are taken into a square with room for 64 tasks; after i edges the words have their marks.
use Rattle.records.specs.Columns.{edges_in}
use Rattle.redundancy.specs.Redundancy.{redundant_in}
use Rattle.redundancy.proofs.Words.{MarkedWords}
use Rattle.redundancy.proofs.redundant_marks.Given as goal

abbrev pub invariant-loop-i : goal.invariant-loop-i
invariant-loop-i l = MarkedWords (redundant_in l.tasks (edges_in l.edges)) l.i l.words
