-- Document 01, "What the calls hand over" and "Who caused a refusal": the redundant set, for every file. Of a refused call every field
-- that 01 does not name is 0, and no mark is set.
use Rattle.std.specs.Prelude.{List, [], ◌∷◌, ℕ}
use Rattle.model.specs.Compute.{is_redundant}
use Rattle.files.specs.Files.{graph_of}
use Rattle.files.specs.Refusals.{if_passed}
use Rattle.marks.specs.declared.Marks.{Marks}
use Rattle.marks.specs.Marks.{marks_of, set_below}
use Rattle.acceptance.specs.Acceptance.{acceptance_refusal}
use Rattle.acceptance.specs.Outcomes.{outcome}
use Rattle.redundant.specs.declared.RedundantSet.{RedundantSet}

-- no mark
unfoldable pub no_marks : Marks
no_marks = record { words = 0 ∷ 0 ∷ 0 ∷ 0 ∷ [] }

-- "Redundant set: 256 marks in four 64-bit words [..] and the number of marks set."
unfoldable pub redundant_of : List ℕ → RedundantSet
redundant_of s = record {
  outcome = outcome (acceptance_refusal s);
  marks = if_passed (acceptance_refusal s).number (marks_of (is_redundant (graph_of s))) no_marks;
  count = if_passed (acceptance_refusal s).number (set_below 256 (is_redundant (graph_of s))) 0;
}
