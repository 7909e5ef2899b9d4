-- The example desk's file gets the answer of document 01, by computation of the definitions on the graph that it holds.
use mathlib.Core.Path.{◌≡◌}
use mathlib.Core.List.{[], ◌∷◌}
use Rattle.model.specs.Lists.{counted, sum_over}
use Rattle.model.specs.Processors.{processor_edges}
use Rattle.model.specs.Graph.{edges}
use Rattle.model.specs.Compute.{is_redundant}
use Rattle.files.specs.Refusals.{if_passed}
use Rattle.files.proofs.Example.{desk_bytes, desk-file}
use Rattle.marks.specs.Marks.{number, word_of, marks_of, set_below}
use Rattle.acceptance.proofs.Example.{desk-given}
use Rattle.redundant.specs.Redundant.{no_marks, redundant_of}

-- "redundant 1 3": 2000000000000000 hexadecimal
pub desk-redundant : (redundant_of desk_bytes).marks.words ≡ 2305843009213693952 ∷ 0 ∷ 0 ∷ 0 ∷ []
unfolding redundant_of if_passed marks_of word_of number counted edges processor_edges is_redundant
desk-redundant = λ i. (if_passed (desk-given i).number (marks_of (is_redundant (desk-file i))) no_marks).words

pub desk-count : (redundant_of desk_bytes).count ≡ 1
unfolding redundant_of if_passed set_below sum_over counted edges processor_edges is_redundant
desk-count = λ i. if_passed (desk-given i).number (set_below 256 (is_redundant (desk-file i))) 0
