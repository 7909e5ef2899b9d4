-- The example desk of document 01, computed by the definitions: what is printed of its answers, byte by byte, and of some refused ones.
use mathlib.Core.Path.{◌≡◌, refl}
use mathlib.Core.List.{[], ◌∷◌, ◌++◌}
use lib.IntN.{pos, negsuc}
use Rattle.model.specs.Lists.{put}
use Rattle.files.specs.Refusals.{if_passed}
use Rattle.text.specs.Text.{digit, digits_within, decimal, signed, spaced, numbers, line}
use Rattle.marks.specs.Marks.{bit_of, mark_at, places_below}
use Rattle.acceptance.specs.declared.Outcome.{Outcome}
use Rattle.figures.specs.declared.GraphFigures.{GraphFigures}
use Rattle.redundant.specs.declared.RedundantSet.{RedundantSet}
use Rattle.verdict.specs.declared.ProposalVerdict.{ProposalVerdict}
use Rattle.report.specs.Report.{graph_word, redundant_word, accepted_word, refused_word, graph_line, redundant_line, accepted_line, refused_line, verdict_line, printed}

abbrev pub success : Outcome
success = record { number = 0; place = 0; latency = 0; margin = pos 0 }

abbrev pub figures : GraphFigures
figures = record { outcome = success; tasks = 4; edges = 3; latency = 9 }

-- edge 3 alone
abbrev pub set : RedundantSet
set = record { outcome = success; marks = record { words = 0x2000000000000000 ∷ 0 ∷ 0 ∷ 0 ∷ [] }; count = 1 }

abbrev pub verdict : ProposalVerdict
verdict = record { outcome = success; latency = 10; margin = pos 2 }

-- graph 4 3 9, redundant 1 3, accepted 10 2
pub desk-printed :
    printed figures set verdict ≡
    (graph_word ++ (32 ∷ 52 ∷ 32 ∷ 51 ∷ 32 ∷ 57 ∷ 10 ∷ [])) ++
    ((redundant_word ++ (32 ∷ 49 ∷ 32 ∷ 51 ∷ 10 ∷ [])) ++ (accepted_word ++ (32 ∷ 49 ∷ 48 ∷ 32 ∷ 50 ∷ 10 ∷ [])))
unfolding printed graph_line redundant_line accepted_line refused_line verdict_line if_passed line spaced numbers signed decimal digits_within digit places_below put mark_at bit_of
desk-printed = refl

-- refused 15 0 10 -1
pub late-printed :
    refused_line (record { number = 15; place = 0; latency = 10; margin = negsuc 0 }) ≡
    refused_word ++ (32 ∷ 49 ∷ 53 ∷ 32 ∷ 48 ∷ 32 ∷ 49 ∷ 48 ∷ 32 ∷ 45 ∷ 49 ∷ 10 ∷ [])
unfolding refused_line line spaced signed decimal digits_within digit
late-printed = refl

-- a refused graph: refused 12 0 0 0, alone
pub graph-refused-printed :
    printed (record { outcome = record { number = 12; place = 0; latency = 0; margin = pos 0 }; tasks = 0; edges = 0; latency = 0 }) set verdict ≡
    refused_word ++ (32 ∷ 49 ∷ 50 ∷ 32 ∷ 48 ∷ 32 ∷ 48 ∷ 32 ∷ 48 ∷ 10 ∷ [])
unfolding printed refused_line if_passed line spaced signed decimal digits_within digit
graph-refused-printed = refl
