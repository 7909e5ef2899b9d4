-- Document 01, "Example desk": what the program prints for every graph file and proposal file, byte by byte.
use Rattle.std.specs.Prelude.{List, [], ◌∷◌, ◌++◌, ℕ, ◌-◌, length, replicate}
use Rattle.files.specs.Refusals.{if_passed}
use Rattle.text.specs.Text.{decimal, signed, numbers, line}
use Rattle.marks.specs.Marks.{mark_at, places_below}
use Rattle.acceptance.specs.declared.Outcome.{Outcome}
use Rattle.figures.specs.declared.GraphFigures.{GraphFigures}
use Rattle.figures.specs.Figures.{figures_of}
use Rattle.redundant.specs.declared.RedundantSet.{RedundantSet}
use Rattle.redundant.specs.Redundant.{redundant_of}
use Rattle.verdict.specs.declared.ProposalVerdict.{ProposalVerdict}
use Rattle.verdict.specs.Verdict.{verdict_of}
use Rattle.report.specs.declared.Text.{Text}

-- the words of the lines, in ASCII
-- g r a p h
abbrev pub graph_word : List ℕ
graph_word = 103 ∷ 114 ∷ 97 ∷ 112 ∷ 104 ∷ []

-- r e d u n d a n t
abbrev pub redundant_word : List ℕ
redundant_word = 114 ∷ 101 ∷ 100 ∷ 117 ∷ 110 ∷ 100 ∷ 97 ∷ 110 ∷ 116 ∷ []

-- a c c e p t e d
abbrev pub accepted_word : List ℕ
accepted_word = 97 ∷ 99 ∷ 99 ∷ 101 ∷ 112 ∷ 116 ∷ 101 ∷ 100 ∷ []

-- r e f u s e d
abbrev pub refused_word : List ℕ
refused_word = 114 ∷ 101 ∷ 102 ∷ 117 ∷ 115 ∷ 101 ∷ 100 ∷ []

-- `graph 4 3 9`: "tasks, edges, latency"
unfoldable pub graph_line : GraphFigures → List ℕ
graph_line figures = line graph_word (decimal figures.tasks ∷ decimal figures.edges ∷ decimal figures.latency ∷ [])

-- `redundant 1 3`: "count of redundant edges and their places ascending (with none, `redundant 0`)"
unfoldable pub redundant_line : RedundantSet → List ℕ
redundant_line set = line redundant_word (decimal set.count ∷ numbers (places_below 256 (mark_at set.marks)))

-- `accepted 10 2`: "latency and margin"
unfoldable pub accepted_line : ProposalVerdict → List ℕ
accepted_line verdict = line accepted_word (decimal verdict.latency ∷ signed verdict.margin ∷ [])

-- "`refused` with number, place, latency, margin"
unfoldable pub refused_line : Outcome → List ℕ
refused_line outcome =
    line refused_word (decimal outcome.number ∷ decimal outcome.place ∷ decimal outcome.latency ∷ signed outcome.margin ∷ [])

-- "A refused proposal replaces line 3 by `refused`"
unfoldable pub verdict_line : ProposalVerdict → List ℕ
verdict_line verdict = if_passed verdict.outcome.number (accepted_line verdict) (refused_line verdict.outcome)

-- The whole: three lines; "A refused graph prints that line alone."
unfoldable pub printed : GraphFigures → RedundantSet → ProposalVerdict → List ℕ
printed figures set verdict =
    if_passed figures.outcome.number (graph_line figures ++ (redundant_line set ++ verdict_line verdict)) (refused_line figures.outcome)

-- bytes as a text: so many, and 0 behind them
unfoldable pub text_of : List ℕ → Text
text_of bytes = record { length = length bytes; bytes = bytes ++ replicate (1024 - length bytes) 0 }

-- What is printed of two files: the lines of the calls' answers.
unfoldable pub report_of : List ℕ → List ℕ → Text
report_of s p = text_of (printed (figures_of s) (redundant_of s) (verdict_of s p))
