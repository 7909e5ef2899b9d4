-- The program reads no more than the front of each file. That loses nothing, as statements; proofs/Cut.antt proves them. A graph file has at most 807
-- bytes and a proposal at most 642: what is longer is refused by 2, 3 or 4, and its front, if it is longer too, by the same.
use Rattle.std.specs.Prelude.{◌≡◌, List, ℕ, ◌<◌, take}
use Rattle.figures.specs.Figures.{figures_of}
use Rattle.redundant.specs.Redundant.{redundant_of}
use Rattle.verdict.specs.Verdict.{verdict_of}
use Rattle.report.specs.Report.{report_of}

-- A front of more than 807 bytes has the figures and the redundant set of the whole graph file, whatever follows.
abbrev pub FiguresCut : Type 0
FiguresCut = (s : List ℕ) (n : ℕ) → 807 < n → figures_of (take n s) ≡ figures_of s

abbrev pub RedundantCut : Type 0
RedundantCut = (s : List ℕ) (n : ℕ) → 807 < n → redundant_of (take n s) ≡ redundant_of s

-- The verdict on the fronts, that of the proposal of more than 642 bytes, is the verdict on the whole files.
abbrev pub VerdictCut : Type 0
VerdictCut = (s p : List ℕ) (n m : ℕ) → 807 < n → 642 < m → verdict_of (take n s) (take m p) ≡ verdict_of s p

-- So what is printed of the fronts is what is printed of the files.
abbrev pub ReportCut : Type 0
ReportCut = (s p : List ℕ) (n m : ℕ) → 807 < n → 642 < m → report_of (take n s) (take m p) ≡ report_of s p
