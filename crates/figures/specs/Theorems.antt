-- What the figures mean, as statements: paths and runs. proofs/Meanings.antt proves them.
use Rattle.std.specs.Prelude.{◌≡◌, ◌↔◌, ◌≢◌, List, ℕ, ◌≤◌, length}
use Rattle.model.specs.Graph.{edges, time_of}
use Rattle.model.specs.Paths.{Latency}
use Rattle.model.specs.Runs.{Times, ends, Earliest, estimates}
use Rattle.files.specs.Files.{graph_of}
use Rattle.acceptance.specs.Acceptance.{acceptance_refusal}
use Rattle.acceptance.specs.Outcomes.{outcome, tasks_of}
use Rattle.acceptance.specs.Theorems.{AcceptedFile}
use Rattle.figures.specs.Figures.{figures_of}

-- They are given exactly for an accepted file.
abbrev pub FiguresGiven : Type 0
FiguresGiven = (s : List ℕ) → ((figures_of s).outcome.number ≡ 0) ↔ AcceptedFile s

-- A refused graph has none.
abbrev pub FiguresRefused : Type 0
FiguresRefused =
    (s : List ℕ) → (figures_of s).outcome.number ≢ 0 →
    ((figures_of s).outcome ≡ outcome (acceptance_refusal s)) × ((figures_of s).tasks ≡ 0) × ((figures_of s).edges ≡ 0) × ((figures_of s).latency ≡ 0)

-- The latency of the figures is document 01's.
abbrev pub FiguresMean : Type 0
FiguresMean =
    (s : List ℕ) → AcceptedFile s →
    ((figures_of s).tasks ≡ tasks_of s) × ((figures_of s).edges ≡ length (graph_of s).syncs) ×
    Latency (edges (graph_of s)) (time_of (graph_of s)) (graph_of s).output (figures_of s).latency

-- It is when the output ends in the first turn of the earliest run at the estimated times, of however many turns.
abbrev pub FiguresRun : Type 0
FiguresRun =
    (s : List ℕ) → AcceptedFile s → (turns : ℕ) (start : Times) → 1 ≤ turns →
    Earliest (tasks_of s) (edges (graph_of s)) turns start (estimates (time_of (graph_of s))) →
    ends start (estimates (time_of (graph_of s))) (graph_of s).output 1 ≡ (figures_of s).latency
