-- Every sentence of specs/Theorems.antt, proved: each number is computed by a function of the model whose meaning the model proves.
use mathlib.Core.Path.{refl, sym, subst}
use Prim.Native.Nat.{ℕ}
use lib.ListN.{length}
use Rattle.model.specs.Graph.{count, edges, time_of}
use Rattle.model.specs.Paths.{Latency}
use Rattle.model.specs.Runs.{estimates, ends}
use Rattle.model.specs.Compute.{latency_of}
use Rattle.model.proofs.Theorems.{latency_is, latency-unique, first-output-exact}
use Rattle.files.specs.Files.{graph_of}
use Rattle.files.proofs.First.{if-refused, if-passed}
use Rattle.acceptance.specs.Acceptance.{acceptance_refusal}
use Rattle.acceptance.specs.Outcomes.{outcome, tasks_of}
use Rattle.acceptance.proofs.AcceptedFiles.{accepted, between-tasks}
use Rattle.acceptance.proofs.Judged.{accepted-iff-passed}
use Rattle.figures.specs.Figures.{figures_of}
use Rattle.figures.specs.Theorems.{FiguresGiven, FiguresRefused, FiguresMean, FiguresRun}

pub figures_given : FiguresGiven
unfolding figures_of outcome
figures_given s = accepted-iff-passed s

pub figures_refused : FiguresRefused
unfolding figures_of outcome
figures_refused s some = (
  refl,
  if-refused (acceptance_refusal s).number (tasks_of s) 0 some,
  if-refused (acceptance_refusal s).number (length (graph_of s).syncs) 0 some,
  if-refused (acceptance_refusal s).number (latency_of (graph_of s)) 0 some,
)

pub figures-mean : FiguresMean
unfolding figures_of tasks_of latency_of
figures-mean s accepted =
    let none = (accepted-iff-passed s).1 accepted in
    let g = graph_of s in (
      if-passed (acceptance_refusal s).number (count g) 0 none,
      if-passed (acceptance_refusal s).number (length g.syncs) 0 none,
      subst (λ (l : ℕ). Latency (edges g) (time_of g) g.output l) (sym (if-passed (acceptance_refusal s).number (latency_of g) 0 none))
          (latency_is (count g) (edges g) (between-tasks s accepted) accepted.1.no_zero_cycle (time_of g) g.output),
    )

pub figures-run : FiguresRun
unfolding tasks_of
figures-run s accepted turns start some run =
    let g = graph_of s in
    latency-unique (edges g) (time_of g) g.output (ends start (estimates (time_of g)) g.output 1) (figures_of s).latency
    (first-output-exact (count g) (edges g) (between-tasks s accepted) turns start (time_of g) g.output some accepted.1.formed.output_below run)
    (figures-mean s accepted).2
