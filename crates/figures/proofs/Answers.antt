-- What the call hands over is the definition's answer: of a file with a fault nothing but its refusal, of an accepted one what was read, since the lists
-- hold the graph.
use mathlib.Core.Path.{◌≡◌, ap, ◌∙◌}
use mathlib.Core.List.{List}
use Prim.Native.Nat.{ℕ}
use lib.ListN.{length}
use Rattle.std.proofs.Common.{Ok}
use Rattle.model.specs.Graph.{count}
use Rattle.model.specs.Compute.{latency_of}
use Rattle.files.specs.declared.Fault.{Fault}
use Rattle.files.specs.Files.{graph_of}
use Rattle.files.specs.Refusals.{not_refused, refusal_of}
use Rattle.acceptance.specs.declared.Acceptance.{Acceptance}
use Rattle.acceptance.specs.declared.Outcome.{Outcome}
use Rattle.acceptance.specs.Acceptance.{acceptance_refusal, Accepts}
use Rattle.acceptance.specs.Outcomes.{outcome, tasks_of}
use Rattle.acceptance.proofs.AcceptedFiles.{latency-given, read-fronts, nothing, whole}
use Rattle.figures.specs.declared.GraphFigures.{GraphFigures}
use Rattle.figures.specs.Figures.{figures_of}

module _ (s : List ℕ) where
  pub answer-refused :
      (fault : Fault) → refusal_of fault ≡ acceptance_refusal s →
      {o : Outcome} → o ≡ outcome (refusal_of fault) → ◌≡◌ {A = GraphFigures} (record { outcome = o; tasks = 0; edges = 0; latency = 0 }) (figures_of s)
  unfolding figures_of
  answer-refused fault is told = λ i. record {
    outcome = (told ∙ ap outcome is) i;
    tasks = nothing s fault is (tasks_of s) 0 i;
    edges = nothing s fault is (length (graph_of s).syncs) 0 i;
    latency = nothing s fault is (latency_of (graph_of s)) 0 i;
  }

  pub answer-read :
      {r : Acceptance} → Accepts s (Ok r) →
      ◌≡◌ {A = GraphFigures} (record { outcome = outcome not_refused; tasks = r.reading.tasks; edges = r.reading.edges; latency = r.latency }) (figures_of s)
  unfolding figures_of tasks_of
  answer-read given =
      let held = read-fronts s given in λ i. record {
        outcome = ap outcome given.refusal i;
        tasks = (held.tasks-are ∙ whole s given (count (graph_of s)) 0) i;
        edges = (held.edges_are ∙ whole s given (length (graph_of s).syncs) 0) i;
        latency = (latency-given s given ∙ whole s given (latency_of (graph_of s)) 0) i;
      }
