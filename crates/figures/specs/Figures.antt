-- Document 01, "What the calls hand over" and "Who caused a refusal": what the figures of a graph are, for every file. Of a refused call every field
-- that 01 does not name is 0.
use Rattle.std.specs.Prelude.{List, ℕ, length}
use Rattle.model.specs.Compute.{latency_of}
use Rattle.files.specs.Files.{graph_of}
use Rattle.files.specs.Refusals.{if_passed}
use Rattle.acceptance.specs.Acceptance.{acceptance_refusal}
use Rattle.acceptance.specs.Outcomes.{outcome, tasks_of}
use Rattle.figures.specs.declared.GraphFigures.{GraphFigures}

-- "Graph figures: tasks, edges, latency."
unfoldable pub figures_of : List ℕ → GraphFigures
figures_of s = record {
  outcome = outcome (acceptance_refusal s);
  tasks = if_passed (acceptance_refusal s).number (tasks_of s) 0;
  edges = if_passed (acceptance_refusal s).number (length (graph_of s).syncs) 0;
  latency = if_passed (acceptance_refusal s).number (latency_of (graph_of s)) 0;
}
