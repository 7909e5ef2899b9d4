-- What the fronts of an accepted graph's lists give to the algorithms: by the working form they hold the graph's edges and times, at most 64 tasks and 320
-- edges, each within its list.
use mathlib.Core.Path.{◌≡◌, refl, ap, ◌∙◌}
use mathlib.Core.List.{List}
use Prim.Native.Nat.{ℕ, ◌+◌, ◌*◌, ◌≤◌, ◌<◌}
use native.Mathlib.Nat.{sub-zero}
use native.Mathlib.Omega.{arith}
use lib.ListN.{length, take}
use lib.Seq.{length-take-le}
use Rattle.model.specs.Graph.{Graph, WellFormed}
use Rattle.readings.specs.declared.GraphReading.{GraphReading}
use Rattle.readings.specs.Working.{graph_in}
use Rattle.starts.specs.Starts.{FileTimes}
use Rattle.delays.specs.Delays.{Fit}
use Rattle.acceptance.specs.Acceptance.{AcceptedReading}
use Rattle.acceptance.proofs.Fronts.{front, front_edges, Fronts, Within, file-times, working-is, working-within, working-few, working-square, working-fit}

-- how long the front of a list is
pub front_length : {A : Type 0} (n : ℕ) (xs : List A) {room : ℕ} → length xs ≡ room → n ≤ room → length (front n xs) ≡ n
front_length n xs is within = ap length (ap (λ (k : ℕ). take k xs) (sub-zero n)) ∙ length-take-le n xs (omega arith)

module _ {graph : GraphReading} (given : AcceptedReading graph) where
  abbrev g : Graph
  g = graph_in graph

  well : WellFormed g
  well = given.accepted.formed

  pub graph-fronts : Fronts g graph
  graph-fronts = working-is well given.working

  pub graph-within : Within graph
  graph-within = working-within well given.working

  pub few-tasks : graph.tasks ≤ 64
  few-tasks = working-few well given.working

  pub as-many-edges : length (front (graph.tasks + graph.edges) graph.ordering) ≡ graph.tasks + graph.edges
  as-many-edges = front_length (graph.tasks + graph.edges) graph.ordering refl graph-within.ordering

  pub few-edges : graph.tasks + graph.edges ≤ 320
  few-edges = omega (arith, graph-within.ordering, graph-fronts.ordering_room)

  pub original-fit : Fit graph.tasks (front_edges graph)
  original-fit = working-fit well given.working

  pub square-small : graph.tasks * graph.tasks ≤ 4096
  square-small = working-square well given.working

  pub times-filed : FileTimes (front graph.tasks graph.time)
  times-filed = file-times g (front graph.tasks graph.time) well graph-fronts.as-many-times graph-fronts.times_are

  pub output-there : graph.output < length (front graph.tasks graph.time)
  output-there = omega (arith, graph-fronts.output_is, well.output_below, graph-fronts.as-many-times)

  pub few-times : length (front graph.tasks graph.time) ≤ 64
  few-times = omega (arith, well.at_most_64, graph-fronts.as-many-times)
