-- Document 01, "Who caused a refusal": 9 to 12, and which refusal up to 12 a graph file gets.
use Rattle.std.specs.Prelude.{◌≡◌, not, List, [], ◌∷◌, ℕ, ltb, Option, None, Some, Result, Ok, Err, IfOk, IfErr}
use Rattle.model.specs.Tasks.{Edge}
use Rattle.model.specs.Graph.{Graph, count, edges, time_of}
use Rattle.model.specs.Compute.{zero_cycle, input_free, joined, latency, latency_of}
use Rattle.model.specs.Proposals.{AcceptedGraph}
use Rattle.files.specs.declared.Refusal.{Refusal}
use Rattle.files.specs.Files.{graph_of, graph_refusal}
use Rattle.files.specs.Refusals.{not_refused, refusal_of, refuse, first, if_passed}
use Rattle.readings.specs.declared.GraphReading.{GraphReading}
use Rattle.readings.specs.Working.{working_graph, graph_in}
use Rattle.acceptance.specs.declared.Acceptance.{Acceptance}
use Rattle.acceptance.specs.declared.RefusedGraph.{RefusedGraph}

-- "9: a cycle of total delay 0. 10: the input has an incoming edge of delay 0. 11: input equals output, or no path of delay 0 joins them. 12: the
-- bound is below the graph's latency.", of n tasks, their edges and times; in this sequence
unfoldable pub schedule_checks : ℕ → List Edge → (ℕ → ℕ) → ℕ → ℕ → ℕ → Refusal
schedule_checks n es time input output bound =
    first
    (refuse (zero_cycle n es) 9 0
    ∷ refuse (not (input_free es input)) 10 0
    ∷ refuse (not (joined n es input output)) 11 0
    ∷ refuse (ltb bound (latency n es time output)) 12 0
    ∷ [])

-- which refusal of 9 to 12 a graph gets; "Both are judged on the graph of the file"
unfoldable pub schedule_refusal : Graph → Refusal
schedule_refusal g = schedule_checks (count g) (edges g) (time_of g) g.input g.output g.bound

-- "Every call that takes a graph runs its checks up to 12; a graph that passes them is accepted."
unfoldable pub acceptance_refusal : List ℕ → Refusal
acceptance_refusal s = first (graph_refusal s ∷ schedule_refusal (graph_of s) ∷ [])

-- What every call starts from: the latency of an accepted graph, and its working form.
unfoldable pub acceptance : List ℕ → Acceptance
acceptance s = record { latency = latency_of (graph_of s); reading = working_graph (graph_of s) }

-- what a refusal hands over: a file that passes up to 8 in its working form, nothing of another
unfoldable pub refused_reading : List ℕ → Option GraphReading
refused_reading s = if_passed (graph_refusal s).number (Some (working_graph (graph_of s))) None

-- what is refused: nothing if the graph is accepted
abbrev pub refusal_told : Result Acceptance RefusedGraph → Refusal
refusal_told (Ok accepted) = not_refused
refusal_told (Err refused) = refusal_of refused.fault

-- What reading and judging a graph file up to 12 gives: the refusal that it gets; if there is none the acceptance, else the file as far as it was read.
pub record Accepts (s : List ℕ) (answer : Result Acceptance RefusedGraph) : Type 0 where
  pub refusal : refusal_told answer ≡ acceptance_refusal s
  pub value : IfOk answer (λ accepted. accepted ≡ acceptance s)
  pub reading : IfErr answer (λ refused. refused.reading ≡ refused_reading s)

-- Only for contracts inside: an accepted graph in its working form.
pub record AcceptedReading (graph : GraphReading) : Type 0 where
  pub accepted : AcceptedGraph (graph_in graph)
  pub working : graph ≡ working_graph (graph_in graph)
