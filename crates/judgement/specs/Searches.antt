-- Only for contracts inside: what is judged, what the searches of 13 and 14 find, and 14 and 15 by the edges of a result.
use Rattle.std.specs.Prelude.{◌≡◌, not, List, ℕ, suc, ◌+◌, ◌-◌, ltb, length}
use Rattle.model.specs.Tasks.{Edge}
use Rattle.model.specs.Graph.{Graph, WellFormedEdges, count, edges, time_of}
use Rattle.model.specs.Paths.{sync_at}
use Rattle.model.specs.Compute.{on_cycle, order_holds, latency}
use Rattle.model.specs.Proposals.{result}
use Rattle.files.specs.declared.Refusal.{Refusal}
use Rattle.files.specs.Files.{edge_in, first_of}
use Rattle.files.specs.Refusals.{refuse}
use Rattle.readings.specs.declared.GraphReading.{GraphReading}
use Rattle.readings.specs.declared.ProposalReading.{ProposalReading}
use Rattle.readings.specs.Working.{working_proposal, graph_in, proposed_in}
use Rattle.results.specs.declared.ResultEdges.{ResultEdges}
use Rattle.results.specs.Results.{HeldResult}
use Rattle.acceptance.specs.Acceptance.{AcceptedReading}
use Rattle.judgement.specs.Judgement.{Judgement}

-- the first of some edges that lies on a cycle of rs
unfoldable pub first_cyclic : ℕ → List Edge → List Edge → Refusal
first_cyclic n rs es = first_of (length es) (λ j. refuse (on_cycle n rs (edge_in es j)) 13 (suc j))

-- the first of some edges, looked at from entry n on, whose order is lost in rs
unfoldable pub lost_from : ℕ → List Edge → List Edge → Refusal
lost_from n rs es = first_of (length es - n) (λ j. refuse (not (order_holds n rs (edge_in es (n + j)))) 14 (suc j))

-- an accepted graph and well-formed proposed edges, both in their working form
pub record Judgeable (graph : GraphReading) (proposal : ProposalReading) : Type 0 where
  pub accepted : AcceptedReading graph
  pub formed : WellFormedEdges (count (graph_in graph)) (proposed_in proposal)
  pub working : proposal ≡ working_proposal (proposed_in proposal)

-- a list holds the edges of the result of well-formed proposed edges
pub record Made (graph : GraphReading) (proposed : List Edge) (made : ResultEdges) : Type 0 where
  pub formed : WellFormedEdges (count (graph_in graph)) proposed
  pub held : HeldResult made (edges (result (graph_in graph) proposed))

-- 14 of a graph, by the edges of its result
unfoldable pub lost_in : Graph → List Edge → Refusal
lost_in g rs = first_of (length g.syncs) (λ j. refuse (not (order_holds (count g) rs (sync_at g j))) 14 (suc j))

-- 15 of a graph, or nothing refused, by the edges of its result, with the latency
unfoldable pub late_in : Graph → List Edge → Judgement
late_in g rs = record {
  refusal = refuse (ltb g.bound (latency (count g) rs (time_of g) g.output)) 15 0;
  latency = latency (count g) rs (time_of g) g.output;
}
