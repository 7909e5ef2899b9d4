-- Document 01, "Tasks, turns and edges": accepted graphs, proposals, their results, accepted proposals.
use Rattle.std.specs.Prelude.{Bool, not, List, ◌++◌, ℕ, ◌≤◌}
use Rattle.model.specs.Lists.{keep, keep_places}
use Rattle.model.specs.Tasks.{Edge}
use Rattle.model.specs.Graph.{Graph, edges, time_of, WellFormed}
use Rattle.model.specs.Paths.{NoZeroCycle, InputFree, Joined, Latency, NoneOnCycle, AllHeld}
use Rattle.model.specs.Compute.{is_feedback}

-- "Every call that takes a graph runs its checks up to 12; a graph that passes them is accepted." The fields are 1 to 8, 9, 10, 11 and 12.
pub record AcceptedGraph (g : Graph) : Type 0 where
  pub formed : WellFormed g
  pub no_zero_cycle : NoZeroCycle (edges g)
  pub input-free : InputFree (edges g) g.input
  pub joined : Joined (edges g) g.input g.output
  pub bound_met : (l : ℕ) × Latency (edges g) (time_of g) g.output l × (l ≤ g.bound)

-- g with the synchronization edges at the marked places (from 0) dropped, all at once
unfoldable pub dropping : Graph → (ℕ → Bool) → Graph
unfolding keep_places
dropping g marked =
    record { tasks = g.tasks; syncs = keep_places (λ i. not (marked i)) 0 g.syncs; input = g.input; output = g.output; bound = g.bound }

-- the synchronization edges that every result keeps, in the file's sequence
unfoldable pub feedback_edges : Graph → List Edge
unfolding keep is_feedback
feedback_edges g = keep (is_feedback g) g.syncs

-- "A proposal is a set of 0 to 256 synchronization edges. Its result keeps all processor and feedback edges, drops all feedforward
-- edges and adds the proposed ones." "A result has its graph's tasks, estimated times, latency input, latency output and bound."
unfoldable pub result : Graph → List Edge → Graph
unfolding feedback_edges
result g proposed =
    record { tasks = g.tasks; syncs = feedback_edges g ++ proposed; input = g.input; output = g.output; bound = g.bound }

-- "It is accepted if no proposed edge lies on a cycle of the result, every original edge's ends have in the result a least delay at
-- most that edge's own, and the result's latency is at most the bound."
pub record AcceptedProposal (g : Graph) (proposed : List Edge) : Type 0 where
  pub off_cycles : NoneOnCycle (edges (result g proposed)) proposed
  pub orders : AllHeld (edges (result g proposed)) (edges g)
  pub in_time : (l : ℕ) × Latency (edges (result g proposed)) (time_of g) g.output l × (l ≤ g.bound)
