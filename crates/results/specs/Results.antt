-- The edges of a proposal's result, from the edges that order the graph: those that lie on a cycle, then the proposed ones. Nothing here has to be
-- believed: `result-edges-are` proves that they are those of Proposals.
use Rattle.std.specs.Prelude.{◌≡◌, List, ◌++◌, ℕ, ◌≤◌, length, take}
use Rattle.model.specs.Lists.{keep}
use Rattle.model.specs.Tasks.{Edge, Ends}
use Rattle.model.specs.Graph.{Graph, count, edges}
use Rattle.model.specs.Compute.{on_cycle}
use Rattle.model.specs.Proposals.{result}
use Rattle.records.specs.Columns.{edges_in}
use Rattle.results.specs.declared.ResultEdges.{ResultEdges}

-- the edges on a cycle: of a graph, its processor edges and its feedback edges
unfoldable pub cyclic : ℕ → List Edge → List Edge
cyclic n es = keep (on_cycle n es) es

-- the edges of the result, of a graph with n tasks and edges es
unfoldable pub result_of : ℕ → List Edge → List Edge → List Edge
result_of n es proposed = cyclic n es ++ proposed

-- ── Only for contracts inside ──

-- the edges that a result's list holds
unfoldable pub result_in : ResultEdges → List Edge
result_in r = edges_in (take r.count r.edges)

-- they are these
pub record HeldResult (r : ResultEdges) (es : List Edge) : Type 0 where
  pub as_many : r.count ≡ length es
  pub few : r.count ≤ 576
  pub room : length r.edges ≡ 576
  pub held : result_in r ≡ es

-- The edges of a graph's result are these.
abbrev pub ResultEdgesAre : Type 0
ResultEdgesAre =
    (g : Graph) → Ends (count g) g.syncs → (proposed : List Edge) → result_of (count g) (edges g) proposed ≡ edges (result g proposed)
