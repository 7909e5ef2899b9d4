-- Demand 3, for all bytes handed to the verdict call.
--
-- "For every accepted graph, the original, and the result of every proposal accepted for it, whoever made it: for every number of turns, whatever
-- time of at least one each task takes in each turn, the original allows every run that the result allows. The result never stalls, has the same
-- cycles, and its output's first turn ends by the bound, whatever later turns take, if tasks start as early as allowed and no first turn exceeds its
-- estimate. A well-formed proposal whose edges lie on no cycle of its result is refused as losing an order exactly when some run the result allows
-- breaks the original, as late exactly when none does but at the estimates the result misses the bound, and is accepted otherwise."
use Rattle.std.specs.Prelude.{◌≡◌, ◌↔◌, List, ℕ, ◌≤◌, length}
use Rattle.model.specs.Tasks.{Edge, ◌∈◌}
use Rattle.model.specs.Graph.{Graph, WellFormedEdges, edges}
use Rattle.model.specs.Paths.{OnCycle, NoneOnCycle}
use Rattle.model.specs.Runs.{SomeRunBreaks, MissesBound}
use Rattle.model.specs.Proposals.{result, AcceptedProposal}
use Rattle.model.specs.Theorems.{Resynchronizes}
use Rattle.model.specs.Plan.{Stage}
use Rattle.layout.specs.declared.EdgeRecord.{EdgeRecord}
use Rattle.files.specs.Files.{task_count, graph_of, proposal_of, proposal_refusal}
use Rattle.files.specs.Refusals.{not_refused}
use Rattle.acceptance.specs.Outcomes.{tasks_of}
use Rattle.acceptance.specs.Theorems.{AcceptedFile}
use Rattle.judgement.specs.Judgement.{judgement}
use Rattle.verdict.specs.Verdict.{verdict_of}
use Rattle.plan.specs.Plan.{plan_answer_of}
use Rattle.claims.specs.Demand1.{Says, graph_checks, proposal_file_checks}
use Rattle.claims.specs.Demand2.{plan_listed}

-- "A proposal that passes these up to 8 is well-formed", beside the graph of a file.
abbrev pub WellFormedFile : List ℕ → List ℕ → Type 0
WellFormedFile s p = (proposal_refusal (tasks_of s) p).number ≡ 0

-- the result of the proposal in one file beside the graph in another
abbrev pub result_graph : List ℕ → List ℕ → Graph
result_graph s p = result (graph_of s) (proposal_of p)

-- "some run the result allows breaks the original"
abbrev pub RunBreaks : List ℕ → List ℕ → Type 0
RunBreaks s p = SomeRunBreaks (tasks_of s) (edges (result_graph s p)) (edges (graph_of s))

-- "at the estimates the result misses the bound"
abbrev pub Late : List ℕ → List ℕ → Type 0
Late s p = MissesBound (result_graph s p)

-- s and p are the bytes of a graph and of a proposal; the verdict call answers `verdict_of s p`.
pub record Demand3 : Type 0 where
  -- ── Accepted graphs and well-formed proposals ──
  -- "Every call that takes a graph runs its checks up to 12; a graph that passes them is accepted": by the sequence of demand 1
  pub graph_passes : (s : List ℕ) → AcceptedFile s ↔ Says (graph_checks s) 0 0
  -- "A proposal that passes these up to 8 is well-formed"
  pub proposal_passes : (s p : List ℕ) → WellFormedFile s p ↔ Says (proposal_file_checks (task_count s) p) 0 0
  -- ── Runs of the original and of results ──
  -- "For every accepted graph, the original": it never stalls, and its output's first turn ends by the bound (and it allows its own runs and has its own
  -- cycles)
  pub original : (s : List ℕ) → AcceptedFile s → Resynchronizes (graph_of s) (graph_of s)
  -- "and the result of every proposal accepted for it, whoever made it": of any edges that are accepted by 01's words, from a file or not: "the original
  -- allows every run that the result allows. The result never stalls, has the same cycles, and its output's first turn ends by the bound"
  pub anyone :
      (s : List ℕ) → AcceptedFile s → (proposed : List Edge) → WellFormedEdges (tasks_of s) proposed → AcceptedProposal (graph_of s) proposed →
      Resynchronizes (graph_of s) (result (graph_of s) proposed)
  -- the same of every stage of the tool's own plan, of which the finished plan is the last
  pub stages :
      (s : List ℕ) → AcceptedFile s → (steps : ℕ) (list : List Edge) → Stage (graph_of s) steps list →
      WellFormedEdges (tasks_of s) list × AcceptedProposal (graph_of s) list × Resynchronizes (graph_of s) (result (graph_of s) list)
  -- the same of every proposal that the call accepts
  pub kept :
      (s p : List ℕ) → (verdict_of s p).outcome.number ≡ 0 → AcceptedFile s × WellFormedFile s p × Resynchronizes (graph_of s) (result_graph s p)
  -- the call accepts what 01 does: "It is accepted if no proposed edge lies on a cycle of the result, every original edge's ends have in the result a least
  -- delay at most that edge's own, and the result's latency is at most the bound."
  pub by_paths :
      (s p : List ℕ) → AcceptedFile s → WellFormedFile s p →
      ((verdict_of s p).outcome.number ≡ 0) ↔ AcceptedProposal (graph_of s) (proposal_of p)
  -- ── Verdicts ──
  -- "13: a proposed edge on a cycle"
  pub thirteen :
      (s p : List ℕ) → AcceptedFile s → WellFormedFile s p →
      ((verdict_of s p).outcome.number ≡ 13) ↔ ((e : Edge) × e ∈ proposal_of p × OnCycle (edges (result_graph s p)) e)
  -- "A well-formed proposal whose edges lie on no cycle of its result is refused as losing an order exactly when some run the result allows breaks the
  -- original"
  pub fourteen :
      (s p : List ℕ) → AcceptedFile s → WellFormedFile s p → NoneOnCycle (edges (result_graph s p)) (proposal_of p) →
      ((verdict_of s p).outcome.number ≡ 14) ↔ RunBreaks s p
  -- "as late exactly when none does but at the estimates the result misses the bound"
  pub fifteen :
      (s p : List ℕ) → AcceptedFile s → WellFormedFile s p → NoneOnCycle (edges (result_graph s p)) (proposal_of p) →
      ((verdict_of s p).outcome.number ≡ 15) ↔ ((RunBreaks s p → ⊥) × Late s p)
  -- "and is accepted otherwise"
  pub otherwise :
      (s p : List ℕ) → AcceptedFile s → WellFormedFile s p → NoneOnCycle (edges (result_graph s p)) (proposal_of p) →
      ((verdict_of s p).outcome.number ≡ 0) ↔ ((RunBreaks s p → ⊥) × (Late s p → ⊥))
  -- 13, 14 and 15 come only for well-formed proposals beside accepted graphs, 14 and 15 only if no proposed edge lies on a cycle of the result
  pub only_then : (s p : List ℕ) → 13 ≤ (verdict_of s p).outcome.number → AcceptedFile s × WellFormedFile s p
  pub only_off_cycles : (s p : List ℕ) → 14 ≤ (verdict_of s p).outcome.number → NoneOnCycle (edges (result_graph s p)) (proposal_of p)
  -- ── The tool's own plan ──
  -- the list that the plan call writes is well-formed and accepted as a proposal, and judged so with the latency that the plan call tells
  pub planned :
      (s : List ℕ) (list : List EdgeRecord) → (plan_answer_of s (length list)).outcome.number ≡ 0 →
      WellFormedEdges (tasks_of s) (plan_listed s list) × AcceptedProposal (graph_of s) (plan_listed s list) ×
      (judgement (graph_of s) (plan_listed s list) ≡ record { refusal = not_refused; latency = (plan_answer_of s (length list)).latency })
  -- so every well-formed file that holds the list is accepted by the verdict call, with that latency
  pub plan_accepted :
      (s p : List ℕ) (list : List EdgeRecord) → (plan_answer_of s (length list)).outcome.number ≡ 0 → WellFormedFile s p → proposal_of p ≡ plan_listed s list →
      ((verdict_of s p).outcome.number ≡ 0) × ((verdict_of s p).latency ≡ (plan_answer_of s (length list)).latency)
