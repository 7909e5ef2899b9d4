-- Document 01, "What the calls hand over": "Plan: written into a lent list of edge records, as many records as edges are needed at most; the answer gives
-- its length, its steps and its latency." For every file and list; of a refused call every field that 01 does not name is 0, and the list keeps its
-- contents.
use Rattle.std.specs.Prelude.{List, [], ◌∷◌, ℕ, length}
use Rattle.model.specs.Graph.{Graph}
use Rattle.model.specs.Plan.{plan_of, plan_latency}
use Rattle.layout.specs.declared.EdgeRecord.{EdgeRecord}
use Rattle.files.specs.declared.Refusal.{Refusal}
use Rattle.files.specs.Files.{graph_of}
use Rattle.files.specs.Refusals.{first, if_passed}
use Rattle.acceptance.specs.Acceptance.{acceptance_refusal}
use Rattle.acceptance.specs.Outcomes.{outcome, room_refusal}
use Rattle.stages.specs.Stages.{written_into}
use Rattle.steps.specs.Steps.{Followed}
use Rattle.plan.specs.declared.GraphPlan.{GraphPlan}
use Rattle.plan.specs.declared.PlanAnswer.{PlanAnswer}

-- "9 to 12; 16": refusals of the plan for a list with so many records; "a lent list too short ([..] or edges)": all edges of the file
unfoldable pub plan_refusal : List ℕ → ℕ → Refusal
plan_refusal s room = first (acceptance_refusal s ∷ room_refusal (length (graph_of s).syncs) room ∷ [])

-- "the answer gives its length, its steps and its latency"
unfoldable pub plan_answer_of : List ℕ → ℕ → PlanAnswer
plan_answer_of s room = record {
  outcome = outcome (plan_refusal s room);
  length = if_passed (plan_refusal s room).number (length (plan_of (graph_of s)).list) 0;
  steps = if_passed (plan_refusal s room).number (plan_of (graph_of s)).steps 0;
  latency = if_passed (plan_refusal s room).number (plan_latency (graph_of s)) 0;
}

-- the lent list after the call: "elements past the written part hold what they held", "Lent buffers keep their contents"
unfoldable pub plan_after : List ℕ → List EdgeRecord → List EdgeRecord
plan_after s edges = if_passed (plan_refusal s (length edges)).number (written_into edges (plan_of (graph_of s)).list) edges

-- Only for contracts inside: what is found is the plan of a graph, to which all steps lead.
abbrev pub PlanFound : Graph → GraphPlan → Type 0
PlanFound g r = Followed g (record { steps = r.steps; latency = r.latency }) r.stage
