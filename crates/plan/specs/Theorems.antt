-- When the plan is given, what the call leaves in the lent list, and that what it writes and tells is the plan, as statements. proofs/Meanings.antt proves
-- them.
use Rattle.std.specs.Prelude.{◌≡◌, ◌↔◌, ◌≢◌, List, ℕ, ◌≤◌, ◌<◌, length, get_or}
use Rattle.model.specs.Graph.{time_of}
use Rattle.model.specs.Paths.{Latency}
use Rattle.model.specs.Plan.{present_edges, Plan}
use Rattle.layout.specs.declared.EdgeRecord.{EdgeRecord}
use Rattle.files.specs.Files.{graph_of}
use Rattle.acceptance.specs.Theorems.{AcceptedFile}
use Rattle.stages.specs.Stages.{listed}
use Rattle.plan.specs.Plan.{plan_refusal, plan_answer_of, plan_after}

-- It is given exactly if the file is accepted and the list has at least as many records as the file has edges; 16 comes exactly if the file is accepted
-- and the list has fewer.
abbrev pub PlanGiven : Type 0
PlanGiven = (s : List ℕ) (room : ℕ) → ((plan_refusal s room).number ≡ 0) ↔ (AcceptedFile s × (length (graph_of s).syncs ≤ room))

abbrev pub PlanShort : Type 0
PlanShort = (s : List ℕ) (room : ℕ) → ((plan_refusal s room).number ≡ 16) ↔ (AcceptedFile s × (room < length (graph_of s).syncs))

-- A refused call has 0 for length, steps and latency, and changes no record.
abbrev pub PlanRefused : Type 0
PlanRefused =
    (s : List ℕ) (room : ℕ) → (plan_refusal s room).number ≢ 0 →
    ((plan_answer_of s room).length ≡ 0) × ((plan_answer_of s room).steps ≡ 0) × ((plan_answer_of s room).latency ≡ 0)

abbrev pub PlanKept : Type 0
PlanKept = (s : List ℕ) (list : List EdgeRecord) → (plan_refusal s (length list)).number ≢ 0 → plan_after s list ≡ list

-- A lent list keeps its length, and its records past what is written.
abbrev pub PlanPast : Type 0
PlanPast =
    (s : List ℕ) (list : List EdgeRecord) (missing : EdgeRecord) →
    (length (plan_after s list) ≡ length list) ×
    ((i : ℕ) → (plan_answer_of s (length list)).length ≤ i → get_or (plan_after s list) i missing ≡ get_or list i missing)

-- What is written, and the steps told, are the plan of the file's graph; it has the length and the latency that are told.
abbrev pub PlanMeans : Type 0
PlanMeans =
    (s : List ℕ) (list : List EdgeRecord) → (plan_refusal s (length list)).number ≡ 0 →
    Plan (graph_of s) (plan_answer_of s (length list)).steps (listed (plan_answer_of s (length list)).length (plan_after s list)) ×
    (length (listed (plan_answer_of s (length list)).length (plan_after s list)) ≡ (plan_answer_of s (length list)).length) ×
    Latency (present_edges (graph_of s) (listed (plan_answer_of s (length list)).length (plan_after s list))) (time_of (graph_of s)) (graph_of s).output
    (plan_answer_of s (length list)).latency
