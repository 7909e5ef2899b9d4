-- What is proved of the plan, each sentence as a type. Each is proved under its own name (`SubsumesIs` by `subsumes-is`): formula (25) and what is said of
-- feedback edges in proofs/Pairs.antt, tests and steps in Choices.antt, that steps lower the number of edges and keep what is accepted in Stages.antt, the
-- rest in Plans.antt.
use Rattle.std.specs.Prelude.{◌≡◌, ◌↔◌, ◌≢◌, not, List, [], ◌∷◌, ◌++◌, ℕ, ◌+◌, ◌≤◌, ◌<◌, length}
use Rattle.std.proofs.Math.Option.{none, some}
use Rattle.model.specs.Lists.{keep}
use Rattle.model.specs.Tasks.{Edge, Ends}
use Rattle.model.specs.Graph.{Graph, count, time_of, WellFormedEdges}
use Rattle.model.specs.Paths.{Path, OnCycle, ZeroWalk, times_along, Latency}
use Rattle.model.specs.Compute.{is_feedback}
use Rattle.model.specs.Proposals.{result, AcceptedGraph, AcceptedProposal}
use Rattle.model.specs.Theorems.{Decides, OffCycles, Resynchronizes}
use Rattle.model.specs.Plan.{present_edges, pair_edge, Candidate, Subsumes, subsumes, is_candidate, Step, NoStep, Stage, Plan, step, plan_of, plan_latency}

-- ── Candidates ──

-- Each test decides its meaning; a candidate's, at every list whose edges lie on no cycle.
abbrev pub SubsumesIs : Type 0
SubsumesIs = (n : ℕ) (es : List Edge) → Ends n es → (a b : ℕ) (e : Edge) → Decides (subsumes n es a b e) (Subsumes es a b e)

abbrev pub CandidateIs : Type 0
CandidateIs =
    (g : Graph) (list : List Edge) → OffCycles g list → (a b : ℕ) → a < count g → b < count g → Decides (is_candidate g list a b) (Candidate g list a b)

-- A candidate subsumes no edge that lies on a cycle, so that it does not matter whether feedback edges are counted.
abbrev pub FeedbackNotSubsumed : Type 0
FeedbackNotSubsumed =
    (g : Graph) (list : List Edge) (a b : ℕ) → Candidate g list a b → (e : Edge) → OnCycle (present_edges g list) e → Subsumes (present_edges g list) a b e → ⊥

-- Document 000, formula (25): where latency is within the bound, it is so after an edge of delay 0 from a to b is added exactly if no sum along a path of
-- delay 0 to a and one from b to the output, one after the other, is above the bound.
abbrev pub PairInTime : Type 0
PairInTime =
    (es : List Edge) (a b : ℕ) → ((d : ℕ) → Path es b a d → ⊥) → b ≢ a → (time : ℕ → ℕ) (output bound l m : ℕ) →
    Latency es time output l → l ≤ bound → Latency (es ++ (pair_edge a b ∷ [])) time output m →
    (m ≤ bound) ↔
    ((x : ℕ) (p q : List Edge) → ZeroWalk es x p a → ZeroWalk es b q output → times_along time x p + times_along time b q ≤ bound)

-- ── Steps ──

-- The computed step is the step, and none exactly if no candidate subsumes two. There is one step only, and it lowers the number of edges.
abbrev pub StepIs : Type 0
StepIs = (g : Graph) (list : List Edge) → OffCycles g list → (next : List Edge) → (step g list ≡ some next) ↔ Step g list next

abbrev pub NoStepIs : Type 0
NoStepIs = (g : Graph) (list : List Edge) → OffCycles g list → (step g list ≡ none) ↔ NoStep g list

abbrev pub StepUnique : Type 0
StepUnique = (g : Graph) (list next next' : List Edge) → Step g list next → Step g list next' → next ≡ next'

abbrev pub StepLowers : Type 0
StepLowers = (g : Graph) (list next : List Edge) → Step g list next → length next < length list

-- ── Stages ──

-- Every stage of an accepted graph's plan is well-formed as a proposal, and accepted: it keeps every order and the bound.
abbrev pub StageAccepted : Type 0
StageAccepted =
    (g : Graph) → AcceptedGraph g → (k : ℕ) (list : List Edge) → Stage g k list → WellFormedEdges (count g) list × AcceptedProposal g list

-- So its result allows only runs that the graph allows, never stalls, has the same cycles and is in time.
abbrev pub StageResynchronizes : Type 0
StageResynchronizes =
    (g : Graph) → AcceptedGraph g → (k : ℕ) (list : List Edge) → Stage g k list → Resynchronizes g (result g list)

-- Edges and steps of a stage together are at most as many as the graph's feedforward edges.
abbrev pub StageShrinks : Type 0
StageShrinks =
    (g : Graph) (k : ℕ) (list : List Edge) → Stage g k list → length list + k ≤ length (keep (λ e. not (is_feedback g e)) g.syncs)

-- ── The plan ──

-- The computed plan is the plan, and there is one only.
abbrev pub PlanIs : Type 0
PlanIs = (g : Graph) → AcceptedGraph g → Plan g (plan_of g).steps (plan_of g).list

abbrev pub PlanUnique : Type 0
PlanUnique = (g : Graph) (k k' : ℕ) (list list' : List Edge) → Plan g k list → Plan g k' list' → (k ≡ k') × (list ≡ list')

-- Its latency is that of the graph it leads to.
abbrev pub PlanLatencyIs : Type 0
PlanLatencyIs = (g : Graph) → AcceptedGraph g → Latency (present_edges g (plan_of g).list) (time_of g) g.output (plan_latency g)
