-- Only for contracts inside: where the steps of the plan stand, what a step gives, and what all of them lead to.
use Rattle.std.specs.Prelude.{◌≡◌, List, ℕ, Option, None, Some}
use Rattle.std.proofs.Math.Option.{none, some}
use Rattle.model.specs.Tasks.{Edge}
use Rattle.model.specs.Graph.{Graph, count}
use Rattle.model.specs.Plan.{replaced, Candidate, first_stage, step, plan_of, plan_latency}
use Rattle.stages.specs.declared.StageEdges.{StageEdges}
use Rattle.stages.specs.Stages.{HeldStage}
use Rattle.prepared.specs.Ready.{Ready}
use Rattle.present.specs.declared.Precedence.{Precedence}
use Rattle.present.specs.Present.{Staged, Ordered, Timed}
use Rattle.steps.specs.declared.StepTaken.{StepTaken}
use Rattle.steps.specs.declared.LastStage.{LastStage}

-- what a step starts from: a stage, with its delays, counts and times
pub record Here (g : Graph) (list : List Edge) (tasks : ℕ) (stage : StageEdges) (from to counts end latest : List ℕ) : Type 0 where
  pub as_many : tasks ≡ count g
  pub staged : Staged g list
  pub held : HeldStage stage list
  pub ready : Ready g list from to counts
  pub timed : Timed g list end latest

-- a candidate was taken: stage, delays and counts are the next one's
pub record Taken (g : Graph) (list : List Edge) (r : StepTaken) (stage : StageEdges) (from to counts : List ℕ) : Type 0 where
  pub found : step g list ≡ some (replaced g list r.source r.sink)
  pub candidate : Candidate g list r.source r.sink
  pub held : HeldStage stage (replaced g list r.source r.sink)
  pub ready : Ready g (replaced g list r.source r.sink) from to counts

-- what a step from a stage gives: the next stage, or the same one if there is no step
abbrev pub Stepped : Graph → List Edge → Option StepTaken → StageEdges → List ℕ → List ℕ → List ℕ → Type 0
Stepped g list (Some taken) stage from to counts = Taken g list taken stage from to counts
Stepped g list None stage from to counts = (step g list ≡ none) × HeldStage stage list

-- what all steps start from: the first stage, and sets of edges that order the tasks as its present graph does
pub record Begun (g : Graph) (time : List ℕ) (stage : StageEdges) (from to counts : List ℕ) (o : Precedence) (end latest : List ℕ) : Type 0 where
  pub here : Here g (first_stage g) (count g) stage from to counts end latest
  pub ordered : Ordered g (first_stage g) time o

-- what they lead to: the plan
pub record Followed (g : Graph) (r : LastStage) (stage : StageEdges) : Type 0 where
  pub steps : r.steps ≡ (plan_of g).steps
  pub latency : r.latency ≡ plan_latency g
  pub held : HeldStage stage (plan_of g).list
