-- `steps::follow_steps` meets its contract: the loop stands at a stage of the plan, as many steps after the first as it counted. Each step lowers the number
-- of edges.
use Rattle.model.specs.Graph.{Graph}
use Rattle.steps.specs.Steps.{Begun}
use Rattle.steps.proofs.Following.{Standing}
use Rattle.steps.proofs.follow_steps.Given as goal

abbrev pub invariant-loop-taken : goal.invariant-loop-taken
invariant-loop-taken l =
    (g : Graph) → Begun g l.time l.initial.stage l.initial.from l.initial.to l.initial.counts l.initial.order l.initial.end l.initial.latest →
    Standing g l.steps l.time l.stage l.from l.to l.counts l.order l.end l.latest

abbrev pub decreases-loop-taken : goal.decreases-loop-taken
decreases-loop-taken l = l.stage.count
