-- `figures::figures` meets its contract: by the two cases of what accepting the graph gives.
use Rattle.acceptance.specs.Outcomes.{outcome}
use Rattle.figures.proofs.Answers.{answer-refused, answer-read}
use Rattle.figures.proofs.figures.Goals as goal

pub returns-in-Ok : goal.returns-in-Ok
unfolding outcome
returns-in-Ok c = answer-read c.args.graph.now c.in-Ok.ensures

pub returns-in-Err : goal.returns-in-Err
returns-in-Err c = answer-refused c.args.graph.now c.in-Err.refused.fault c.in-Err.ensures.refusal c.into.ensures
