-- `redundant::redundant` meets its contract: by the two cases of what accepting the graph gives.
use Rattle.acceptance.specs.Outcomes.{outcome}
use Rattle.acceptance.proofs.AcceptedFiles.{accepted-reading}
use Rattle.redundant.proofs.Answers.{answer-refused, answer-read}
use Rattle.redundant.specs.Redundant.{no_marks}
use Rattle.redundant.proofs.redundant.Goals as goal

pub marks_of-marks-requires : goal.marks_of-marks-requires
marks_of-marks-requires c = accepted-reading c.args.graph.now c.in-Ok.ensures

pub returns-in-Ok : goal.returns-in-Ok
unfolding outcome
returns-in-Ok c = answer-read c.args.graph.now c.in-Ok.ensures c.marks_of-marks.ensures c.count_set-count.ensures

pub returns-in-Err : goal.returns-in-Err
unfolding no_marks
returns-in-Err c = answer-refused c.args.graph.now c.in-Err.refused.fault c.in-Err.ensures.refusal c.into.ensures
