-- `plan::decide` meets its contract: the fault of an unaccepted file, else 16 by the room, else what `planned` gives for the graph that was read.
use mathlib.Core.Path.{◌∙◌}
use Rattle.std.proofs.lemmas.Result.{IfOk-from_err}
use Rattle.files.proofs.First.{handed_back}
use Rattle.acceptance.proofs.AcceptedFiles.{accepted-reading}
use Rattle.plan.proofs.Answers.{file-refused, room-judged, plan-found}
use Rattle.plan.proofs.decide.Goals as goal

pub returns-in_err-accepted : goal.returns-in_err-accepted
returns-in_err-accepted c =
    let back = c.from_residual.ensures in
    record {
      refusal = handed_back _ _ back.1 ∙ file-refused c.args.graph.now c.args.room _ c.in_err-accepted.ensures.refusal;
      plan = IfOk-from_err _ _ back.0;
    }

pub returns-in_err-check_room : goal.returns-in_err-check_room
returns-in_err-check_room c =
    let back = c.from_residual-in_err-check_room.ensures in
    record {
      refusal = handed_back _ _ back.1 ∙ room-judged c.args.graph.now c.args.room c.in_ok-accepted.ensures c.in_err-check_room.ensures;
      plan = IfOk-from_err _ _ back.0;
    }

pub planned-requires : goal.planned-requires
planned-requires c = accepted-reading c.args.graph.now c.in_ok-accepted.ensures

pub returns : goal.returns
returns c =
    record {
      refusal = room-judged c.args.graph.now c.args.room c.in_ok-accepted.ensures c.in_ok-check_room.ensures;
      plan = plan-found c.args.graph.now c.args.room c.in_ok-accepted.ensures c.planned.ensures;
    }
