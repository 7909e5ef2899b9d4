-- `verdict::verdict` meets its contract: each way out is `verdict_of` the two files.
use Rattle.verdict.proofs.Answers.{graph-refused, proposal-refused, judgeable, judged-here, judged-answer, sizes}
use Rattle.verdict.proofs.verdict.Goals as goal

pub returns-in-Err : goal.returns-in-Err
returns-in-Err c = graph-refused c.args.graph.now c.args.proposal.now c.in-Err.unaccepted.fault c.in-Err.ensures.refusal c.refused.ensures

pub returns-in-Err-read_proposal : goal.returns-in-Err-read_proposal
returns-in-Err-read_proposal c =
    proposal-refused c.args.graph.now c.args.proposal.now c.in-Ok.ensures c.in-Err-read_proposal.fault c.in-Err-read_proposal.ensures.refusal c.refused-in-Err-read_proposal.ensures

pub judge-requires : goal.judge-requires
judge-requires c = judgeable c.args.graph.now c.args.proposal.now c.in-Ok.ensures c.in-Ok-read_proposal.ensures

pub weighed-requires : goal.weighed-requires
weighed-requires c =
    sizes c.args.graph.now c.args.proposal.now c.in-Ok.ensures c.in-Ok-read_proposal.ensures
    (judged-here c.args.graph.now c.args.proposal.now c.in-Ok.ensures c.in-Ok-read_proposal.ensures c.judge.ensures)

pub returns : goal.returns
returns c =
    judged-answer c.args.graph.now c.args.proposal.now c.in-Ok.ensures c.in-Ok-read_proposal.ensures
    (judged-here c.args.graph.now c.args.proposal.now c.in-Ok.ensures c.in-Ok-read_proposal.ensures c.judge.ensures)
    c.weighed.ensures.outcome c.weighed.ensures.latency c.weighed.ensures.margin
