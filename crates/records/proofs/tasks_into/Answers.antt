-- `records::tasks_into` meets its contract: both parts come back filled.
use lib.Seq.{length-take-le}
use Rattle.records.proofs.Parts.{put-front}
use Rattle.records.proofs.tasks_into.Goals as goal

pub returns : goal.returns
returns c =
    let n = c.args.tasks in
    let said = c.read_tasks.ensures in
    let as_many = length-take-le n c.args.processor.now c.requires.tasks_in_bounds.0 in record {
      processor_after = put-front n _ c.args.processor.now as_many said.processor_after;
      time_after = put-front n _ c.args.time.now as_many said.time_after;
    }
