-- `present::task_times` meets its contract: both rows are made along one order of the tasks.
use Rattle.present.proofs.task_times.Goals as goal

pub latest_along-requires : goal.latest_along-requires
latest_along-requires c =
    let sizes = c.requires.sinks_len in
    let worked = c.requires.worked in
    record {
      sources_len = (sizes.1, c.ends_along.auto.sequence, sizes.4, sizes.2, sizes.5, sizes.6);
      leads_back = c.ends_along.ensures.order;
      by_index = (worked.0, c.args.sinks.now, worked.1, worked.2);
    }

pub returns : goal.returns
returns c =
    record {
      end = c.ends_along.ensures.ends;
      latest = λ es worked fits. c.latest_along.ensures es c.args.sinks.now worked fits;
    }
