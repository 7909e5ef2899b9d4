-- `present::first_times` meets its contract: the graph's edges order the tasks as the present graph of the first stage does, and the sets hold those of delay
-- 0.
use mathlib.Core.Path.{refl, sym, ◌∙◌}
use Rattle.acceptance.proofs.Fronts.{front_edges}
use Rattle.acceptance.proofs.Readings.{graph-fronts, graph-within}
use Rattle.sets.proofs.Words.{ends-small, crossed}
use Rattle.sets.proofs.Graphs.{zero-sets}
use Rattle.readings.specs.Working.{graph_in}
use Rattle.present.proofs.Ordering.{first-staged, first_ends, first-order, first-ordered, few-times, output-there, bound-small, times-within, times-worked, times-timed}
use Rattle.present.proofs.Reading.{reading-clocked, ordered-first}
use Rattle.present.proofs.first_times.Goals as goal

pub slice_bounds-take_edges-end : goal.slice_bounds-take_edges-end
slice_bounds-take_edges-end c = (graph-within c.requires.accepted_reading).ordering

pub take_edges-requires : goal.take_edges-requires
take_edges-requires c =
    let graph = c.requires.accepted_reading.accepted in
    let lists = graph-fronts c.requires.accepted_reading in
    record {
      by_index = ends-small _ graph.formed.at_most_64 (first_ends graph lists.held);
      sinks_value = (refl, refl);
    }

pub slice_bounds-task_times-end-3 : goal.slice_bounds-task_times-end-3
slice_bounds-task_times-end-3 c = (graph-within c.requires.accepted_reading).time

pub task_times-requires : goal.task_times-requires
task_times-requires c =
    let sizes = c.requires.end_len in
    let graph = c.requires.accepted_reading.accepted in
    let lists = graph-fronts c.requires.accepted_reading in
    let staged = first-staged (graph_in c.args.graph) graph in
    let clocked = reading-clocked c.requires.accepted_reading in
    let ends = first_ends graph lists.held in
    let alike = first-order graph lists.held in
    let sets = c.take_edges.ensures in
    let as_many = lists.tasks-are ∙ sym lists.as-many-times in
    let worked = times-worked staged clocked ends alike (zero-sets sets.sinks) (crossed sets.sinks sets.sources graph.formed.at_most_64 ends) in
    record {
      sinks_len = (
        sets.sinks.room,
        sets.sources.room,
        few-times staged clocked,
        sizes.0 ∙ as_many,
        sizes.1 ∙ as_many,
        output-there staged clocked,
        bound-small staged clocked,
      );
      worked = (front_edges c.args.graph, worked, times-within staged clocked ends alike);
    }

pub returns : goal.returns
returns c =
    let graph = c.requires.accepted_reading.accepted in
    let lists = graph-fronts c.requires.accepted_reading in
    let staged = first-staged (graph_in c.args.graph) graph in
    let clocked = reading-clocked c.requires.accepted_reading in
    let ends = first_ends graph lists.held in
    let alike = first-order graph lists.held in
    let sets = c.take_edges.ensures in
    let times = c.task_times.ensures in
    let worked = times-worked staged clocked ends alike (zero-sets sets.sinks) (crossed sets.sinks sets.sources graph.formed.at_most_64 ends) in
    record {
      ordered = ordered-first c.args.graph.tasks c.args.graph.time
          (first-ordered graph lists.held clocked (zero-sets sets.sinks) sets.sources.room (crossed sets.sinks sets.sources graph.formed.at_most_64 ends));
      timed = times-timed staged clocked ends alike (times.end _ worked) (times.latest _ worked (times-within staged clocked ends alike));
    }
