-- `readings::graphs::graph_lists` meets its contract: zeros with the tasks in front, and blank records with the processor edges and then the file's
-- edges in front, are the lists of the working form.
use mathlib.Core.Path.{refl}
use native.Mathlib.Omega.{arith}
use Rattle.model.specs.Tasks.{no_task, processor_of}
use Rattle.model.specs.Graph.{time_of}
use Rattle.files.specs.Files.{graph_of}
use Rattle.readings.specs.Working.{working_graph}
use Rattle.records.specs.Columns.{no_record}
use Rattle.records.proofs.Parts.{zeros-room, blank-room, filled-room, within-list, column-of-take}
use Rattle.readings.proofs.Whole.{header-tasks, task-list, edge-list}
use Rattle.readings.proofs.graphs.graph_lists.Goals as goal

pub tasks_into-requires : goal.tasks_into-requires
tasks_into-requires c =
    let few = c.requires.tasks_bound.0 in
    record {
      tasks_bound = few;
      tasks_in_bounds = (zeros-room 64 c.requires.processor_value.0 few, zeros-room 64 c.requires.processor_value.1 few);
    }

pub processor_edges_into-requires : goal.processor_edges_into-requires
processor_edges_into-requires c =
    let few = c.requires.tasks_bound in
    let processors = task-list c.args.bytes.now c.requires.header_value (λ t. t.processor) refl few.0 c.requires.processor_value.0 c.tasks_into.ensures.processor_after in
    record {
      tasks_bound = few.0;
      tasks_in_bounds = (within-list 64 _ processors few.0, blank-room no_record 320 c.requires.ordering_value (omega (arith, few.0)));
    }

pub edges_into-requires : goal.edges_into-requires
edges_into-requires c =
    let s = c.args.bytes.now in
    let is = c.requires.header_value in
    let few = c.requires.tasks_bound in
    let processors = task-list s is (λ t. t.processor) refl few.0 c.requires.processor_value.0 c.tasks_into.ensures.processor_after in
    let on = column-of-take no_task (λ t. t.processor) (graph_of s).tasks 64 c.args.header.tasks processors few.0 (header-tasks s is) in
    record {
      position_bound = omega (arith, few.0);
      from_le_to = (omega arith, omega (arith, few.1));
      to_in_bounds = filled-room no_record 320 _ _ (omega (arith, few.0)) c.requires.ordering_value (c.processor_edges_into.ensures (graph_of s).tasks on) (omega (arith, few.0, few.1));
    }

pub returns : goal.returns
unfolding working_graph processor_of time_of
returns c =
    let s = c.args.bytes.now in
    let is = c.requires.header_value in
    let few = c.requires.tasks_bound in
    let processors = task-list s is (λ t. t.processor) refl few.0 c.requires.processor_value.0 c.tasks_into.ensures.processor_after in
    let on = column-of-take no_task (λ t. t.processor) (graph_of s).tasks 64 c.args.header.tasks processors few.0 (header-tasks s is) in
    record {
      processors = processors;
      times = task-list s is (λ t. t.time) refl few.0 c.requires.processor_value.1 c.tasks_into.ensures.time_after;
      orders = edge-list s is few.0 few.1 c.requires.ordering_value (c.processor_edges_into.ensures (graph_of s).tasks on) c.edges_into.ensures;
    }
