-- `redundant::marks_of` meets its contract: the front of the table holds the least delays of the graph's edges, by which the redundant ones are marked.
use mathlib.Core.Path.{◌∙◌}
use Prim.Native.Nat.{ℕ}
use native.Mathlib.Omega.{arith}
use lib.ListN.{length-replicate}
use Rattle.delays.proofs.Table.{table-front, table-room}
use Rattle.redundancy.proofs.Graphs.{graph-apart}
use Rattle.acceptance.proofs.Fronts.{front_edges}
use Rattle.acceptance.proofs.Readings.{graph-fronts, few-tasks, as-many-edges, few-edges, original-fit, square-small}
use Rattle.redundant.proofs.Answers.{lists-marked}
use Rattle.redundant.proofs.marks_of.Goals as goal

pub slice_bounds-edges-end : goal.slice_bounds-edges-end
slice_bounds-edges-end c = few-edges c.requires

pub least_table-requires : goal.least_table-requires
least_table-requires c =
    let given = c.requires in
    record {
      tasks_bound = (few-tasks given, omega (arith, square-small given, length-replicate {A = ℕ} 4096 0));
      fit = original-fit given;
    }

pub overflow_mul-tasks : goal.overflow_mul-tasks
overflow_mul-tasks c = record { fits = omega (arith, square-small c.requires) }

pub slice_bounds-redundant_marks-end : goal.slice_bounds-redundant_marks-end
slice_bounds-redundant_marks-end c = table-room c.args.graph.now.tasks (front_edges c.args.graph.now) _ c.least_table.ensures

pub redundant_marks-requires : goal.redundant_marks-requires
redundant_marks-requires c =
    let given = c.requires in
    let held = graph-fronts given in
    record {
      tasks_bound = (few-tasks given, omega (arith, as-many-edges given, few-edges given));
      fit = original-fit given;
      apart = graph-apart _ given.accepted.formed given.accepted.no_zero_cycle held.tasks-are held.held;
      table_value = table-front c.args.graph.now.tasks (front_edges c.args.graph.now) _ c.least_table.ensures;
    }

pub returns : goal.returns
returns c = c.redundant_marks.ensures ∙ lists-marked c.requires
