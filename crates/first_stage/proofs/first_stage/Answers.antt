-- `first_stage::first_stage` meets its contract: the table and the marks are those of the edges of the list, and the needed ones among those behind the
-- processors' are the first stage.
use mathlib.Core.Path.{subst, ap, ◌∙◌}
use mathlib.Core.List.{List}
use native.Mathlib.Omega.{arith}
use lib.ListN.{length, length-drop}
use Rattle.model.specs.Tasks.{Edge}
use Rattle.records.specs.Columns.{edges_in}
use Rattle.delays.proofs.Table.{table-length, table-front}
use Rattle.stages.specs.Stages.{HeldStage}
use Rattle.first_stage.proofs.Given.{part-ends, first-is}
use Rattle.first_stage.proofs.first_stage.Goals as goal

pub keep_needed-requires : goal.keep_needed-requires
keep_needed-requires c =
    let asked = c.requires in
    let size = asked.tasks_bound in
    let tasks = c.args.tasks in
    let edges = c.args.edges.now in
    let front = table-front tasks (edges_in edges) _ c.least_table.ensures in
    record {
      tasks_bound = (size.0, omega (arith, length-drop tasks edges, size.2), ap length front ∙ table-length tasks (edges_in edges));
      ends = part-ends tasks edges asked.fit.ends;
    }

pub returns : goal.returns
returns c =
    let asked = c.requires in
    let tasks = c.args.tasks in
    let edges = c.args.edges.now in
    let written = c.least_table.ensures in
    let front = table-front tasks (edges_in edges) _ written in
    let stage = first-is tasks edges asked.tasks_bound.2 c.redundant_marks-marks.ensures in
    record {
      stage = subst (λ (xs : List Edge). HeldStage c.keep_needed.result xs) stage (c.keep_needed.ensures (edges_in edges) asked.fit front);
      table = written;
    }
