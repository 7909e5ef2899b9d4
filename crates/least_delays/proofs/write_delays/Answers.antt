-- `least_delays::write_delays` meets its contract: refused, it keeps the list; else the fronts of the lists that were read hold the graph, and their
-- table is the graph's.
use mathlib.Core.Path.{◌∙◌}
use native.Mathlib.Omega.{arith}
use Rattle.files.proofs.First.{handed_back}
use Rattle.records.proofs.Rows.{product_small}
use Rattle.acceptance.proofs.AcceptedFiles.{accepted-reading, few-tasks, read-fit}
use Rattle.acceptance.proofs.Readings.{few-edges}
use Rattle.acceptance.proofs.Rooms.{room-enough}
use Rattle.least_delays.proofs.Answers.{file-fault, delays-checked, list-kept, list_written}
use Rattle.least_delays.proofs.write_delays.Goals as goal

pub returns-in_err-accepted : goal.returns-in_err-accepted
returns-in_err-accepted c =
    let is = file-fault c.args.graph.now c.args.table.now c.in_err-accepted.ensures in
    record { refusal = handed_back _ _ c.from_residual.ensures.1 ∙ is; table = list-kept c.args.graph.now c.args.table.now _ is }

pub overflow_mul-tasks : goal.overflow_mul-tasks
overflow_mul-tasks c =
    let few = few-tasks c.args.graph.now c.in_ok-accepted.ensures in
    record { fits = omega (arith, product_small _ _ few few) }

pub returns-in_err-check_room : goal.returns-in_err-check_room
returns-in_err-check_room c =
    let is = delays-checked c.args.graph.now c.args.table.now c.in_ok-accepted.ensures c.in_err-check_room.ensures in
    record { refusal = handed_back _ _ c.from_residual-in_err-check_room.ensures.1 ∙ is; table = list-kept c.args.graph.now c.args.table.now _ is }

pub slice_bounds-least_table-end : goal.slice_bounds-least_table-end
slice_bounds-least_table-end c = few-edges (accepted-reading c.args.graph.now c.in_ok-accepted.ensures)

pub least_table-requires : goal.least_table-requires
least_table-requires c =
    let s = c.args.graph.now in
    let given = c.in_ok-accepted.ensures in
    record {
      tasks_bound = (few-tasks s given, room-enough _ _ c.in_ok-check_room.ensures);
      fit = read-fit s given;
    }

pub returns : goal.returns
returns c =
    let s = c.args.graph.now in
    let given = c.in_ok-accepted.ensures in
    let is = delays-checked s c.args.table.now given c.in_ok-check_room.ensures in
    record { refusal = is; table = list_written s c.args.table.now given is c.least_table.ensures }
