-- `prepared::prepare` meets its contract: the graph's table with 0 on its diagonal is spread by rows and by columns, and the edges of the first stage are
-- counted by the delays so made.
use native.Mathlib.Omega.{arith}
use Prim.Native.Nat.{ℕ, ◌-◌, ◌*◌}
use borrow.Rule.Slice.PartMut.{same_len_mid}
use Rattle.acceptance.proofs.Readings.{graph-fronts}
use Rattle.stages.proofs.Staged.{stage-edges}
use Rattle.prepared.proofs.FirstReady.{first-ready}
use Rattle.prepared.proofs.Starting.{blank-small, few-tasks, square-small, square-within, front-size, zeroed-within, counted-front, row-place, column-place, lent-few, lent-ends, counts-held}
use Rattle.prepared.proofs.prepare.Goals as goal

pub overflow_mul-size : goal.overflow_mul-size
overflow_mul-size c =
    let graph = c.requires.accepted_reading.accepted in
    let tasks_are = (graph-fronts c.requires.accepted_reading).tasks-are in
    record { fits = omega (arith, square-small graph tasks_are) }

pub slice_bounds-zero_diagonal-end : goal.slice_bounds-zero_diagonal-end
slice_bounds-zero_diagonal-end c =
    let graph = c.requires.accepted_reading.accepted in
    let tasks_are = (graph-fronts c.requires.accepted_reading).tasks-are in
    let table = c.requires.by_index in
    square-within graph tasks_are table.0 table.1

pub zero_diagonal-requires : goal.zero_diagonal-requires
zero_diagonal-requires c =
    let graph = c.requires.accepted_reading.accepted in
    let tasks_are = (graph-fronts c.requires.accepted_reading).tasks-are in
    let table = c.requires.by_index in
    (few-tasks graph tasks_are, front-size graph tasks_are table.0 table.1)

pub slice_bounds-spread-end : goal.slice_bounds-spread-end
slice_bounds-spread-end c =
    let graph = c.requires.accepted_reading.accepted in
    let tasks_are = (graph-fronts c.requires.accepted_reading).tasks-are in
    let table = c.requires.by_index in
    zeroed-within graph tasks_are table.0 table.1 c.zero_diagonal.ensures _

pub spread-requires : goal.spread-requires
spread-requires c =
    let graph = c.requires.accepted_reading.accepted in
    let tasks_are = (graph-fronts c.requires.accepted_reading).tasks-are in
    let table = c.requires.by_index in
    let few = few-tasks graph tasks_are in
    record {
      tasks_bound = (few, few, omega arith, c.requires.tasks_in_bounds.0, blank-small c.args.from.now c.requires.by_index_2.0);
      by_index = row-place graph tasks_are table.0 table.1 c.zero_diagonal.ensures _;
    }

pub slice_bounds-spread-end-2 : goal.slice_bounds-spread-end-2
slice_bounds-spread-end-2 c =
    let graph = c.requires.accepted_reading.accepted in
    let tasks_are = (graph-fronts c.requires.accepted_reading).tasks-are in
    let table = c.requires.by_index in
    zeroed-within graph tasks_are table.0 table.1 c.zero_diagonal.ensures _

pub spread-requires-2 : goal.spread-requires-2
spread-requires-2 c =
    let graph = c.requires.accepted_reading.accepted in
    let tasks_are = (graph-fronts c.requires.accepted_reading).tasks-are in
    let table = c.requires.by_index in
    let few = few-tasks graph tasks_are in
    record {
      tasks_bound = (few, omega arith, few, c.requires.tasks_in_bounds.1, blank-small c.args.to.now c.requires.by_index_2.1);
      by_index = column-place graph tasks_are table.0 table.1 c.zero_diagonal.ensures _;
    }

pub slice_bounds-count_edges-end : goal.slice_bounds-count_edges-end
slice_bounds-count_edges-end c = omega (arith, c.requires.held_stage.few, c.requires.held_stage.room)

pub count_edges-requires : goal.count_edges-requires
count_edges-requires c =
    let graph = c.requires.accepted_reading.accepted in
    let tasks_are = (graph-fronts c.requires.accepted_reading).tasks-are in
    let held = c.requires.held_stage in
    let by-source = c.spread.ensures in
    let by-sink = c.spread-2.ensures in
    record {
      edges_bound = lent-few graph tasks_are held;
      tasks_in_bounds = (by-source.size, by-sink.size, c.requires.tasks_in_bounds.2);
      tasks_bound = (few-tasks graph tasks_are, lent-ends graph tasks_are held);
      small = (by-sink.small, c.requires.by_index_2.2);
    }

pub shape_of-table : goal.shape_of-table
shape_of-table c =
    let tasks = c.args.graph.tasks in
    same_len_mid {X = ℕ} 0 (tasks * tasks - 0) c.args.table.now c.zero_diagonal.new.table c.zero_diagonal.auto.table

pub returns : goal.returns
returns c =
    let graph = c.requires.accepted_reading.accepted in
    let tasks_are = (graph-fronts c.requires.accepted_reading).tasks-are in
    let table = c.requires.by_index in
    let counted = counted-front graph tasks_are table.0 table.1 c.zero_diagonal.ensures _ in
    first-ready graph tasks_are counted c.spread.ensures c.spread-2.ensures
    (counts-held (stage-edges c.requires.held_stage) c.count_edges.ensures)
