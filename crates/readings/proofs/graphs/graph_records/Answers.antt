-- `readings::graphs::graph_records` meets its contract: the lists are those of the working form, so the checks are those of the file's tasks and edges.
use mathlib.Core.Path.{sym}
use native.Mathlib.Omega.{arith}
use borrow.Author.Rules.{rules}
use Rattle.files.specs.Files.{graph_of}
use Rattle.readings.proofs.Columns.{processor-room, time-room, edge-room, processors-part, times-part, edges-part}
use Rattle.readings.proofs.graphs.graph_records.Goals as goal

pub slice_bounds-check_records-end : goal.slice_bounds-check_records-end
slice_bounds-check_records-end c = omega (arith, processor-room c.args.bytes.now c.requires.header_value c.requires.tasks_bound c.graph_lists.ensures)

pub slice_bounds-check_records-end-2 : goal.slice_bounds-check_records-end-2
slice_bounds-check_records-end-2 c = omega (arith, time-room c.args.bytes.now c.requires.header_value c.requires.tasks_bound c.graph_lists.ensures)

pub slice_bounds-check_records-end-3 : goal.slice_bounds-check_records-end-3
slice_bounds-check_records-end-3 c = omega (arith, edge-room c.args.bytes.now c.requires.header_value c.requires.tasks_bound c.graph_lists.ensures)

pub check_records-requires : goal.check_records-requires
check_records-requires c =
    let few = c.requires.tasks_bound in
    record { time_len_bound = search rules; edges_bound = search rules }

pub returns : goal.returns
returns c =
    let s = c.args.bytes.now in
    let is = c.requires.header_value in
    let few = c.requires.tasks_bound in
    let lists = c.graph_lists.ensures in record {
      refusal = c.check_records.ensures (graph_of s) (processors-part s is few lists) (times-part s is few lists) (sym (edges-part s is few lists));
      lists = lists;
    }
