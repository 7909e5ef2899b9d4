-- `delays::least_table` meets its contract: after each turn of the loop the rows from the last down to this task's are final, and the rest of the list is as
-- it was.
use mathlib.Core.Path.{◌≡◌}
use lib.ListN.{length}
use Rattle.records.specs.Columns.{edges_in}
use Rattle.delays.specs.Delays.{rows_from}
use Rattle.delays.specs.Rows.{Known}
use Rattle.delays.proofs.least_table.Given as goal

abbrev pub invariant-loop-a : goal.invariant-loop-a
invariant-loop-a l = (length l.table ≡ length l.initial.table) × Known l.tasks (edges_in l.edges) l.done l.known × (l.table ≡ rows_from l.tasks (edges_in l.edges) l.a l.initial.table)
