-- `records::read_tasks` meets its contract: after v steps the first v elements of both lists are those of the first v tasks.
use lib.ListN.{length}
use Rattle.layout.specs.Layout.{graph_header_bits, record_start, task_at}
use Rattle.records.proofs.Fill.{Filled}
use Rattle.records.proofs.read_tasks.Given as goal

abbrev pub invariant-loop-v : goal.invariant-loop-v
invariant-loop-v l =
    Filled (λ u. (task_at l.bytes (record_start graph_header_bits u)).processor) (length l.initial.processor) l.v l.processor ×
    Filled (λ u. (task_at l.bytes (record_start graph_header_bits u)).time) (length l.initial.processor) l.v l.time
