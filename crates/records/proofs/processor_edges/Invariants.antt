-- `records::processor_edges` meets its contract: after v steps the first v records are those of the first v edges.
use mathlib.Core.Path.{◌≡◌}
use mathlib.Core.List.{List}
use Prim.Native.Nat.{ℕ}
use lib.ListN.{length}
use Rattle.layout.specs.declared.EdgeRecord.{EdgeRecord}
use Rattle.model.specs.Tasks.{Task}
use Rattle.model.specs.Processors.{processor_edge}
use Rattle.records.specs.Columns.{record_of, ProcessorsOf}
use Rattle.records.proofs.Fill.{Filled}
use Rattle.records.proofs.processor_edges.Given as goal

-- The list has as many records as there are tasks, and the first v are those of the first v edges, whatever else the tasks are.
pub record Holds (processor : List ℕ) (v : ℕ) (xs : List EdgeRecord) : Type 0 where
  pub room : length xs ≡ length processor
  pub holds : (ts : List Task) → ProcessorsOf ts processor → Filled (λ u. record_of (processor_edge ts u)) (length ts) v xs

abbrev pub invariant-loop-v : goal.invariant-loop-v
invariant-loop-v l = Holds l.processor l.v l.edges
