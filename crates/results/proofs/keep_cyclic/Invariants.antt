-- `results::keep_cyclic` meets its contract: after j steps the list holds those of the first j edges that lie on a cycle, at most j. The edge of a step
-- is stored behind them, and counts if it does.
use mathlib.Core.Path.{◌≡◌}
use Prim.Native.Nat.{◌≤◌}
use lib.ListN.{length, take}
use Rattle.model.specs.Lists.{keep}
use Rattle.model.specs.Compute.{on_cycle}
use Rattle.records.specs.Columns.{edges_in}
use Rattle.results.proofs.keep_cyclic.Given as goal

abbrev pub invariant-loop-e : goal.invariant-loop-e
invariant-loop-e l =
    (l.kept ≤ l.e-index) × (length l.list ≡ 576) ×
    (edges_in (take l.kept l.list) ≡ keep (on_cycle (length l.processor) (edges_in l.edges)) (edges_in (take l.e-index l.edges)))
