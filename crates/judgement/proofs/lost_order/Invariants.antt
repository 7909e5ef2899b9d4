-- `judgement::lost_order` meets its contract: the orders looked at so far are held. One is held where the entry of its ends is within its delay, and lost where
-- that entry is above it in a finished row.
use mathlib.Core.Path.{◌≡◌}
use mathlib.Core.Bool.{true}
use Prim.Native.Nat.{ℕ, ◌+◌, ◌<◌}
use Rattle.model.specs.Compute.{order_holds}
use Rattle.records.specs.Columns.{edges_in}
use Rattle.files.specs.Files.{edge_in}
use Rattle.delays.specs.Rows.{Known}
use Rattle.judgement.proofs.lost_order.Given as goal

abbrev pub invariant-loop-j : goal.invariant-loop-j
invariant-loop-j l =
    Known l.tasks (edges_in l.made) l.done l.known ×
    ((i : ℕ) → i < l.j → order_holds l.tasks (edges_in l.made) (edge_in (edges_in l.edges) (l.tasks + i)) ≡ true)
