-- `files::checks::check_edges` meets its contract: no edge that was looked at so far is refused.
use mathlib.Core.Path.{◌≡◌}
use mathlib.Core.List.{List}
use Prim.Native.Nat.{ℕ, ◌<◌}
use Rattle.model.specs.Tasks.{Task}
use Rattle.files.specs.Refusals.{not_refused}
use Rattle.files.specs.Files.{edge_refusal}
use Rattle.records.specs.Columns.{ProcessorsOf, edges_in}
use Rattle.files.proofs.checks.check_edges.Given as goal

abbrev pub invariant-loop-j : goal.invariant-loop-j
invariant-loop-j l =
    (ts : List Task) → ProcessorsOf ts l.processor → (i : ℕ) → i < l.j → edge_refusal ts (edges_in l.edges) i ≡ not_refused
