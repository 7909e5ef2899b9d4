-- `files::checks::check_ends` meets its contract: no edge that was looked at so far is refused.
use mathlib.Core.Path.{◌≡◌}
use Prim.Native.Nat.{ℕ, ◌<◌}
use Rattle.files.specs.Refusals.{not_refused}
use Rattle.files.specs.Files.{ends_refusal}
use Rattle.records.specs.Columns.{edges_in}
use Rattle.files.proofs.checks.check_ends.Given as goal

abbrev pub invariant-loop-j : goal.invariant-loop-j
invariant-loop-j l = (i : ℕ) → i < l.j → ends_refusal l.tasks (edges_in l.edges) i ≡ not_refused
