-- `files::checks::check_repeats` meets its contract: none of the edges looked at so far repeats an earlier one, each is marked, and its key is listed.
use mathlib.Core.Path.{◌≡◌}
use Prim.Native.Nat.{ℕ, ◌<◌}
use Rattle.files.specs.Refusals.{not_refused}
use Rattle.files.specs.Files.{repeat_refusal}
use Rattle.files.specs.Repeated.{Keyed, SeenBefore}
use Rattle.records.specs.Columns.{edges_in}
use Rattle.files.proofs.checks.check_repeats.Given as goal

abbrev pub invariant-loop-j : goal.invariant-loop-j
invariant-loop-j l =
    SeenBefore l.edges l.j l.seen × ((i : ℕ) → i < l.j → repeat_refusal (edges_in l.edges) i ≡ not_refused) × Keyed l.edges l.j l.keys
