-- `files::checks::check_times` meets its contract: no task that was looked at so far is refused.
use mathlib.Core.Path.{◌≡◌}
use Prim.Native.Nat.{ℕ, ◌<◌}
use Rattle.model.specs.Graph.{Graph}
use Rattle.files.specs.Refusals.{not_refused}
use Rattle.files.specs.Files.{time_refusal}
use Rattle.records.specs.Columns.{TimesOf}
use Rattle.files.proofs.checks.check_times.Given as goal

abbrev pub invariant-loop-v : goal.invariant-loop-v
invariant-loop-v l =
    (g : Graph) → TimesOf g.tasks l.time → (u : ℕ) → u < l.v → time_refusal g u ≡ not_refused
