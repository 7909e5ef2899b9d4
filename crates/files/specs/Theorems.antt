-- A theorem about the tests, as a statement. proofs/Repeats.antt proves it.
use Rattle.std.specs.Prelude.{◌≡◌, List, ℕ, ◌<◌}
use Rattle.model.specs.Tasks.{Edge}
use Rattle.model.specs.Theorems.{Decides}
use Rattle.files.specs.Files.{edge_in, repeats_earlier}

-- 8's test: true exactly if an earlier edge is the same
abbrev pub RepeatsEarlierIs : Type 0
RepeatsEarlierIs = (es : List Edge) (j : ℕ) → Decides (repeats_earlier es j) ((i : ℕ) × (i < j) × (edge_in es i ≡ edge_in es j))
