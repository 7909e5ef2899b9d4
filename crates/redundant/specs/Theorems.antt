-- What the marks of the redundant set mean, as statements. proofs/Meanings.antt proves them.
use Rattle.std.specs.Prelude.{◌≡◌, ◌↔◌, ◌≢◌, ℕ, ◌-◌, ◌≤◌, ◌<◌}
use mathlib.Core.List.{List, Memᴰ}
use Rattle.model.specs.Paths.{Redundant}
use Rattle.model.specs.Theorems.{Decides}
use Rattle.files.specs.Files.{graph_of}
use Rattle.marks.specs.Marks.{mark_at, set_below, places_below}
use Rattle.acceptance.specs.Acceptance.{acceptance_refusal}
use Rattle.acceptance.specs.Outcomes.{outcome}
use Rattle.acceptance.specs.Theorems.{AcceptedFile}
use Rattle.redundant.specs.Redundant.{no_marks, redundant_of}

-- It is given exactly for an accepted file.
abbrev pub RedundantGiven : Type 0
RedundantGiven = (s : List ℕ) → ((redundant_of s).outcome.number ≡ 0) ↔ AcceptedFile s

-- A refused graph has no marks.
abbrev pub RedundantRefused : Type 0
RedundantRefused =
    (s : List ℕ) → (redundant_of s).outcome.number ≢ 0 →
    ((redundant_of s).outcome ≡ outcome (acceptance_refusal s)) × ((redundant_of s).marks ≡ no_marks) × ((redundant_of s).count ≡ 0)

-- The mark of an edge is set exactly if the edge is redundant, and the count is that of the marks set.
abbrev pub RedundantMean : Type 0
RedundantMean =
    (s : List ℕ) → AcceptedFile s → (i : ℕ) → i < 256 → Decides (mark_at (redundant_of s).marks i) (Redundant (graph_of s) i)

abbrev pub RedundantCounted : Type 0
RedundantCounted = (s : List ℕ) → (redundant_of s).count ≡ set_below 256 (mark_at (redundant_of s).marks)

-- A place is listed exactly if it is that of a redundant edge.
abbrev pub RedundantListed : Type 0
RedundantListed =
    (s : List ℕ) → AcceptedFile s → (p : ℕ) →
    Memᴰ p (places_below 256 (mark_at (redundant_of s).marks)) ↔ ((1 ≤ p) × Redundant (graph_of s) (p - 1))
