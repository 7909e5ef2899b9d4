-- What counts and lists of marks mean, as statements. proofs/Listed.antt proves them.
use Rattle.std.specs.Prelude.{◌≡◌, ◌↔◌, Bool, true, ℕ, ◌-◌, ◌≤◌, ◌<◌, length, get_or}
use mathlib.Core.List.{Memᴰ}
use Rattle.marks.specs.Marks.{marks_of, mark_at, set_below, places_below}

-- Of 256 marks put into words each is read back.
abbrev pub MarksRead : Type 0
MarksRead = (marked : ℕ → Bool) (i : ℕ) → i < 256 → mark_at (marks_of marked) i ≡ marked i

-- A place is listed exactly if its mark is set.
abbrev pub PlacesAre : Type 0
PlacesAre =
    (n : ℕ) (marked : ℕ → Bool) (p : ℕ) → Memᴰ p (places_below n marked) ↔ ((1 ≤ p) × (p ≤ n) × (marked (p - 1) ≡ true))

-- Listed places ascend.
abbrev pub PlacesAscend : Type 0
PlacesAscend =
    (n : ℕ) (marked : ℕ → Bool) (i j : ℕ) → i < j → j < length (places_below n marked) →
    get_or (places_below n marked) i 0 < get_or (places_below n marked) j 0

-- As many places are listed as marks are counted.
abbrev pub PlacesCounted : Type 0
PlacesCounted = (n : ℕ) (marked : ℕ → Bool) → length (places_below n marked) ≡ set_below n marked
