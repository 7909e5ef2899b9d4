-- Document 01, "What the calls hand over": "256 marks in four 64-bit words, edge 1 the most significant bit of the first word, and the number of
-- marks set". Marks count from 0 here, places from 1.
use Rattle.std.specs.Prelude.{◌≡◌, Bool, true, false, List, [], ◌∷◌, ◌++◌, ℕ, zero, suc, ◌+◌, ◌-◌, ◌*◌, ◌/◌, ◌%◌, ◌^◌, ◌≤◌, ◌<◌, eqb, get_or, replicate, Option, Some, None}
use Rattle.model.specs.Lists.{put, counted, sum_over}
use Rattle.marks.specs.declared.Marks.{Marks}
use Rattle.marks.specs.declared.Places.{Places}

-- the number of k binary digits that are the marks 0 to k - 1, mark 0 the most significant
unfoldable pub number : ℕ → (ℕ → Bool) → ℕ
number zero marked = 0
number (suc k) marked = 2 * number k marked + counted (marked k) 1

-- 64 marks in a word, from mark 64 w on
unfoldable pub word_of : (ℕ → Bool) → ℕ → ℕ
word_of marked w = number 64 (λ j. marked (64 * w + j))

-- 256 marks in four words
unfoldable pub marks_of : (ℕ → Bool) → Marks
marks_of marked = record { words = word_of marked 0 ∷ word_of marked 1 ∷ word_of marked 2 ∷ word_of marked 3 ∷ [] }

-- bit j of a 64-bit word is set, bit 0 the most significant
unfoldable pub bit_of : ℕ → ℕ → Bool
bit_of word j = eqb (word / 2 ^ (63 - j) % 2) 1

-- mark i of four words is set
unfoldable pub mark_at : Marks → ℕ → Bool
mark_at marks i = bit_of (get_or marks.words (i / 64) 0) (i % 64)

-- the first of the marks from `from` to limit - 1 that is set, none if none of them is
abbrev pub FirstSet : (ℕ → Bool) → ℕ → ℕ → Option ℕ → Type 0
FirstSet marked from limit None = (i : ℕ) → from ≤ i → i < limit → marked i ≡ false
FirstSet marked from limit (Some r) = (from ≤ r) × (r < limit) × (marked r ≡ true) × ((i : ℕ) → from ≤ i → i < r → marked i ≡ false)

-- how many of the first n marks are set
unfoldable pub set_below : ℕ → (ℕ → Bool) → ℕ
set_below n marked = sum_over n marked (λ i. 1)

-- the places, counted from 1, of those of the first n marks that are set, ascending
unfoldable pub places_below : ℕ → (ℕ → Bool) → List ℕ
places_below zero marked = []
places_below (suc n) marked = places_below n marked ++ put (marked n) (suc n) []

-- the places of all marks set, ascending, and 0 past them
unfoldable pub places_of : (ℕ → Bool) → Places
places_of marked = record { count = set_below 256 marked; place = places_below 256 marked ++ replicate (256 - set_below 256 marked) 0 }
