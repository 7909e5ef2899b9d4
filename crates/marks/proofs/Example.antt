-- The definitions at small cases, by computing: of three marks the last one set, and edge 1 alone, which is the most significant bit of the first word.
use mathlib.Core.Path.{◌≡◌, refl}
use mathlib.Core.Bool.{Bool}
use mathlib.Core.List.{[], ◌∷◌}
use Prim.Native.Nat.{ℕ, ◌^◌}
use lib.Dec.{eqb}
use Rattle.model.specs.Lists.{put, counted, sum_over}
use Rattle.marks.specs.Marks.{number, word_of, marks_of, set_below, places_below}

-- only mark i is set
abbrev only : ℕ → ℕ → Bool
only i j = eqb j i

third-number : number 3 (only 2) ≡ 1
unfolding number counted
third-number = refl

third-counted : set_below 3 (only 2) ≡ 1
unfolding set_below sum_over counted
third-counted = refl

third-place : places_below 3 (only 2) ≡ 3 ∷ []
unfolding places_below put
third-place = refl

edge-one : (marks_of (only 0)).words ≡ 2 ^ 63 ∷ 0 ∷ 0 ∷ 0 ∷ []
unfolding marks_of word_of number counted
edge-one = refl

edge-256 : (marks_of (only 255)).words ≡ 0 ∷ 0 ∷ 0 ∷ 1 ∷ []
unfolding marks_of word_of number counted
edge-256 = refl
