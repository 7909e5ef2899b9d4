-- Functions on lists and on numbers below a limit. Part of definitions to believe are the first four, `put` to `keep_places` (what a result keeps, an
-- edge removed by its place, edges dropped by their places; `put` also in lists of places), `tabulate` and `any_below` (files), `counted` and `sum_over`
-- (marks set); the others serve what computes, and sums in bounds.
use Rattle.std.specs.Prelude.{Bool, true, false, ◌&&◌, ◌||◌, ℕ, zero, suc, ◌+◌, max}
use mathlib.Core.List.{List, [], ◌∷◌, ◌++◌}
use Rattle.std.proofs.Math.Option.{Option, none, some}

module _ {A : Type 0} where
  -- x in front of xs, if the test says so
  unfoldable pub put : Bool → A → List A → List A
  put true x xs = x ∷ xs
  put false x xs = xs

  -- the elements that pass the test, in their sequence
  unfoldable pub keep : (A → Bool) → List A → List A
  unfolding put
  keep t [] = []
  keep t (x ∷ xs) = put (t x) x (keep t xs)

  -- the list without its element number i, counted from 0
  unfoldable pub without : ℕ → List A → List A
  without i [] = []
  without zero (x ∷ xs) = xs
  without (suc i) (x ∷ xs) = x ∷ without i xs

  -- the elements whose numbers pass the test, the first one being number i
  unfoldable pub keep_places : (ℕ → Bool) → ℕ → List A → List A
  unfolding put
  keep_places t i [] = []
  keep_places t i (x ∷ xs) = put (t i) x (keep_places t (suc i) xs)

  -- ── For definitions that compute, and for those of files ──

  -- f 0, f 1, .., the first n of them
  unfoldable pub tabulate : ℕ → (ℕ → A) → List A
  tabulate zero f = []
  tabulate (suc n) f = tabulate n f ++ (f n ∷ [])

  -- every element passes the test
  unfoldable pub every : (A → Bool) → List A → Bool
  every t [] = true
  every t (x ∷ xs) = t x && every t xs

  -- the largest f x over a list, 0 over the empty one
  unfoldable pub biggest : (A → ℕ) → List A → ℕ
  biggest f [] = 0
  biggest f (x ∷ xs) = max (f x) (biggest f xs)

-- the largest f v over the numbers v below n, 0 over none
unfoldable pub biggest_below : ℕ → (ℕ → ℕ) → ℕ
biggest_below zero f = 0
biggest_below (suc n) f = max (biggest_below n f) (f n)

-- some number below n passes the test
unfoldable pub any_below : ℕ → (ℕ → Bool) → Bool
any_below zero t = false
any_below (suc n) t = any_below n t || t n

unfoldable pub or_else : Bool → ℕ → Option ℕ → Option ℕ
or_else true v later = some v
or_else false v later = later

-- the first of the f numbers from v on that passes the test
unfoldable pub first_from : (ℕ → Bool) → ℕ → ℕ → Option ℕ
unfolding or_else
first_from t v zero = none
first_from t v (suc f) = or_else (t v) v (first_from t (suc v) f)

-- a number, if the test says so, else 0
unfoldable pub counted : Bool → ℕ → ℕ
counted true w = w
counted false w = 0

-- the sum of w v over the numbers v below n that pass the test
unfoldable pub sum_over : ℕ → (ℕ → Bool) → (ℕ → ℕ) → ℕ
unfolding counted
sum_over zero t w = 0
sum_over (suc n) t w = sum_over n t w + counted (t n) (w n)

unfoldable pub always : ℕ → Bool
always v = true

-- the sum of w v over all numbers v below n
unfoldable pub sum_below : ℕ → (ℕ → ℕ) → ℕ
unfolding always
sum_below n w = sum_over n always w
