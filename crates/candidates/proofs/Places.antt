-- Places in a table that stands row by row in a list: entries of different rows or columns have different ones, and a list is known by its entries.
use mathlib.Core.Path.{◌≡◌, sym, ap, ◌∙◌, subst}
use mathlib.Core.Logic.{◌⊎◌, inl, inr, ◌≢◌}
use mathlib.Core.List.{List}
use Prim.Native.Nat.{ℕ, ◌+◌, ◌*◌, ◌/◌, ◌%◌, ◌≤◌, ◌<◌}
use native.Mathlib.Nat.{mul-zero, mod-lt, div-add-mod', div-lt_iff_lt-mul}
use native.Mathlib.Omega.{arith}
use lib.ListN.{length, get_or}
use lib.Seq.{ext_get_or}
use Rattle.model.specs.Lists.{tabulate}
use Rattle.model.proofs.Basics.{order}
use Rattle.records.specs.Columns.{rows}
use Rattle.records.proofs.Fill.{length-tabulate, get_d_tabulate}
use Rattle.records.proofs.Rows.{place-within, rows-length, rows_at}

-- entries of different columns, or of different rows, stand at different places of a table of width w
pub places-apart : (w a b c d : ℕ) → b < w → d < w → (a ≢ c) ⊎ (b ≢ d) → a * w + b ≢ c * w + d
places-apart w a b c d k l apart same = go (order a c) (order c a) apart
  where
    go : (a ≤ c) ⊎ (c < a) → (c ≤ a) ⊎ (a < c) → (a ≢ c) ⊎ (b ≢ d) → ⊥
    go (inr h) later apart = omega (arith, place-within w a c d h l)
    go (inl g) (inr h) apart = omega (arith, place-within w c a b h k)
    go (inl g) (inl h) (inl other) = other (omega arith)
    go (inl g) (inl h) (inr other) =
        let row : a ≡ c = omega arith in
        other (omega (arith, ap (λ (x : ℕ). x * w) row))

-- a list of n rows of width w whose entries are g a b holds these rows
pub rows_of :
    (w n : ℕ) (g : ℕ → ℕ → ℕ) (xs : List ℕ) → length xs ≡ n * w → ((a b : ℕ) → a < n → b < w → get_or xs (a * w + b) 0 ≡ g a b)
    → xs ≡ rows n (λ a. tabulate w (g a))
rows_of w n g xs long each =
    ext_get_or 0 xs (rows n f) (long ∙ sym (rows-length w f wide n)) (λ i l. at_place i (subst (λ (m : ℕ). i < m) long l) (order w 0))
  where
    f : ℕ → List ℕ
    f a = tabulate w (g a)

    wide : (a : ℕ) → length (f a) ≡ w
    wide a = length-tabulate w (g a)

    at_place : (i : ℕ) → i < n * w → (w ≤ 0) ⊎ (0 < w) → get_or xs i 0 ≡ get_or (rows n f) i 0
    at_place i l (inl narrow) =
        let none : w ≡ 0 = omega arith in
        absurd (omega (arith, ap (λ (x : ℕ). n * x) none, mul-zero n))
    at_place i l (inr some) =
        let a = i / w in
        let b = i % w in
        let row : a < n = (div-lt_iff_lt-mul some).1 l in
        let column : b < w = mod-lt i some in
        let place : i ≡ a * w + b = sym (div-add-mod' i w) in
        ap (λ (m : ℕ). get_or xs m 0) place ∙
        (each a b row column ∙
        sym (ap (λ (m : ℕ). get_or (rows n f) m 0) place ∙ (rows_at w f wide n a b row column ∙ get_d_tabulate w (g a) 0 b column)))
