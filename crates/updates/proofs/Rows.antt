-- Rows of 64 numbers: a row that is lent as a part of a list holds the numbers of its places, so does a copy, and a row is filled number by number from the
-- front.
use mathlib.Core.Path.{◌≡◌, sym, ◌∙◌, subst}
use mathlib.Core.Logic.{◌⊎◌, inl, inr}
use mathlib.Core.List.{List}
use Prim.Native.Nat.{ℕ, ◌+◌, ◌-◌, ◌*◌, ◌≤◌, ◌<◌}
use native.Mathlib.Omega.{arith}
use lib.ListN.{length, get_or, set, drop, get_or-eq_default}
use lib.Seq.{get_or-take, get_or-drop, get_or-set_same, get_or-set_other}
use borrow.Rule.Slice.PartMut.{mid_of, mid_len}
use Rattle.model.proofs.Basics.{order}
use Rattle.records.specs.Columns.{at}
use Rattle.delays.specs.Rows.{RowCopied}
use Rattle.updates.specs.Updates.{Small}

-- the row of a task, as it is lent
abbrev pub row_of : ℕ → List ℕ → List ℕ
row_of x xs = mid_of (x * 64) (x * 64 + 64 - x * 64) xs

-- a row of small numbers is small
pub small_row : (row : List ℕ) → length row ≡ 64 → ((y : ℕ) → y < 64 → at row y ≤ 16383) → Small row
unfolding at
small_row row size inside i = go (order 64 i)
  where
    go : (64 ≤ i) ⊎ (i < 64) → get_or row i 0 ≤ 16383
    go (inl past) =
        let short : length row ≤ i = omega (arith, size) in
        omega (arith, get_or-eq_default row 0 short)
    go (inr l) = inside i l

module _ (x : ℕ) (xs : List ℕ) (room : x * 64 + 64 ≤ length xs) where
  pub row-size : length (row_of x xs) ≡ 64
  row-size =
      let width : x * 64 + 64 - x * 64 ≡ 64 = omega arith in
      mid_len (x * 64) (x * 64 + 64) xs (omega arith) ∙ width

  pub row-at : (y : ℕ) → y < 64 → at (row_of x xs) y ≡ at xs (x * 64 + y)
  unfolding at
  row-at y l =
      let inside : y < x * 64 + 64 - x * 64 = omega arith in
      get_or-take (x * 64 + 64 - x * 64) (drop (x * 64) xs) y 0 inside ∙ get_or-drop (x * 64) xs y 0

  pub row_small : Small xs → Small (row_of x xs)
  row_small small = small_row (row_of x xs) row-size (λ y l. omega (arith, row-at y l, small (x * 64 + y)))

pub copied-small : {rows row : List ℕ} {start : ℕ} → RowCopied rows start row → Small rows → Small row
unfolding at
copied-small {row = row} {start} copied small = small_row row copied.size (λ y l. omega (arith, copied.each y l, small (start + y)))

-- numbers stored one after the other from the front: each is as it has to be
pub stored_more :
    (P : ℕ → ℕ → Type 0) {k : ℕ} (xs : List ℕ) (v : ℕ) → k < length xs → ((i : ℕ) → i < k → P i (at xs i)) → P k v
    → (i : ℕ) → i < k + 1 → P i (at (set xs k v) i)
unfolding at
stored_more P {k} xs v inside each last i l = go (order k i)
  where
    go : (k ≤ i) ⊎ (i < k) → P i (at (set xs k v) i)
    go (inl h) =
        let same : i ≡ k = omega arith in
        subst (λ (j : ℕ). P j (at (set xs k v) j)) (sym same) (subst (P k) (sym (get_or-set_same xs k v 0 inside)) last)
    go (inr h) = subst (P i) (sym (get_or-set_other xs k i v 0 (λ q. omega arith))) (each i h)
