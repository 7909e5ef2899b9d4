-- What a pair is worth by the counts for the sinks of its source: nothing if a path leads back or its source ends too late, otherwise as many as are
-- counted for its sink. The row of a task, lent as a part, says it of the pairs out of this task.
use mathlib.Core.Path.{◌≡◌, refl, sym, ap, ◌∙◌}
use mathlib.Core.Logic.{◌≢◌}
use mathlib.Core.Bool.{Bool, true, false, ◌&&◌}
use mathlib.Core.List.{List}
use Prim.Native.Nat.{ℕ, ◌+◌, ◌-◌, ◌*◌, ◌≤◌, ◌<◌}
use native.Mathlib.Nat.{le_refl}
use native.Mathlib.Omega.{arith}
use lib.Dec.{eqb, leb}
use lib.ListN.{length, drop}
use lib.Seq.{get_or-take, get_or-drop}
use borrow.Author.Tests.{eqb-true, leb-true, eq-eqb, ne_eqb, le-leb, lt-leb}
use borrow.Rule.Slice.PartMut.{mid_of}
use Rattle.model.specs.Lists.{counted}
use Rattle.records.specs.Columns.{at}
use Rattle.candidates.specs.Candidates.{worth_in}
use Rattle.candidates.specs.Searches.{worth_counted, units_of, UnitRow, RowFew}
use Rattle.candidates.proofs.Times.{units-kept}

counted-few : (b : Bool) (w : ℕ) → counted b w ≤ w
unfolding counted
counted-few true w = le_refl w
counted-few false w = omega arith

-- ── By the counts of a row ──

module _ (back : List ℕ) (end : ℕ) (latest counts : List ℕ) (b : ℕ) where
  by_tests :
      (s t : Bool) → eqb (at back b) 16383 ≡ s → leb end (at latest b) ≡ t → worth_counted back end latest counts b ≡ counted (s && t) (at counts b)
  unfolding worth_counted
  by_tests s t p q =
      ap (λ (x : Bool). counted (x && leb end (at latest b)) (at counts b)) p ∙ ap (λ (x : Bool). counted (s && x) (at counts b)) q

  pub worth-at-most : worth_counted back end latest counts b ≤ at counts b
  unfolding worth_counted
  worth-at-most = counted-few (eqb (at back b) 16383 && leb end (at latest b)) (at counts b)

  pub worth-with-path-back : at back b ≢ 16383 → worth_counted back end latest counts b ≡ 0
  unfolding counted
  worth-with-path-back path = by_tests false (leb end (at latest b)) (ne_eqb (at back b) 16383 path) refl

  pub worth-late : at back b ≡ 16383 → at latest b < end → worth_counted back end latest counts b ≡ 0
  unfolding counted
  worth-late none late = by_tests true false (eq-eqb (at back b) 16383 none) (lt-leb end (at latest b) late)

  pub worth-in-time : at back b ≡ 16383 → end ≤ at latest b → worth_counted back end latest counts b ≡ at counts b
  unfolding counted
  worth-in-time none in_time = by_tests true true (eq-eqb (at back b) 16383 none) (le-leb end (at latest b) in_time)

-- ── By the counts of all pairs ──

-- a place of a lent part is one of the whole list
pub part_at : (start end i : ℕ) (xs : List ℕ) → i < end - start → at (mid_of start (end - start) xs) i ≡ at xs (start + i)
unfolding at
part_at start end i xs l = get_or-take (end - start) (drop start xs) i 0 l ∙ get_or-drop start xs i 0

-- the row of a task, and its first n numbers, as they are lent
abbrev pub row_of : ℕ → List ℕ → List ℕ
row_of a xs = mid_of (a * 64) (a * 64 + 64 - a * 64) xs

abbrev pub row_front : ℕ → ℕ → List ℕ → List ℕ
row_front n a xs = mid_of (a * 64) (a * 64 + n - a * 64) xs

module _ {n : ℕ} (few : n ≤ 64) (counts to end latest : List ℕ) (a b : ℕ) (below : b < n) where
  pub worth-by-row : worth_in counts to end latest a b ≡ worth_counted (row_front n a to) (at end a) latest (row_of a counts) b
  unfolding worth_in worth_counted
  worth-by-row =
      ap (counted (eqb (at to (a * 64 + b)) 16383 && leb (at end a) (at latest b))) (sym (part_at (a * 64) (a * 64 + 64) b counts (omega arith))) ∙
      ap (λ (x : ℕ). counted (eqb x 16383 && leb (at end a) (at latest b)) (at (row_of a counts) b))
      (sym (part_at (a * 64) (a * 64 + n) b to (omega arith)))

  -- at most what no count of the row exceeds that has no path back and is in time, by times in units
  pub worth-few :
      {power least : ℕ} {row : List ℕ} → length latest ≡ n → UnitRow latest power (length latest) row
      → RowFew counts to (a * 64) least (units_of power (at end a)) row 64 → worth_in counts to end latest a b ≤ least
  unfolding worth_in counted
  worth-few {power} {least} {row} size units none =
      go (eqb (at to (a * 64 + b)) 16383) (leb (at end a) (at latest b)) (eqb-true (at to (a * 64 + b)) 16383) (leb-true (at end a) (at latest b))
    where
      go : (free in_time : Bool) → (free ≡ true → at to (a * 64 + b) ≡ 16383) → (in_time ≡ true → at end a ≤ at latest b)
          → counted (free && in_time) (at counts (a * 64 + b)) ≤ least
      go true true is by =
          none b (omega arith) (is refl) (omega (arith, units.each b (omega arith), units-kept power (by refl)))
      go true false is by = omega arith
      go false in_time is by = omega arith
