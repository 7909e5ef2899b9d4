-- Only for contracts inside: least delays between tasks in rows of 64 numbers, and how they fall.
use Rattle.std.specs.Prelude.{◌≡◌, ◌⊎◌, List, ℕ, ◌+◌, ◌*◌, ◌≤◌, ◌<◌, min, length}
use Rattle.records.specs.Columns.{at}

-- every number is at most 16,383
abbrev pub Small : List ℕ → Type 0
Small xs = (i : ℕ) → at xs i ≤ 16383

-- the first `many` numbers from a start on are entries of a table that stand a step apart, cut at 16,383; the other numbers are as before
pub record LineSpread (table : List ℕ) (first step start many : ℕ) (before after : List ℕ) : Type 0 where
  pub size : length after ≡ length before
  pub inside : (b : ℕ) → b < many → at after (start + b) ≡ min (at table (first + b * step)) 16383
  pub outside : (i : ℕ) → (i < start) ⊎ (start + many ≤ i) → at after i ≡ at before i

-- row a has the entries of line a of a table, cut at 16,383, in its first places
pub record Spread (table : List ℕ) (outer inner tasks : ℕ) (lines : List ℕ) : Type 0 where
  pub size : tasks * 64 ≤ length lines
  pub small : Small lines
  pub inside : (a b : ℕ) → a < tasks → b < tasks → at lines (a * 64 + b) ≡ min (at table (a * outer + b * inner)) 16383

-- The first `many` numbers of a row are lowered to a way and another row after it, the others are as before; each that fell is at least `least`.
pub record RowFell (way : ℕ) (onward : List ℕ) (start many : ℕ) (before after : List ℕ) (least : ℕ) : Type 0 where
  pub size : length after ≡ length before
  pub inside : (y : ℕ) → y < many → at after (start + y) ≡ min (at before (start + y)) (way + at onward y)
  pub outside : (i : ℕ) → (i < start) ⊎ (start + many ≤ i) → at after i ≡ at before i
  pub fell : (y : ℕ) → y < many → (at after (start + y) ≡ at before (start + y)) ⊎ (least ≤ at after (start + y))

-- number y of row x, lowered to the row's number for the task `near` and number y of row `far` after it
abbrev pub lower_at : ℕ → ℕ → List ℕ → ℕ → ℕ → ℕ
lower_at near far rows x y = min (at rows (x * 64 + y)) (at rows (x * 64 + near) + at rows (far * 64 + y))

-- A row of its own is row x lowered; each number that fell is at least `least`.
pub record RowLowered (near far : ℕ) (rows : List ℕ) (x : ℕ) (row : List ℕ) (least : ℕ) : Type 0 where
  pub size : length row ≡ 64
  pub each : (y : ℕ) → y < 64 → at row y ≡ lower_at near far rows x y
  pub fell : (y : ℕ) → y < 64 → (at row y ≡ at rows (x * 64 + y)) ⊎ (least ≤ at row y)

-- the first rows of a list are those of another, lowered
abbrev pub Lowers : ℕ → ℕ → ℕ → List ℕ → List ℕ → Type 0
Lowers near far tasks before after = (x y : ℕ) → x < tasks → y < 64 → at after (x * 64 + y) ≡ lower_at near far before x y

-- Each row is lowered.
pub record RowsJoined (near far tasks : ℕ) (before after : List ℕ) : Type 0 where
  pub size : length after ≡ length before
  pub small : Small after
  pub inside : Lowers near far tasks before after
