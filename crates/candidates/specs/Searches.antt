-- Only for contracts inside: what the search for the best pair holds on its way. Pairs are looked at by source and then by sink.
use Rattle.std.specs.Prelude.{◌≡◌, ◌⊎◌, ◌&&◌, List, Option, None, Some, ℕ, ◌+◌, ◌/◌, ◌^◌, ◌≤◌, ◌<◌, min, length, eqb, leb}
use Rattle.model.specs.Lists.{counted}
use Rattle.records.specs.Columns.{at}
use Rattle.candidates.specs.declared.Pair.{Pair}

-- what the pair of a task and b is worth, by the delays back to this task and the counts for each sink
unfoldable pub worth_counted : List ℕ → ℕ → List ℕ → List ℕ → ℕ → ℕ
worth_counted back end latest counts b = counted (eqb (at back b) 16383 && leb end (at latest b)) (at counts b)

-- the pair (c, d) comes before (a, b)
abbrev pub Earlier : ℕ → ℕ → ℕ → ℕ → Type 0
Earlier c d a b = (c < a) ⊎ ((c ≡ a) × (d < b))

-- (source, sink) is worth most, two or more, of the pairs of numbers below n before (a, b), and is the first such; if `gain` is below 2, none of these is
-- worth two
pub record BestBefore (n : ℕ) (worth : ℕ → ℕ → ℕ) (a b gain source sink : ℕ) : Type 0 where
  pub most : (c d : ℕ) → d < n → Earlier c d a b → worth c d ≤ gain
  pub source_below : 2 ≤ gain → source < n
  pub sink_below : 2 ≤ gain → sink < n
  pub worth_is : 2 ≤ gain → worth source sink ≡ gain
  pub before : 2 ≤ gain → Earlier source sink a b
  pub first : 2 ≤ gain → (c d : ℕ) → d < n → Earlier c d a b → worth c d ≡ gain → (source < c) ⊎ ((source ≡ c) × (sink ≤ d))

-- what a better pair than the best so far is worth more than: one edge is not enough
abbrev pub gain_of : Option Pair → ℕ
gain_of None = 1
gain_of (Some pair) = pair.gain

-- the best of the pairs of numbers below n before (a, b), if one of them is worth two or more; else none
abbrev pub BestSoFar : ℕ → (ℕ → ℕ → ℕ) → ℕ → ℕ → Option Pair → Type 0
BestSoFar n worth a b None = BestBefore n worth a b 1 0 0
BestSoFar n worth a b (Some pair) = (2 ≤ pair.gain) × BestBefore n worth a b pair.gain pair.source pair.sink

-- a time in units of a power of two, cut at 32,767
abbrev pub units_of : ℕ → ℕ → ℕ
units_of power time = min (time / 2 ^ power) 32767

-- the numbers of a row are so small that a signed test may compare them
abbrev pub SmallRow : List ℕ → Type 0
SmallRow row = (b : ℕ) → b < 64 → at row b ≤ 32767

-- The first `many` numbers of a row are times in units.
pub record UnitRow (times : List ℕ) (power many : ℕ) (row : List ℕ) : Type 0 where
  pub size : length row ≡ 64
  pub small : SmallRow row
  pub each : (b : ℕ) → b < many → at row b ≡ units_of power (at times b)

-- Of the first `many` counts of a row, each without a path back and in time is at most `least`.
abbrev pub RowFew : List ℕ → List ℕ → ℕ → ℕ → ℕ → List ℕ → ℕ → Type 0
RowFew counts to start least end latest many =
    (b : ℕ) → b < many → at to (start + b) ≡ 16383 → end ≤ at latest b → at counts (start + b) ≤ least
