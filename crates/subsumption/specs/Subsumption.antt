-- Only for contracts inside: how many edges each pair of tasks subsumes, by delays in rows of 64 numbers, and how these counts change.
use Rattle.std.specs.Prelude.{◌≡◌, ◌⊎◌, Bool, List, ℕ, ◌+◌, ◌-◌, ◌*◌, ◌≤◌, ◌<◌, leb, length}
use Rattle.model.specs.Lists.{counted, keep}
use Rattle.model.specs.Tasks.{Edge}
use Rattle.records.specs.Columns.{at}

-- the pair (a, b) subsumes e, by the delays from its source and the delays to its sink; 16,383, for none, is above every delay
unfoldable pub subsumes_by : List ℕ → List ℕ → ℕ → ℕ → Edge → Bool
subsumes_by from to a b e = leb (at from (e.source * 64 + a) + at to (e.sink * 64 + b)) e.delay

-- the counts of all pairs
pub record CountsOf (tasks : ℕ) (from to : List ℕ) (es : List Edge) (counts : List ℕ) : Type 0 where
  pub size : tasks * 64 ≤ length counts
  pub each : (a b : ℕ) → a < tasks → b < 64 → at counts (a * 64 + b) ≡ length (keep (subsumes_by from to a b) es)

-- ── One edge ──

-- number y of row x
abbrev pub row_at : List ℕ → ℕ → ℕ → ℕ
row_at rows x y = at rows (x * 64 + y)

-- what an edge with this limit adds to the count of a pair, by the delay from its source to the pair's, and the delay from the pair's sink to its own
unfoldable pub share : ℕ → ℕ → ℕ → ℕ
share before after limit = counted (leb (before + after + 1) limit) 1

-- The numbers of two rows pass the same tests up to a limit.
abbrev pub SameTests : (ℕ → ℕ) → (ℕ → ℕ) → ℕ → Type 0
SameTests to to' limit = (b l : ℕ) → b < 64 → l ≤ limit → leb (to b + 1) l ≡ leb (to' b + 1) l

-- The counts have the share of an edge, by the delays from its source and those to its sink, and are small.
abbrev pub Covered : (ℕ → ℕ) → (ℕ → ℕ) → ℕ → ℕ → List ℕ → Type 0
Covered from to limit tasks counts =
    (a b : ℕ) → a < tasks → b < 64 → (share (from a) (to b) limit ≤ at counts (a * 64 + b)) × (at counts (a * 64 + b) ≤ 256)

-- A row of counts stays: as much is left for it as before, and no more than the least of the other delays that fell.
abbrev pub Still : ℕ → ℕ → ℕ → Type 0
Still fell old new = (old ≡ new) × (new ≤ fell)

-- The first `many` numbers of a row are what the delays leave of a limit.
pub record LeftRow (delays : List ℕ) (limit many : ℕ) (left : List ℕ) : Type 0 where
  pub size : length left ≡ 64
  pub each : (a : ℕ) → a < many → at left a ≡ limit - at delays a

-- The first `many` numbers of a row of tests: 1 where the delay is below a limit, else 0.
pub record BelowRow (delays : List ℕ) (limit many : ℕ) (row : List ℕ) : Type 0 where
  pub size : length row ≡ 64
  pub each : (b : ℕ) → b < many → at row b ≡ counted (leb (at delays b + 1) limit) 1

-- The first `many` counts of a row lost what `less` says, and have what `more` says; the others are as before.
pub record RowShifted (less more : ℕ → ℕ) (place many : ℕ) (before after : List ℕ) : Type 0 where
  pub size : length after ≡ length before
  pub inside : (b : ℕ) → b < many → at after (place + b) + less b ≡ at before (place + b) + more b
  pub outside : (i : ℕ) → (i < place) ⊎ (place + many ≤ i) → at after i ≡ at before i

-- The counts of the first `many` rows lost the share that an edge had, and have the one it gets; the others are as before.
pub record EdgeShifted (from to from' to' : ℕ → ℕ) (limit limit' many : ℕ) (before after : List ℕ) : Type 0 where
  pub size : length after ≡ length before
  pub inside : (a b : ℕ) → a < many → b < 64 →
      at after (a * 64 + b) + share (from a) (to b) limit ≡ at before (a * 64 + b) + share (from' a) (to' b) limit'
  pub outside : (i : ℕ) → many * 64 ≤ i → at after i ≡ at before i
