-- Only for contracts inside: delays while rows are worked out, in rows of 64 numbers, 16,383 where there is no path.
use Rattle.std.specs.Prelude.{◌≡◌, true, cond, Option, Some, None, List, [], ◌∷◌, ℕ, ◌+◌, ◌*◌, ◌≤◌, ◌<◌, min, eqb, length, get_or}
use Rattle.model.specs.Tasks.{Edge, ◌∈◌}
use Rattle.model.specs.Paths.{Path}
use Rattle.reach.specs.Reach.{bit}
use Rattle.delays.specs.Delays.{Fit}

-- entry b of row a
abbrev pub row_at : List ℕ → ℕ → ℕ → ℕ
row_at rows a b = get_or rows (a * 64 + b) 0

-- the sum of a list
unfoldable pub sum : List ℕ → ℕ
sum [] = 0
sum (x ∷ xs) = x + sum xs

-- a delay that a path from a to b has, or 16,383
pub record PathDelay (es : List Edge) (a b x : ℕ) : Type 0 where
  pub small : x ≤ 16383
  pub path : x < 16383 → Path es a b x

-- no path from a to b has less
pub record LeastEntry (es : List Edge) (a b x : ℕ) : Type 0 where
  pub held : PathDelay es a b x
  pub least : (d : ℕ) → Path es a b d → x ≤ d

-- A square holds the delays of the least edges between tasks: an entry below 16,383 is the delay of an edge with these ends, and no edge has less than the
-- entry of its ends.
pub record StepsOf (es : List Edge) (square : List ℕ) : Type 0 where
  pub size : length square ≡ 4096
  pub small : (a b : ℕ) → a < 64 → b < 64 → row_at square a b ≤ 16383
  pub held :
      (a b : ℕ) → a < 64 → b < 64 → row_at square a b < 16383
      → (e : Edge) × e ∈ es × (e.source ≡ a) × (e.sink ≡ b) × (e.delay ≡ row_at square a b)
  pub least : (e : Edge) → e ∈ es → row_at square e.source e.sink ≤ e.delay

-- What is known of the paths between n tasks: an entry below 16,383 is the delay of a path, no edge has less than the entry of its ends, and no edge betters
-- an entry of a row that is finished, as a word's bits say.
pub record Known (n : ℕ) (es : List Edge) (done : ℕ) (known : List ℕ) : Type 0 where
  pub few : n ≤ 64
  pub fit : Fit n es
  pub size : length known ≡ 4096
  pub held : (u b : ℕ) → u < 64 → b < 64 → PathDelay es u b (row_at known u b)
  pub direct : (e : Edge) → e ∈ es → row_at known e.source e.sink ≤ e.delay
  pub closed : (u : ℕ) → u < n → bit done u ≡ true → (e : Edge) → e ∈ es → row_at known u e.sink ≤ row_at known u e.source + e.delay

-- a row of its own has the numbers of a list from a start on
pub record RowCopied (rows : List ℕ) (start : ℕ) (row : List ℕ) : Type 0 where
  pub size : length row ≡ 64
  pub each : (b : ℕ) → b < 64 → get_or row b 0 ≡ get_or rows (start + b) 0

-- 64 numbers, none above 16,383
pub record Low (row : List ℕ) : Type 0 where
  pub size : length row ≡ 64
  pub each : (b : ℕ) → b < 64 → get_or row b 0 ≤ 16383

-- a row lowered to a way and what is known from there on
pub record Relaxed (known : List ℕ) (start way : ℕ) (before after : List ℕ) : Type 0 where
  pub low : Low after
  pub each : (b : ℕ) → b < 64 → get_or after b 0 ≡ min (get_or before b 0) (way + get_or known (start + b) 0)

-- Entries of a row out of task a are delays of paths; no edge out of a betters one, nor does an edge after what was seen of its source's entry.
pub record Seen (es : List Edge) (a : ℕ) (row seen : List ℕ) : Type 0 where
  pub held : (b : ℕ) → b < 64 → PathDelay es a b (get_or row b 0)
  pub direct : (e : Edge) → e ∈ es → e.source ≡ a → get_or row e.sink 0 ≤ e.delay
  pub onward : (e : Edge) → e ∈ es → get_or row e.sink 0 ≤ get_or seen e.source 0 + e.delay

-- A row and what was seen of it after the scan of task u: what was seen has fallen.
pub record Scanned (known : List ℕ) (done u : ℕ) (row seen row_after seen_after : List ℕ) : Type 0 where
  pub row_low : Low row_after
  pub seen_low : Low seen_after
  pub less : sum seen_after < sum seen
  pub ways : (n : ℕ) (es : List Edge) (a : ℕ) → u < n → Known n es done known → Seen es a row seen → Seen es a row_after seen_after

-- a task below n whose entry has fallen below what was seen of it; none only if no task below n from a number on has such an entry
abbrev pub Unscanned : ℕ → ℕ → List ℕ → List ℕ → Option ℕ → Type 0
Unscanned n from row seen (Some u) = (u < n) × (get_or row u 0 < get_or seen u 0)
Unscanned n from row seen None = (v : ℕ) → from ≤ v → v < n → get_or seen v 0 ≤ get_or row v 0

-- an entry as a finished row has it
unfoldable pub widened : ℕ → ℕ
widened x = cond (eqb x 16383) 65535 x
