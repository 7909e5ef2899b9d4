-- Only for contracts inside: what the pairs of tasks are worth as candidates of the plan, by numbers in lists, and which is the best.
use Rattle.std.specs.Prelude.{◌≡◌, ◌⊎◌, ◌&&◌, List, ℕ, ◌+◌, ◌*◌, ◌≤◌, ◌<◌, eqb, leb}
use Rattle.model.specs.Lists.{tabulate, counted}
use Rattle.model.specs.Tasks.{Edge}
use Rattle.model.specs.Plan.{counting}
use Rattle.records.specs.Columns.{at, rows}
use Rattle.delays.specs.Delays.{entry}

-- the least delays between n tasks, 0 from a task to itself, row by row
unfoldable pub count_table : ℕ → List Edge → List ℕ
count_table n es = rows n (λ a. tabulate n (λ b. entry (counting n es a b)))

-- what the pair (a, b) is worth by the counts of all pairs: nothing if a path leads back, or if a ends after the time at which b has to start
unfoldable pub worth_in : List ℕ → List ℕ → List ℕ → List ℕ → ℕ → ℕ → ℕ
worth_in counts to end latest a b =
    counted (eqb (at to (a * 64 + b)) 16383 && leb (at end a) (at latest b)) (at counts (a * 64 + b))

-- (a, b) is the pair of numbers below n that is worth most, two or more, the first such by a and then by b; if `gain` is below 2, no pair is worth two
pub record BestPair (n : ℕ) (worth : ℕ → ℕ → ℕ) (gain a b : ℕ) : Type 0 where
  pub most : (c d : ℕ) → c < n → d < n → 2 ≤ worth c d → worth c d ≤ gain
  pub source_below : 2 ≤ gain → a < n
  pub sink_below : 2 ≤ gain → b < n
  pub worth_is : 2 ≤ gain → worth a b ≡ gain
  pub first : 2 ≤ gain → (c d : ℕ) → c < n → d < n → worth c d ≡ gain → (a < c) ⊎ ((a ≡ c) × (b ≤ d))

-- no pair of numbers below n is worth two
abbrev pub NoPair : ℕ → (ℕ → ℕ → ℕ) → Type 0
NoPair n worth = (c d : ℕ) → c < n → d < n → worth c d < 2
