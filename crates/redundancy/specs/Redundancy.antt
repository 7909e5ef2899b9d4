-- Only for contracts inside: redundant edges of a list, and what the rule asks of its edges; lists hold edges, their least delays and the single steps of
-- the edges turned round, so that a row has the last steps of paths to a task.
use Rattle.std.specs.Prelude.{◌≡◌, Bool, ◌&&◌, List, ℕ, ◌+◌, ◌≤◌, ◌<◌, min, ltb, map, length, get_or}
use Rattle.model.specs.Lists.{without}
use Rattle.model.specs.Tasks.{Edge, ◌∈◌, no_edge}
use Rattle.model.specs.Paths.{NoZeroCycle}
use Rattle.model.specs.Compute.{order_holds}
use Rattle.layout.specs.declared.EdgeRecord.{EdgeRecord}
use Rattle.records.specs.Columns.{edges_in}
use Rattle.delays.specs.Delays.{delay_table, Fit}
use Rattle.delays.specs.Rows.{StepsOf}

-- edge number i, counted from 0, of those from place n on is redundant: "without it, the least delay between its ends is at most its own" (01)
unfoldable pub redundant_in : ℕ → List Edge → ℕ → Bool
redundant_in n es i = ltb (n + i) (length es) && order_holds n (without (n + i) es) (get_or es (n + i) no_edge)

-- What the rule asks of the edges: no cycle of delay 0, and none from place n on stands twice.
pub record Apart (n : ℕ) (es : List Edge) : Type 0 where
  pub no_zero_cycle : NoZeroCycle es
  pub once : (i : ℕ) → n + i < length es → get_or es (n + i) no_edge ∈ without (n + i) es → ⊥

-- an edge record turned round
unfoldable pub turned : EdgeRecord → EdgeRecord
turned r = record { source = r.sink; sink = r.source; delay = r.delay }

-- A list holds edges between n tasks, at most 64, that the rule holds of, a second the table of their least delays, a third the last steps.
pub record Tabled (n : ℕ) (rs : List EdgeRecord) (table last : List ℕ) : Type 0 where
  pub few : n ≤ 64
  pub fit : Fit n (edges_in rs)
  pub apart : Apart n (edges_in rs)
  pub least : table ≡ delay_table n (edges_in rs)
  pub steps : StepsOf (edges_in (map turned rs)) last

-- a least delay, cut at 16,383, and a last step
abbrev pub sum_at : List ℕ → ℕ → List ℕ → ℕ → ℕ → ℕ
sum_at table from last to u = min (get_or table (from + u) 0) 16383 + get_or last (to + u) 0

-- r is the least of the sums of two rows' entries, so many, or 16,383 if none is less.
pub record LeastSum (table : List ℕ) (from : ℕ) (last : List ℕ) (to count r : ℕ) : Type 0 where
  pub small : r ≤ 16383
  pub low : (u : ℕ) → u < count → r ≤ sum_at table from last to u
  pub reached : r < 16383 → (u : ℕ) × (u < count) × (r ≡ sum_at table from last to u)
