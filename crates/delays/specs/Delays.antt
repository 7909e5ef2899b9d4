-- Document 01, "What the calls hand over": "Delay table: row by row into a lent list of 16-bit numbers, 65,535 for none."
use Rattle.std.specs.Prelude.{List, ℕ, ◌+◌, ◌*◌, ◌≤◌, get_or}
use Rattle.std.proofs.Math.Option.{Option, none, some}
use Rattle.model.specs.Lists.{tabulate}
use Rattle.model.specs.Tasks.{Edge, ◌∈◌, Ends}
use Rattle.model.specs.Compute.{least_delay}
use Rattle.records.specs.Columns.{with_part, rows}

-- a delay as a 16-bit number
unfoldable pub entry : Option ℕ → ℕ
entry (some d) = d
entry none = 65535

-- the least delays from task a to each of n tasks
unfoldable pub delay_row : ℕ → List Edge → ℕ → List ℕ
delay_row n es a = tabulate n (λ b. entry (least_delay n es a b))

-- the least delays from each of n tasks to each
unfoldable pub delay_table : ℕ → List Edge → List ℕ
delay_table n es = rows n (delay_row n es)

-- ── Document 02, (iii): "each row of least delays finished before the next is begun" ──

-- a list of rows with row a made: its numbers are the least delays out of task a, whatever stood there, and all else is as it was
unfoldable pub with_row : ℕ → List Edge → ℕ → List ℕ → List ℕ
with_row n es a table = with_part (a * n) (a * n + n) (λ b. entry (least_delay n es a b)) table

-- a list of rows after those of tasks n - 1 down to a have been made: these have the numbers of the table, and all else is as it was
unfoldable pub rows_from : ℕ → List Edge → ℕ → List ℕ → List ℕ
rows_from n es a table = with_part (a * n) (n * n) (λ i. get_or (delay_table n es) (a * n + i) 0) table

-- ── Only for contracts inside ──

-- edges between n tasks whose delays are at most 255, as every graph's are: of at most 64 tasks no least delay is 65,535 then
pub record Fit (n : ℕ) (es : List Edge) : Type 0 where
  pub ends : Ends n es
  pub delays : (e : Edge) → e ∈ es → e.delay ≤ 255
