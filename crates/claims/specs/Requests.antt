-- The change requests of document 02, for all bytes and lists handed to the calls. Each record quotes the request's sentences.
use Rattle.std.specs.Prelude.{◌≡◌, ◌↔◌, ◌⊎◌, List, ℕ, suc, ◌+◌, ◌*◌, ◌≤◌, ◌<◌, pos, length, get_or}
use Rattle.std.proofs.Math.Option.{none, some}
use Rattle.model.specs.Graph.{edges}
use Rattle.model.specs.Paths.{OnCycle, Least}
use Rattle.files.specs.Files.{graph_of, proposal_of, edge_in}
use Rattle.delays.specs.Delays.{with_row, rows_from}
use Rattle.acceptance.specs.Outcomes.{outcome, tasks_of}
use Rattle.acceptance.specs.Theorems.{AcceptedFile}
use Rattle.least_delays.specs.LeastDelays.{delays_refusal, delays_after}
use Rattle.verdict.specs.Verdict.{verdict_of}
use Rattle.claims.specs.Demand1.{Says, verdict_checks}
use Rattle.claims.specs.Demand2.{delay_in}
use Rattle.claims.specs.Demand3.{WellFormedFile, result_graph}
use Rattle.claims.specs.Cases.{refused}

-- what `delays::fill_row` leaves of a list, by its contract: row a of the table of a file's graph made in its part
abbrev pub row_made : List ℕ → ℕ → List ℕ → List ℕ
row_made s a table = with_row (tasks_of s) (edges (graph_of s)) a table

-- what the loop of `delays::least_table` has left of a list, by its invariant, once the rows of the last task down to task a are made; at `tasks_of s` none is
abbrev pub made_from : List ℕ → ℕ → List ℕ → List ℕ
made_from s a table = rows_from (tasks_of s) (edges (graph_of s)) a table

-- (iii) "The people who profile the tool want each row of least delays finished before the next is begun, however it is done now. What makes a row is proved
-- to give its final numbers whatever the list held before, changing no other row. Every number, and every contract above it, is as today."
--
-- s is the bytes of a graph, `table` a list for which the least-delay call is not refused.
pub record RowByRow : Type 0 where
  -- "What makes a row is proved to give its final numbers": a number is the least delay exactly if it stands in the row and is not the number for none;
  -- "whatever the list held before": nothing is asked of `table` but its length
  pub row_least :
      (s table : List ℕ) → (outcome (delays_refusal s (length table))).number ≡ 0 → (a b : ℕ) → a < tasks_of s → b < tasks_of s →
      (d : ℕ) → Least (edges (graph_of s)) a b (some d) ↔ ((delay_in (tasks_of s) (row_made s a table) a b ≡ d) × (d < 65535))
  pub row_none :
      (s table : List ℕ) → (outcome (delays_refusal s (length table))).number ≡ 0 → (a b : ℕ) → a < tasks_of s → b < tasks_of s →
      Least (edges (graph_of s)) a b none ↔ (delay_in (tasks_of s) (row_made s a table) a b ≡ 65535)
  -- "changing no other row", nor anything past the rows
  pub others_kept :
      (s table : List ℕ) → (outcome (delays_refusal s (length table))).number ≡ 0 → (a : ℕ) → a < tasks_of s →
      (length (row_made s a table) ≡ length table)
      × ((i : ℕ) → (i < a * tasks_of s) ⊎ (a * tasks_of s + tasks_of s ≤ i) → get_or (row_made s a table) i 0 ≡ get_or table i 0)
  -- "each row of least delays finished before the next is begun": nothing is made at first, and then one row after the other, the last task's first
  pub begun : (s table : List ℕ) → made_from s (tasks_of s) table ≡ table
  pub next :
      (s table : List ℕ) → (outcome (delays_refusal s (length table))).number ≡ 0 → (a : ℕ) → a < tasks_of s →
      made_from s a table ≡ row_made s a (made_from s (suc a) table)
  -- after the row of task a the rows from there on have the numbers of the table that is handed over, and the rest is as it was
  pub made_final :
      (s table : List ℕ) → (outcome (delays_refusal s (length table))).number ≡ 0 → (a c b : ℕ) → a ≤ c → c < tasks_of s → b < tasks_of s →
      delay_in (tasks_of s) (made_from s a table) c b ≡ delay_in (tasks_of s) (delays_after s table) c b
  pub rest_kept :
      (s table : List ℕ) → (outcome (delays_refusal s (length table))).number ≡ 0 → (a : ℕ) → a ≤ tasks_of s →
      (length (made_from s a table) ≡ length table)
      × ((i : ℕ) → (i < a * tasks_of s) ⊎ (tasks_of s * tasks_of s ≤ i) → get_or (made_from s a table) i 0 ≡ get_or table i 0)
  -- "Every number .. is as today": after the row of task 0 the list is what the call leaves of it, by the contract it had before
  pub as_today : (s table : List ℕ) → (outcome (delays_refusal s (length table))).number ≡ 0 → delays_after s table ≡ made_from s 0 table

-- proposed edge number j, from 0, lies on a cycle of the result, and none before it does
abbrev pub EarliestOnCycle : List ℕ → List ℕ → ℕ → Type 0
EarliestOnCycle s p j =
    (j < length (proposal_of p)) × OnCycle (edges (result_graph s p)) (edge_in (proposal_of p) j)
    × ((i : ℕ) → i < j → OnCycle (edges (result_graph s p)) (edge_in (proposal_of p) i) → ⊥)

-- (iv) "Users mend a proposal from the top, so refusal 13 shall give the earliest proposed edge that lies on a cycle of the result. The example with 3→0 now has
-- place 1 only, and the rules then leave no answer open."
--
-- s and p are the bytes of a graph and of a proposal. The example is one of the listed cases; when 13 comes is as before, `thirteen` of demand 3.
pub record FirstEdgeOnCycle : Type 0 where
  -- "refusal 13 shall give the earliest proposed edge that lies on a cycle of the result"
  pub earliest : (s p : List ℕ) → (verdict_of s p).outcome.number ≡ 13 → (j : ℕ) × ((verdict_of s p).outcome.place ≡ suc j) × EarliestOnCycle s p j
  -- and where there is such an edge, of a well-formed proposal beside an accepted graph, the whole answer is this
  pub given :
      (s p : List ℕ) → AcceptedFile s → WellFormedFile s p → (j : ℕ) → EarliestOnCycle s p j → verdict_of s p ≡ refused 13 (suc j) 0 (pos 0)
  -- "and the rules then leave no answer open": of number and place 01's conditions and sequence, with 13's place so, say one thing only, which is the answer's
  pub settled :
      (s p : List ℕ) (number place : ℕ) → Says (verdict_checks s p) number place →
      (number ≡ (verdict_of s p).outcome.number) × (place ≡ (verdict_of s p).outcome.place)
