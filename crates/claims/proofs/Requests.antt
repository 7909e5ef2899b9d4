-- The change requests, proved. (iii): what stands where in a list with a row made, and with the rows from one on (delays/proofs/Table.antt), read off the list
-- that the call leaves. (iv): the search of 13 finds the first proposed edge on a cycle of the result (judgement/proofs/Tested.antt), and where it finds one the
-- chain of checks ends with it.
use mathlib.Core.Path.{◌≡◌, refl, sym, ap, ◌∙◌}
use mathlib.Core.Logic.{◌≢◌}
use mathlib.Core.List.{List, ◌++◌}
use Prim.Native.Nat.{ℕ, suc, ◌+◌, ◌*◌, ◌≤◌, ◌<◌}
use native.Mathlib.Nat.{mul-le-mul_right}
use native.Mathlib.Omega.{arith}
use lib.IntN.{pos}
use lib.ListN.{length, get_or, drop, get_or-append}
use Rattle.model.specs.Tasks.{Edge}
use Rattle.model.specs.Graph.{edges}
use Rattle.model.specs.Paths.{OnCycle}
use Rattle.records.proofs.Rows.{place-within}
use Rattle.files.specs.declared.Refusal.{Refusal}
use Rattle.files.specs.Files.{graph_of, proposal_of, edge_in}
use Rattle.files.proofs.First.{Finds, at_none, at_first, first-there, if-passed}
use Rattle.delays.specs.Delays.{delay_table, with_row, rows_from}
use Rattle.delays.proofs.Table.{table-length, rows_none, rows_next, rows_all, rows-size, rows_made, rows_other, row-size, row_made_lem, row_other}
use Rattle.acceptance.specs.Outcomes.{outcome, tasks_of}
use Rattle.acceptance.specs.Theorems.{AcceptedFile}
use Rattle.least_delays.specs.LeastDelays.{table_of, delays_refusal, delays_after}
use Rattle.least_delays.proofs.Meanings.{delays_given, delays-mean, delays-small}
use Rattle.judgement.proofs.Chain.{cycles_searched, stops-13}
use Rattle.judgement.proofs.Tested.{none-on-cycle, cycles-found}
use Rattle.verdict.specs.Verdict.{verdict_refusal, told_late, verdict_of}
use Rattle.verdict.proofs.Answers.{refused-answer}
use Rattle.claims.specs.Demand2.{delay_in}
use Rattle.claims.specs.Demand3.{WellFormedFile, result_graph}
use Rattle.claims.specs.Cases.{refused}
use Rattle.claims.specs.Requests.{RowByRow, row_made, EarliestOnCycle, FirstEdgeOnCycle}
use Rattle.claims.proofs.Answer.{only-judged, refusal-judged, edges-formed}
use Rattle.claims.proofs.Demand1.{demand1-met}
use Rattle.claims.proofs.Demand2.{delay-read, none_read}
use Rattle.claims.proofs.Demand3.{demand3-met}

module _ (s table : List ℕ) (given : (outcome (delays_refusal s (length table))).number ≡ 0) where
  abbrev n : ℕ
  n = tasks_of s

  abbrev es : List Edge
  es = edges (graph_of s)

  room : n * n ≤ length table
  unfolding outcome
  room = ((delays_given s (length table)).0 given).1

  handed : delays_after s table ≡ delay_table n es ++ drop (n * n) table
  unfolding outcome delays_after table_of
  handed = if-passed (delays_refusal s (length table)).number (table_of s ++ drop (n * n) table) table given

  table-entry : (c b : ℕ) → c < n → b < n → get_or (delay_table n es) (c * n + b) 0 ≡ delay_in n (delays_after s table) c b
  table-entry c b k m =
      sym (get_or-append (delay_table n es) (drop (n * n) table) 0 (c * n + b) (omega (arith, place-within n n c b k m, table-length n es))) ∙
      ap (λ (xs : List ℕ). get_or xs (c * n + b) 0) (sym handed)

  row-entry : (a b : ℕ) → a < n → b < n → delay_in n (with_row n es a table) a b ≡ delay_in n (delays_after s table) a b
  row-entry a b l k = row_made_lem n es table room a l b k ∙ table-entry a b l k

  made-entry : (a c b : ℕ) → a ≤ c → c < n → b < n → delay_in n (rows_from n es a table) c b ≡ delay_in n (delays_after s table) c b
  made-entry a c b l k m =
      let low : a * n ≤ c * n = mul-le-mul_right n l in
      rows_made n es table room a (omega (arith, l, k)) (c * n + b) (omega (arith, low)) (place-within n n c b k m) ∙ table-entry c b k m

pub row-by-row : RowByRow
unfolding outcome
row-by-row = record {
  row_least = λ s table given a b l k.
      let accepted = ((delays_given s (length table)).0 given).0 in
      let h = delays-mean s table given a b l k in
      delay-read (edges (graph_of s)) a b (delay_in (tasks_of s) (row_made s a table) a b) (delays-small s accepted a b) h.0 h.1 (row-entry s table given a b l k ∙ h.2);
  row_none = λ s table given a b l k.
      let accepted = ((delays_given s (length table)).0 given).0 in
      let h = delays-mean s table given a b l k in
      none_read (edges (graph_of s)) a b (delay_in (tasks_of s) (row_made s a table) a b) (delays-small s accepted a b) h.0 h.1 (row-entry s table given a b l k ∙ h.2);
  others_kept = λ s table given a l.
      let r = room s table given in
      (row-size (tasks_of s) (edges (graph_of s)) table r a l, row_other (tasks_of s) (edges (graph_of s)) table r a l);
  begun = λ s table. rows_none (tasks_of s) (edges (graph_of s)) table;
  next = λ s table given a l. sym (rows_next (tasks_of s) (edges (graph_of s)) table a l (room s table given));
  made_final = λ s table given a c b l k m. made-entry s table given a c b l k m;
  rest_kept = λ s table given a l.
      let r = room s table given in
      (rows-size (tasks_of s) (edges (graph_of s)) table r a l, rows_other (tasks_of s) (edges (graph_of s)) table r a l);
  as_today = λ s table given. handed s table given ∙ sym (rows_all (tasks_of s) (edges (graph_of s)) table (room s table given));
}

-- ── (iv) ──

-- where the graph is accepted and the proposal well-formed
module _ (s p : List ℕ) (graph : AcceptedFile s) (formed : WellFormedFile s p) where
  -- what the search of 13 finds
  searched : Finds (length (proposal_of p)) 13 (λ j. OnCycle (edges (result_graph s p)) (edge_in (proposal_of p) j)) (cycles_searched (graph_of s) (proposal_of p))
  searched = cycles-found (graph_of s) (proposal_of p) graph.1.formed (edges-formed s p graph formed)

  -- a refusal that it gives ends the chain
  ends-chain : {r : Refusal} → cycles_searched (graph_of s) (proposal_of p) ≡ r → r.number ≢ 0 → verdict_refusal s p ≡ r
  ends-chain is some = refusal-judged s p graph formed ∙ stops-13 (graph_of s) (proposal_of p) is some

  earliest-there : (verdict_of s p).outcome.number ≡ 13 → (j : ℕ) × ((verdict_of s p).outcome.place ≡ suc j) × EarliestOnCycle s p j
  unfolding verdict_of told_late
  earliest-there thirteen = go searched
    where
      go : Finds (length (proposal_of p)) 13 (λ j. OnCycle (edges (result_graph s p)) (edge_in (proposal_of p) j)) (cycles_searched (graph_of s) (proposal_of p)) →
          (j : ℕ) × ((verdict_refusal s p).place ≡ suc j) × EarliestOnCycle s p j
      go (at_none none is) =
          let made = (demand3-met.thirteen s p graph formed).0 thirteen in
          absurd (none-on-cycle (edges (result_graph s p)) (proposal_of p) none made.0 made.1 made.2)
      go (at_first j below on earlier is) = (j, ap (λ (r : Refusal). r.place) (ends-chain is (λ z. omega arith)), (below, on, earlier))

  answer-given : (j : ℕ) → EarliestOnCycle s p j → verdict_of s p ≡ refused 13 (suc j) 0 (pos 0)
  unfolding outcome
  answer-given j (below, on, earlier) =
      sym (refused-answer s p (ends-chain (first-there searched j below on earlier) (λ z. omega arith)) (λ z. omega arith) (λ z. omega arith) (refl, refl, refl))

pub first-edge-on-cycle : FirstEdgeOnCycle
first-edge-on-cycle =
    record {
      earliest = λ s p thirteen.
          let high : 13 ≤ (verdict_of s p).outcome.number = omega (arith, thirteen) in
          let h = only-judged s p high in
          earliest-there s p h.0 h.1 thirteen;
      given = answer-given;
      settled = λ s p. (demand1-met.verdict s p).never_otherwise;
    }
