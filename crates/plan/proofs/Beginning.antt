-- What the steps of a graph's plan start from: the first stage, the table of the graph's own edges, and times in rows as they are lent.
use mathlib.Core.Path.{◌≡◌, refl, sym, ap, ◌∙◌, subst}
use mathlib.Core.Logic.{◌⊎◌, inl, inr}
use mathlib.Core.List.{List, ◌++◌}
use Prim.Native.Nat.{ℕ, ◌-◌, ◌≤◌, ◌<◌}
use native.Mathlib.Omega.{arith}
use lib.ListN.{length, get_or, take, length-take, replicate, length-replicate, get_or-replicate, get_or-eq_default}
use lib.Seq.{take_at}
use Rattle.model.specs.Tasks.{Edge}
use Rattle.model.specs.Graph.{Graph, count, edges}
use Rattle.model.specs.Plan.{first_stage}
use Rattle.model.proofs.Basics.{order}
use Rattle.records.specs.Columns.{at}
use Rattle.readings.specs.declared.GraphReading.{GraphReading}
use Rattle.readings.specs.Working.{graph_in}
use Rattle.delays.specs.Delays.{delay_table}
use Rattle.acceptance.specs.Acceptance.{AcceptedReading}
use Rattle.acceptance.proofs.Fronts.{front, front_edges}
use Rattle.acceptance.proofs.Readings.{graph-fronts, few-tasks}
use Rattle.stages.specs.declared.StageEdges.{StageEdges}
use Rattle.stages.specs.Stages.{HeldStage}
use Rattle.first_stage.specs.FirstStage.{first_stage_in}
use Rattle.first_stage.proofs.Graphs.{first-stage-in}
use Rattle.prepared.specs.Ready.{Ready}
use Rattle.present.specs.declared.Precedence.{Precedence}
use Rattle.present.specs.Present.{Ordered, Timed}
use Rattle.present.proofs.Ordering.{first-staged, timed-sizes}
use Rattle.present.proofs.Reading.{ordered-lent}
use Rattle.steps.specs.Steps.{Begun}

-- lists of 0
pub blank-at : (n i : ℕ) → ◌≡◌ {A = ℕ} (at (replicate n 0) i) 0
unfolding at
blank-at n i = go (order n i)
  where
    go : (n ≤ i) ⊎ (i < n) → ◌≡◌ {A = ℕ} (get_or (replicate n 0) i 0) 0
    go (inl past) = get_or-eq_default (replicate n 0) 0 (subst (λ (k : ℕ). k ≤ i) (sym (length-replicate {A = ℕ} n 0)) past)
    go (inr inside) = get_or-replicate {A = ℕ} n i 0 0 inside

-- ── The first stage, and the table ──

module _ {graph : GraphReading} (given : AcceptedReading graph) where
  pub first-held : {r : StageEdges} → HeldStage r (first_stage_in graph.tasks (front_edges graph)) → HeldStage r (first_stage (graph_in graph))
  first-held {r} =
      let f = graph-fronts given in
      subst (λ (es : List Edge). HeldStage r es) ((λ i. first_stage_in (f.tasks-are i) (f.held i)) ∙ sym (first-stage-in (graph_in graph)))

  pub table-held :
      (past : List ℕ) {table : List ℕ} → table ≡ delay_table graph.tasks (front_edges graph) ++ past →
      table ≡ delay_table (count (graph_in graph)) (edges (graph_in graph)) ++ past
  table-held past is = let f = graph-fronts given in is ∙ (λ i. delay_table (f.tasks-are i) (f.held i) ++ past)

-- ── Rows of 64 numbers, as many lent as there are tasks ──

module _ {graph : GraphReading} (given : AcceptedReading graph) where
  abbrev g : Graph
  g = graph_in graph

  abbrev n : ℕ
  n = graph.tasks

  as_many : n ≡ count g
  as_many = (graph-fronts given).tasks-are

  few : n ≤ 64
  few = few-tasks given

  -- a row as long as there are tasks, as it is lent
  pub row-lent : (row : List ℕ) → length row ≡ 64 → length (take (n - 0) row) ≡ n
  row-lent row long = omega (arith, length-take (n - 0) row, long, few)

  -- a row that was lent and written, lent again
  lent_again : (written past : List ℕ) → length written ≡ count g → take (n - 0) (written ++ past) ≡ written
  lent_again written past size = take_at written past (n - 0) (omega (arith, size, as_many))

  pub row_kept : (written past : List ℕ) → length written ≡ count g → n ≤ length (written ++ past)
  row_kept written past size =
      let longer = length-take (n - 0) (written ++ past) in
      let same = ap length (lent_again written past size) in
      omega (arith, longer, same, size, as_many)

  pub begun :
      {stage : StageEdges} {from to counts : List ℕ} {o : Precedence} (end latest past past' : List ℕ) →
      HeldStage stage (first_stage g) → Ready g (first_stage g) from to counts →
      Ordered g (first_stage g) (take n graph.time) o → Timed g (first_stage g) end latest →
      Begun g (front n graph.time) stage from to counts o (take (n - 0) (end ++ past)) (take (n - 0) (latest ++ past'))
  begun end latest past past' held ready ordered timed =
      let sizes = timed-sizes timed in
      record {
        here = record {
          as_many = refl;
          staged = first-staged g given.accepted;
          held = held;
          ready = ready;
          timed = coe 1 0 (i. Timed g (first_stage g) (lent_again end past sizes.0 i) (lent_again latest past' sizes.1 i)) timed;
        };
        ordered = ordered-lent n graph.time ordered;
      }
