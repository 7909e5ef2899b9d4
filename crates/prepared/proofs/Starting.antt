-- What the needs of `prepare` ask: the graph's table stands at the front of the lent list, the front is the table of counted delays once its diagonal is 0, and
-- the stage's edges are few and between tasks of the graph.
use mathlib.Core.Path.{◌≡◌, refl, sym, ap, ◌∙◌, subst}
use mathlib.Core.List.{List, ◌++◌}
use Prim.Native.Nat.{ℕ, ◌+◌, ◌-◌, ◌*◌, ◌≤◌, ◌<◌}
use native.Mathlib.Nat.{sub-zero, mul-one}
use native.Mathlib.Omega.{arith}
use lib.ListN.{length, take, length-take, length-append}
use lib.Seq.{take_at}
use Rattle.model.specs.Lists.{tabulate}
use Rattle.model.specs.Tasks.{Edge, Ends}
use Rattle.model.specs.Graph.{Graph, WellFormedEdges, count, edges}
use Rattle.model.specs.Proposals.{AcceptedGraph}
use Rattle.model.specs.Plan.{counting, first_stage, at_first}
use Rattle.model.proofs.Stages.{stage-accepted}
use Rattle.records.specs.Columns.{at, edges_in}
use Rattle.records.proofs.Fill.{length-tabulate}
use Rattle.records.proofs.Rows.{rows-length, place-within, product_small}
use Rattle.delays.specs.Delays.{entry, delay_table}
use Rattle.delays.proofs.Table.{table-length, table-front, table-room}
use Rattle.updates.specs.Updates.{Small}
use Rattle.candidates.specs.Candidates.{count_table}
use Rattle.subsumption.specs.Subsumption.{CountsOf}
use Rattle.stages.specs.declared.StageEdges.{StageEdges}
use Rattle.stages.specs.Stages.{HeldStage}
use Rattle.stages.proofs.Staged.{stage-edges}

-- numbers of 0 are small
pub blank-small : (xs : List ℕ) → ((i : ℕ) → at xs i ≡ 0) → Small xs
blank-small xs blank i = omega (arith, blank i)

-- ── The table ──

counts-length : (n : ℕ) (es : List Edge) → length (count_table n es) ≡ n * n
unfolding count_table
counts-length n es =
    rows-length n (λ a. tabulate n (λ b. entry (counting n es a b))) (λ a. length-tabulate n (λ b. entry (counting n es a b))) n

module _ {tasks : ℕ} {g : Graph} (accepted : AcceptedGraph g) (same : tasks ≡ count g) where
  pub few-tasks : tasks ≤ 64
  few-tasks = omega (arith, same, accepted.formed.at_most_64)

  pub square-small : tasks * tasks ≤ 4096
  square-small = product_small tasks tasks few-tasks few-tasks

  module _ (past : List ℕ) {table : List ℕ} (is : table ≡ delay_table (count g) (edges g) ++ past) where
    table_is : table ≡ delay_table tasks (edges g) ++ past
    table_is = is ∙ ap (λ (n : ℕ). delay_table n (edges g) ++ past) (sym same)

    pub square-within : tasks * tasks ≤ length table
    square-within = table-room tasks (edges g) past table_is

    front-is : take (tasks * tasks - 0) table ≡ delay_table tasks (edges g)
    front-is = table-front tasks (edges g) past table_is

    pub front-size : length (take (tasks * tasks - 0) table) ≡ tasks * tasks
    front-size = ap length front-is ∙ table-length tasks (edges g)

    -- the list once the diagonal of its front is 0
    module _
        {zeroed : List ℕ} (given : (es : List Edge) → take (tasks * tasks - 0) table ≡ delay_table tasks es → zeroed ≡ count_table tasks es)
        (rest : List ℕ) where
      zeroed-is : zeroed ≡ count_table tasks (edges g)
      zeroed-is = given (edges g) front-is

      zeroed-size : length zeroed ≡ tasks * tasks
      zeroed-size = ap length zeroed-is ∙ counts-length tasks (edges g)

      pub zeroed-within : tasks * tasks ≤ length (zeroed ++ rest)
      zeroed-within = omega (arith, zeroed-size, length-append zeroed rest)

      front-zeroed : take (tasks * tasks - 0) (zeroed ++ rest) ≡ zeroed
      front-zeroed = take_at zeroed rest (tasks * tasks - 0) (zeroed-size ∙ sym (sub-zero (tasks * tasks)))

      pub counted-front : take (tasks * tasks - 0) (zeroed ++ rest) ≡ count_table tasks (edges g)
      counted-front = front-zeroed ∙ zeroed-is

      place_in : (a b p : ℕ) → a < tasks → b < tasks → p ≡ a * tasks + b → p < length (take (tasks * tasks - 0) (zeroed ++ rest))
      place_in a b p la lb place = omega (arith, ap length front-zeroed, zeroed-size, place-within tasks tasks a b la lb, place)

      pub row-place : (a b : ℕ) → a < tasks → b < tasks → a * tasks + b * 1 < length (take (tasks * tasks - 0) (zeroed ++ rest))
      row-place a b la lb = place_in a b (a * tasks + b * 1) la lb (omega (arith, mul-one b))

      pub column-place : (a b : ℕ) → a < tasks → b < tasks → a * 1 + b * tasks < length (take (tasks * tasks - 0) (zeroed ++ rest))
      column-place a b la lb = place_in b a (a * 1 + b * tasks) lb la (omega (arith, mul-one a))

  -- ── The stage ──

  formed : WellFormedEdges (count g) (first_stage g)
  formed = (stage-accepted g accepted 0 (first_stage g) (at_first refl refl)).0

  -- the edges of the stage, as they are lent
  module _ {stage : StageEdges} (held : HeldStage stage (first_stage g)) where
    pub lent-few : length (take stage.count stage.edges) ≤ 256
    lent-few = omega (arith, length-take stage.count stage.edges, held.few)

    pub lent-ends : Ends tasks (edges_in (take stage.count stage.edges))
    lent-ends =
        subst (λ (es : List Edge). Ends tasks es) (sym (stage-edges held)) (subst (λ (n : ℕ). Ends n (first_stage g)) (sym same) formed.ends)

-- counts of edges are counts of the same edges
pub counts-held :
    {n : ℕ} {from to counts : List ℕ} {held es : List Edge} → held ≡ es → CountsOf n from to held counts → CountsOf n from to es counts
counts-held {n} {from} {to} {counts} same = subst (λ (es : List Edge). CountsOf n from to es counts) same
