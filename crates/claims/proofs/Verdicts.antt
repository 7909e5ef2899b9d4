-- The verdict's refusals follow their sequence: the graph's checks, the proposal file's, then 13 to 15, each by a test that decides its condition where nothing
-- before it refuses; and what comes with a refusal.
use mathlib.Core.Path.{◌≡◌, refl, sym, ap, ◌∙◌, subst}
use mathlib.Core.Logic.{◌≢◌}
use mathlib.Core.Bool.{Bool, false}
use mathlib.Core.List.{List}
use Prim.Native.Nat.{ℕ, suc, ◌<◌}
use native.Mathlib.Omega.{arith}
use lib.Dec.{eqb, ltb}
use lib.IntN.{pos}
use lib.ListN.{length}
use Rattle.model.specs.Lists.{counted}
use Rattle.model.specs.Tasks.{Edge}
use Rattle.model.specs.Graph.{Graph, WellFormedEdges, count, edges, time_of}
use Rattle.model.specs.Paths.{NoneOnCycle, Latency, sync_at}
use Rattle.model.specs.Compute.{latency_of}
use Rattle.model.specs.Proposals.{result, AcceptedGraph}
use Rattle.model.specs.Theorems.{Decides}
use Rattle.model.proofs.Theorems.{latency-unique}
use Rattle.model.proofs.Tests.{decides_not, decides-no, eqb-decides, ltb-decides}
use Rattle.files.specs.declared.Refusal.{Refusal}
use Rattle.files.specs.Files.{task_count, graph_of, proposal_of, proposal_refusal, edge_in}
use Rattle.files.proofs.First.{none-refused, if-refused}
use Rattle.readings.proofs.Accepted.{proposal-formed}
use Rattle.readings.proofs.Whole.{task-count}
use Rattle.acceptance.specs.Outcomes.{tasks_of}
use Rattle.acceptance.proofs.Judged.{accepted-iff-passed}
use Rattle.judgement.specs.Judgement.{cycle_refusal, lost_refusal, judged_refusal}
use Rattle.judgement.proofs.Meanings.{judged_latency}
use Rattle.judgement.proofs.Tested.{on-cycle-at, order-at, passed-off-cycles}
use Rattle.verdict.specs.Verdict.{margin, verdict_refusal, counted_margin, told_late, result_latency, verdict_of}
use Rattle.claims.specs.Demand1.{Sequence, ◌at◌when◌, ◌when◌, ◌then◌, each, Says, CycleMade, OrderLost, BoundBelow, graph_checks, proposal_file_checks, proposed_checks, verdict_checks, LateTold}
use Rattle.claims.proofs.Conditions.{decides-same}
use Rattle.claims.proofs.Followed.{graph-follows, proposal-file-follows}
use Rattle.claims.proofs.Sequences.{Follows, one, and_then, only, each-follows, says}
use Rattle.claims.proofs.Demand2.{margin-beyond, late-told, late-margin-told, late-meant}

-- ── 13 to 15 ──

module _ (g : Graph) (proposed : List Edge) (graph : AcceptedGraph g) (formed : WellFormedEdges (count g) proposed) where
  abbrev cycle-checks : ℕ → Sequence
  cycle-checks j = 13 at suc j when CycleMade g proposed (edge_in proposed j)

  abbrev order-checks : ℕ → Sequence
  order-checks j = 14 at suc j when OrderLost g proposed (edge_in g.syncs j)

  order-follows : (j : ℕ) → Follows (order-checks j) (lost_refusal g proposed j)
  unfolding lost_refusal sync_at edge_in
  order-follows j = one (decides_not (order-at g proposed graph.formed formed (sync_at g j))) (λ z. omega arith)

  -- there is one latency only
  late-decided : NoneOnCycle (edges (result g proposed)) proposed → Decides (ltb g.bound (latency_of (result g proposed))) (BoundBelow (result g proposed))
  unfolding result time_of
  late-decided off =
      let latest = judged_latency g proposed graph formed off in
      decides-same (ltb-decides g.bound (latency_of (result g proposed))) (λ below. (latency_of (result g proposed), latest, below))
      (λ late. subst (λ (l : ℕ). g.bound < l) (latency-unique (edges (result g proposed)) (time_of g) g.output late.0 (latency_of (result g proposed)) late.1 latest) late.2)

  judged-follows : Follows (proposed_checks g proposed) (judged_refusal g proposed)
  unfolding proposed_checks judged_refusal cycle_refusal
  judged-follows =
      and_then (each (length proposed) cycle-checks) (each (length g.syncs) order-checks then 15 when BoundBelow (result g proposed)) _
      (each-follows cycle-checks (cycle_refusal g proposed) (λ j below. one (on-cycle-at g proposed graph.formed formed j below) (λ z. omega arith)) refl)
      (λ none.
      and_then (each (length g.syncs) order-checks) (15 when BoundBelow (result g proposed)) _
      (each-follows order-checks (lost_refusal g proposed) (λ j below. order-follows j) refl)
      (λ held. only (one (late-decided (passed-off-cycles g proposed graph.formed formed none)) (λ z. omega arith))))

-- ── The verdict call ──

module _ (s p : List ℕ) where
  abbrev g : Graph
  g = graph_of s

  abbrev proposed : List Edge
  proposed = proposal_of p

  abbrev v : Refusal
  v = verdict_refusal s p

  tasks-are : tasks_of s ≡ task_count s
  unfolding tasks_of
  tasks-are = task-count s

  well-formed : (proposal_refusal (tasks_of s) p).number ≡ 0 → WellFormedEdges (count g) proposed
  unfolding tasks_of
  well-formed read = proposal-formed (count g) p read

  verdict-follows : Follows (verdict_checks s p) v
  unfolding verdict_checks verdict_refusal
  verdict-follows =
      and_then (graph_checks s) (proposal_file_checks (task_count s) p then proposed_checks g proposed) _ (graph-follows s)
      (λ passed.
      and_then (proposal_file_checks (task_count s) p) (proposed_checks g proposed) _ (proposal-file-follows tasks-are p)
      (λ read. only (judged-follows g proposed ((accepted-iff-passed s).0 passed).1 (well-formed read))))

  pub place-passed : (verdict_of s p).outcome.number ≡ 0 → (verdict_of s p).outcome.place ≡ 0
  unfolding verdict_of told_late verdict_refusal
  place-passed none = ap (λ (r : Refusal). r.place) (none-refused _ none)

  pub verdict-says : Says (verdict_checks s p) (verdict_of s p).outcome.number (verdict_of s p).outcome.place
  unfolding verdict_of told_late
  verdict-says = says (verdict_checks s p) v verdict-follows place-passed

  pub verdict-unnamed : (verdict_of s p).outcome.number ≢ 15 → ((verdict_of s p).outcome.latency ≡ 0) × ((verdict_of s p).outcome.margin ≡ pos 0)
  unfolding verdict_of told_late counted counted_margin
  verdict-unnamed other =
      let not_late : eqb v.number 15 ≡ false = decides-no (eqb-decides v.number 15) other in (
        ap (λ (b : Bool). counted b (result_latency s p)) not_late,
        ap (λ (b : Bool). counted_margin b (margin g.bound (result_latency s p))) not_late,
      )

  pub verdict-plain : (verdict_of s p).outcome.number ≢ 0 → ((verdict_of s p).latency ≡ 0) × ((verdict_of s p).margin ≡ pos 0)
  unfolding verdict_of told_late
  verdict-plain some =
      (if-refused v.number (result_latency s p) 0 some, if-refused v.number (margin g.bound (result_latency s p)) (pos 0) some)

  pub verdict_late : (verdict_of s p).outcome.number ≡ 15 → LateTold (result g proposed) (verdict_of s p).outcome
  unfolding result time_of
  verdict_late is =
      let known = late-meant s p is in
      let told = late-told s p is in
      let below : g.bound < (verdict_of s p).outcome.latency = subst (λ (l : ℕ). g.bound < l) (sym told) known.1 in
      record {
        latency_is = subst (Latency (edges (result g proposed)) (time_of g) g.output) (sym told) known.0;
        bound_below = below;
        margin_is = late-margin-told s p is;
        negative = (_, late-margin-told s p is ∙ margin-beyond g.bound (verdict_of s p).outcome.latency below);
      }
