-- Demand 3, proved. Where the graph is accepted and the proposal well-formed, the proposed edges are sentenced by their result's cycles, runs and
-- lateness: which of the four sentences it is decides every equivalence. What is accepted by runs is accepted by 01's words, and of that the model shows
-- the rest.
use mathlib.Core.Path.{◌≡◌, refl, sym, ap, ◌∙◌, subst}
use mathlib.Core.Logic.{◌↔◌}
use mathlib.Core.List.{List}
use Prim.Native.Nat.{ℕ, ◌≤◌}
use native.Mathlib.Nat.{le_trans}
use native.Mathlib.Omega.{arith}
use lib.ListN.{length}
use Rattle.model.specs.Lists.{counted}
use Rattle.model.specs.Tasks.{Edge, ◌∈◌, Ends}
use Rattle.model.specs.Graph.{Graph, WellFormedEdges, count, edges, time_of}
use Rattle.model.specs.Paths.{OnCycle, NoneOnCycle}
use Rattle.model.specs.Runs.{RunsAllowed, SomeRunBreaks}
use Rattle.model.specs.Compute.{earliest, latency_of}
use Rattle.model.specs.Proposals.{result, AcceptedGraph, AcceptedProposal}
use Rattle.model.specs.Theorems.{Resynchronizes}
use Rattle.model.specs.Plan.{plan_of, plan_latency}
use Rattle.model.proofs.Theorems.{earliest-run, never-stalls-iff, first-output, accepted-result, accepted-iff}
use Rattle.model.proofs.Graphs.{graph-ends}
use Rattle.model.proofs.Plans.{plan-is}
use Rattle.model.proofs.Stages.{stage-accepted, stage-resynchronizes}
use Rattle.layout.specs.declared.EdgeRecord.{EdgeRecord}
use Rattle.files.specs.declared.Refusal.{Refusal}
use Rattle.files.specs.Files.{graph_of, proposal_of}
use Rattle.files.specs.Refusals.{not_refused}
use Rattle.files.proofs.First.{none-refused}
use Rattle.acceptance.specs.Outcomes.{tasks_of}
use Rattle.acceptance.specs.Theorems.{AcceptedFile}
use Rattle.judgement.specs.Judgement.{judged_refusal, tells_latency, judgement}
use Rattle.judgement.specs.Theorems.{Sentenced, cycle_made, order_lost, late, accepted}
use Rattle.judgement.proofs.Meanings.{accepted-by-paths}
use Rattle.verdict.specs.Verdict.{verdict_of, result_latency}
use Rattle.plan.specs.Plan.{plan_refusal, plan_answer_of}
use Rattle.plan.proofs.Meanings.{plan_given, latency-told, edges-listed}
use Rattle.claims.specs.Demand2.{plan_listed}
use Rattle.claims.specs.Demand3.{Demand3, WellFormedFile, result_graph, RunBreaks, Late}
use Rattle.claims.proofs.Answer.{only-judged, all-passed, edges-formed, number-judged, sentenced}
use Rattle.claims.proofs.Demand2.{latency-told as verdict-latency, plan-not-refused}
use Rattle.claims.proofs.Passed.{graph_passes, proposal_passes}

-- An accepted graph allows its own runs and has its own cycles; it never stalls, and its latency is within the bound.
pub original-kept : (g : Graph) → AcceptedGraph g → Resynchronizes g g
original-kept g graph =
    record {
      runs_allowed = λ K start dur run. run;
      never_stalls = (never-stalls-iff (count g) (edges g) between-tasks).1 graph.no_zero_cycle;
      cycles = λ p. (λ c. c, λ c. c);
      earliest_exists = λ K dur long. (earliest (count g) (edges g) dur, earliest-run (count g) (edges g) between-tasks graph.no_zero_cycle K dur long);
      in_time = λ K start dur some run short.
          let l = graph.bound_met in
          le_trans
          (first-output (count g) (edges g) between-tasks K start dur (time_of g) g.output l.0 some graph.formed.output_below run short l.1)
          l.2;
    }
  where
    between-tasks : Ends (count g) (edges g)
    between-tasks = graph-ends g graph.formed.syncs_formed.ends

-- where the original allows every run of the result, none breaks it
none-breaks : (n : ℕ) (rs es : List Edge) → RunsAllowed n rs es → SomeRunBreaks n rs es → ⊥
none-breaks n rs es runs (K, start, dur, run, breaks) = breaks (runs K start dur run)

module _ (s p : List ℕ) where
  module _ (graph : AcceptedFile s) (formed : WellFormedFile s p) where
    gets : (m : ℕ) → Sentenced (graph_of s) (proposal_of p) m → (verdict_of s p).outcome.number ≡ m
    gets m because = (sentenced s p graph formed m).1 because

    sentence : Sentenced (graph_of s) (proposal_of p) (verdict_of s p).outcome.number
    sentence = (sentenced s p graph formed (verdict_of s p).outcome.number).0 refl

    thirteen : ((verdict_of s p).outcome.number ≡ 13) ↔ ((e : Edge) × e ∈ proposal_of p × OnCycle (edges (result_graph s p)) e)
    thirteen = (λ is. to is sentence, λ h. gets 13 (cycle_made refl h.0 h.1 h.2))
      where
        to : {n : ℕ} → n ≡ 13 → Sentenced (graph_of s) (proposal_of p) n → (e : Edge) × e ∈ proposal_of p × OnCycle (edges (result_graph s p)) e
        to is (cycle_made because e m c) = (e, m, c)
        to is (order_lost because off breaks) = absurd (omega (arith, is, because))
        to is (late because off runs misses) = absurd (omega (arith, is, because))
        to is (accepted because off runs meets) = absurd (omega (arith, is, because))

    module _ (off : NoneOnCycle (edges (result_graph s p)) (proposal_of p)) where
      fourteen : ((verdict_of s p).outcome.number ≡ 14) ↔ RunBreaks s p
      unfolding tasks_of
      fourteen = (λ is. to is sentence, λ breaks. gets 14 (order_lost refl off breaks))
        where
          to : {n : ℕ} → n ≡ 14 → Sentenced (graph_of s) (proposal_of p) n → RunBreaks s p
          to is (cycle_made because e m c) = absurd (off e m c)
          to is (order_lost because apart breaks) = breaks
          to is (late because apart runs misses) = absurd (omega (arith, is, because))
          to is (accepted because apart runs meets) = absurd (omega (arith, is, because))

      fifteen : ((verdict_of s p).outcome.number ≡ 15) ↔ ((RunBreaks s p → ⊥) × Late s p)
      unfolding tasks_of
      fifteen = (λ is. to is sentence, λ h. back h.0 h.1 sentence)
        where
          to : {n : ℕ} → n ≡ 15 → Sentenced (graph_of s) (proposal_of p) n → (RunBreaks s p → ⊥) × Late s p
          to is (cycle_made because e m c) = absurd (off e m c)
          to is (order_lost because apart breaks) = absurd (omega (arith, is, because))
          to is (late because apart runs misses) = (none-breaks (tasks_of s) (edges (result_graph s p)) (edges (graph_of s)) runs, misses)
          to is (accepted because apart runs meets) = absurd (omega (arith, is, because))

          back : (RunBreaks s p → ⊥) → Late s p → {n : ℕ} → Sentenced (graph_of s) (proposal_of p) n → n ≡ 15
          back none missed (cycle_made because e m c) = absurd (off e m c)
          back none missed (order_lost because apart breaks) = absurd (none breaks)
          back none missed (late because apart runs misses) = because
          back none missed (accepted because apart runs meets) = absurd (meets missed)

      otherwise : ((verdict_of s p).outcome.number ≡ 0) ↔ ((RunBreaks s p → ⊥) × (Late s p → ⊥))
      unfolding tasks_of
      otherwise = (λ is. to is sentence, λ h. back h.0 h.1 sentence)
        where
          to : {n : ℕ} → n ≡ 0 → Sentenced (graph_of s) (proposal_of p) n → (RunBreaks s p → ⊥) × (Late s p → ⊥)
          to is (cycle_made because e m c) = absurd (off e m c)
          to is (order_lost because apart breaks) = absurd (omega (arith, is, because))
          to is (late because apart runs misses) = absurd (omega (arith, is, because))
          to is (accepted because apart runs meets) = (none-breaks (tasks_of s) (edges (result_graph s p)) (edges (graph_of s)) runs, meets)

          back : (RunBreaks s p → ⊥) → (Late s p → ⊥) → {n : ℕ} → Sentenced (graph_of s) (proposal_of p) n → n ≡ 0
          back none met (cycle_made because e m c) = absurd (off e m c)
          back none met (order_lost because apart breaks) = absurd (none breaks)
          back none met (late because apart runs misses) = absurd (met misses)
          back none met (accepted because apart runs meets) = because

    kept : (verdict_of s p).outcome.number ≡ 0 → Resynchronizes (graph_of s) (result_graph s p)
    kept none = go none sentence
      where
        go : {n : ℕ} → n ≡ 0 → Sentenced (graph_of s) (proposal_of p) n → Resynchronizes (graph_of s) (result_graph s p)
        go is (cycle_made because e m c) = absurd (omega (arith, is, because))
        go is (order_lost because off breaks) = absurd (omega (arith, is, because))
        go is (late because off runs misses) = absurd (omega (arith, is, because))
        go is (accepted because off runs meets) =
            let well = edges-formed s p graph formed in
            accepted-result (graph_of s) (proposal_of p) graph.1 well ((accepted-iff (graph_of s) (proposal_of p) graph.1 well off).1 (runs, meets))

    by_paths : ((verdict_of s p).outcome.number ≡ 0) ↔ AcceptedProposal (graph_of s) (proposal_of p)
    by_paths =
        let iff = accepted-by-paths (graph_of s) (proposal_of p) graph.1 (edges-formed s p graph formed) in
        let same = number-judged s p graph formed in
        (λ none. iff.0 (sym same ∙ none), λ ok. same ∙ iff.1 ok)

    off_cycles : 14 ≤ (verdict_of s p).outcome.number → NoneOnCycle (edges (result_graph s p)) (proposal_of p)
    off_cycles high = go high sentence
      where
        go : {n : ℕ} → 14 ≤ n → Sentenced (graph_of s) (proposal_of p) n → NoneOnCycle (edges (result_graph s p)) (proposal_of p)
        go above (cycle_made because e m c) = absurd (omega (arith, above, because))
        go above (order_lost because off breaks) = off
        go above (late because off runs misses) = off
        go above (accepted because off runs meets) = off

-- ── The tool's own plan ──

module _ (s : List ℕ) (list : List EdgeRecord) (passed : (plan_refusal s (length list)).number ≡ 0) where
  abbrev g : Graph
  g = graph_of s

  graph-accepted : AcceptedFile s
  graph-accepted = ((plan_given s (length list)).0 passed).0

  own-stage : WellFormedEdges (count g) (plan_of g).list × AcceptedProposal g (plan_of g).list
  own-stage = stage-accepted g graph-accepted.1 (plan_of g).steps (plan_of g).list (plan-is g graph-accepted.1).stage

  written : plan_listed s list ≡ (plan_of g).list
  written = edges-listed s list passed

  -- nothing is refused of it
  own-judged : judged_refusal g (plan_of g).list ≡ not_refused
  unfolding judged_refusal
  own-judged = none-refused _ ((accepted-by-paths g (plan_of g).list graph-accepted.1 own-stage.0).1 own-stage.1)

  own-judgement : judgement g (plan_of g).list ≡ record { refusal = not_refused; latency = (plan_answer_of s (length list)).latency }
  unfolding judgement tells_latency counted plan_latency
  own-judgement = λ i. record {
    refusal = own-judged i;
    latency = (ap (λ (r : Refusal). counted (tells_latency r.number) (latency_of (result g (plan_of g).list))) own-judged ∙ sym (latency-told s list passed)) i;
  }

  planned :
      WellFormedEdges (count g) (plan_listed s list) × AcceptedProposal g (plan_listed s list) ×
      (judgement g (plan_listed s list) ≡ record { refusal = not_refused; latency = (plan_answer_of s (length list)).latency })
  planned = (
    subst (WellFormedEdges (count g)) (sym written) own-stage.0,
    subst (AcceptedProposal g) (sym written) own-stage.1,
    ap (judgement g) written ∙ own-judgement,
  )

  -- and of a file that holds it
  plan_accepted :
      (p : List ℕ) → WellFormedFile s p → proposal_of p ≡ plan_listed s list →
      ((verdict_of s p).outcome.number ≡ 0) × ((verdict_of s p).latency ≡ (plan_answer_of s (length list)).latency)
  unfolding plan_latency result_latency
  plan_accepted p formed same =
      let is = same ∙ written in
      let none = (by_paths s p graph-accepted formed).1 (subst (AcceptedProposal g) (sym is) own-stage.1) in
      (none, verdict-latency s p none ∙ (ap (λ (es : List Edge). latency_of (result g es)) is ∙ sym (latency-told s list passed)))

pub demand3-met : Demand3
unfolding tasks_of
demand3-met =
    record {
      graph_passes = graph_passes;
      proposal_passes = proposal_passes;
      original = λ s graph. original-kept (graph_of s) graph.1;
      anyone = λ s graph proposed formed by_paths. accepted-result (graph_of s) proposed graph.1 formed by_paths;
      stages = λ s graph steps list stage.
          let h = stage-accepted (graph_of s) graph.1 steps list stage in
          (h.0, h.1, stage-resynchronizes (graph_of s) graph.1 steps list stage);
      planned = λ s list none. planned s list (plan-not-refused s (length list) none);
      plan_accepted = λ s p list none formed same. plan_accepted s list (plan-not-refused s (length list) none) p formed same;
      kept = λ s p none. let h = all-passed s p none in (h.0, h.1, kept s p h.0 h.1 none);
      by_paths = by_paths;
      thirteen = thirteen;
      fourteen = fourteen;
      fifteen = fifteen;
      otherwise = otherwise;
      only_then = only-judged;
      only_off_cycles = λ s p high.
          let above : 13 ≤ (verdict_of s p).outcome.number = omega (arith, high) in
          let h = only-judged s p above in
          off_cycles s p h.0 h.1 high;
    }
