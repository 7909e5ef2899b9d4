-- Numbers 13 to 15 mean what document 01 says: each test of the chain decides its condition, and where no proposed edge lies on a cycle of the result
-- its orders and latency are a matter of its runs.
use mathlib.Core.Path.{◌≡◌, refl, sym, ◌∙◌, subst}
use mathlib.Core.Logic.{◌↔◌, ◌⊎◌, inl, inr}
use mathlib.Core.List.{List}
use Prim.Native.Nat.{ℕ, ◌≤◌, ◌<◌}
use native.Mathlib.Omega.{arith}
use lib.ListN.{length}
use Rattle.model.specs.Tasks.{Edge}
use Rattle.model.specs.Graph.{Graph, WellFormedEdges, count, edges, time_of}
use Rattle.model.specs.Paths.{OnCycle, NoneOnCycle, OrderHeld, SomeLost, sync_at}
use Rattle.model.specs.Runs.{RunsAllowed, MissesBound}
use Rattle.model.specs.Compute.{latency_of}
use Rattle.model.specs.Proposals.{result, AcceptedGraph, AcceptedProposal}
use Rattle.model.proofs.Basics.{order}
use Rattle.model.proofs.Theorems.{result-orders, result-lost, result-misses, accepted-iff, latency_is}
use Rattle.files.specs.declared.Refusal.{Refusal}
use Rattle.files.specs.Files.{edge_in}
use Rattle.files.proofs.First.{Finds, at_none, at_first, number_same}
use Rattle.judgement.specs.Judgement.{judged_refusal}
use Rattle.judgement.specs.Theorems.{Sentenced, cycle_made, order_lost, late, accepted, SentencedIff, AcceptedByPaths, JudgedLatency}
use Rattle.judgement.proofs.Chain.{stops-13, stops-14, stops-15, passed}
use Rattle.judgement.proofs.Tested.{edge-there, none-on-cycle, result-fit, cycles-found, off-cycles-pass, cycle-stops, orders-found, held_all, sync-in, held-pass, lost-stops, off-cycles-of, acyclic-result}

module _ (g : Graph) (proposed : List Edge) (graph : AcceptedGraph g) (formed : WellFormedEdges (count g) proposed) where
  misses-iff : NoneOnCycle (edges (result g proposed)) proposed → MissesBound (result g proposed) ↔ (g.bound < latency_of (result g proposed))
  misses-iff off =
      result-misses g proposed (off-cycles-of g proposed graph formed off) (λ v l. (graph.formed.times v l).0) graph.formed.output_below

  -- what proposed edges are sentenced to get, they get
  gets : (m : ℕ) → Sentenced g proposed m → (judged_refusal g proposed).number ≡ m
  gets m (cycle_made is e k c) =
      let thirteen = cycle-stops g proposed graph.formed formed e k c in
      number_same (stops-13 g proposed refl (λ none. omega (arith, none, thirteen))) ∙ (thirteen ∙ sym is)
  gets m (order_lost is off breaks) =
      let lost = (result-lost g proposed (off-cycles-of g proposed graph formed off)).1 breaks in
      let fourteen = lost-stops g proposed graph.formed formed lost in
      number_same (stops-14 g proposed (off-cycles-pass g proposed graph.formed formed off) refl (λ none. omega (arith, none, fourteen))) ∙ (fourteen ∙ sym is)
  gets m (late is off runs misses) =
      number_same
      (stops-15 g proposed (off-cycles-pass g proposed graph.formed formed off)
      (held-pass g proposed graph.formed formed ((result-orders g proposed (off-cycles-of g proposed graph formed off)).1 runs))
      ((misses-iff off).0 misses)) ∙
      sym is
  gets m (accepted is off runs meets) =
      number_same
      (passed g proposed (off-cycles-pass g proposed graph.formed formed off)
      (held-pass g proposed graph.formed formed ((result-orders g proposed (off-cycles-of g proposed graph formed off)).1 runs))
      (within (order (latency_of (result g proposed)) g.bound))) ∙
      sym is
    where
      within :
          (latency_of (result g proposed) ≤ g.bound) ⊎ (g.bound < latency_of (result g proposed)) → latency_of (result g proposed) ≤ g.bound
      within (inl l) = l
      within (inr above) = absurd (meets ((misses-iff off).1 above))

  -- and they are sentenced to get some number
  some_number : (m : ℕ) × Sentenced g proposed m
  some_number = at-13 (cycles-found g proposed graph.formed formed)
    where
      at-15 :
          NoneOnCycle (edges (result g proposed)) proposed → RunsAllowed (count g) (edges (result g proposed)) (edges g) →
          (latency_of (result g proposed) ≤ g.bound) ⊎ (g.bound < latency_of (result g proposed)) → (m : ℕ) × Sentenced g proposed m
      at-15 off runs (inl l) = (0, accepted refl off runs (λ misses. let above = (misses-iff off).0 misses in omega arith))
      at-15 off runs (inr above) = (15, late refl off runs ((misses-iff off).1 above))

      at-14 :
          NoneOnCycle (edges (result g proposed)) proposed → {r : Refusal} →
          Finds (length g.syncs) 14 (λ j. OrderHeld (edges (result g proposed)) (sync_at g j) → ⊥) r → (m : ℕ) × Sentenced g proposed m
      at-14 off (at_none none is) =
          at-15 off ((result-orders g proposed (off-cycles-of g proposed graph formed off)).0 (held_all g proposed graph.formed formed none))
          (order (latency_of (result g proposed)) g.bound)
      at-14 off (at_first j below lost earlier is) =
          let some : SomeLost (edges (result g proposed)) (edges g) = (sync_at g j, sync-in g proposed graph.formed formed j below, lost) in
          (14, order_lost refl off ((result-lost g proposed (off-cycles-of g proposed graph formed off)).0 some))

      at-13 :
          {r : Refusal} → Finds (length proposed) 13 (λ j. OnCycle (edges (result g proposed)) (edge_in proposed j)) r → (m : ℕ) × Sentenced g proposed m
      at-13 (at_none none is) = at-14 (none-on-cycle (edges (result g proposed)) proposed none) (orders-found g proposed graph.formed formed)
      at-13 (at_first j below on earlier is) =
          (13, cycle_made refl (edge_in proposed j) (edge-there proposed j below) on)

  sentenced-so : (m : ℕ) → (judged_refusal g proposed).number ≡ m → Sentenced g proposed m
  sentenced-so m is =
      let k : (m : ℕ) × Sentenced g proposed m = some_number in
      subst (Sentenced g proposed) (sym (gets k.0 k.1) ∙ is) k.1

pub sentenced-iff : SentencedIff
sentenced-iff g proposed graph formed m = (sentenced-so g proposed graph formed m, gets g proposed graph formed m)

pub accepted-by-paths : AcceptedByPaths
accepted-by-paths g proposed graph formed = (to, back)
  where
    by_paths : Sentenced g proposed 0 → AcceptedProposal g proposed
    by_paths (accepted is off runs meets) = (accepted-iff g proposed graph formed off).1 (runs, meets)
    by_paths (cycle_made is e k c) = absurd (omega (arith, is))
    by_paths (order_lost is off breaks) = absurd (omega (arith, is))
    by_paths (late is off runs misses) = absurd (omega (arith, is))

    to : (judged_refusal g proposed).number ≡ 0 → AcceptedProposal g proposed
    to none = by_paths (sentenced-so g proposed graph formed 0 none)

    back : AcceptedProposal g proposed → (judged_refusal g proposed).number ≡ 0
    back a =
        let h = (accepted-iff g proposed graph formed a.off_cycles).0 a in
        gets g proposed graph formed 0 (accepted refl a.off_cycles h.0 h.1)

pub judged_latency : JudgedLatency
unfolding result time_of latency_of
judged_latency g proposed graph formed off =
    latency_is (count g) (edges (result g proposed)) (result-fit g proposed graph.formed formed).ends (acyclic-result g proposed graph formed off) (time_of g) g.output
