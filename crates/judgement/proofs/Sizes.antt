-- The latency that a judgement tells is small: the output's first turn ends by the sum of all times.
use mathlib.Core.Path.{sym, subst}
use mathlib.Core.Bool.{Bool, true, false}
use mathlib.Core.List.{List}
use Prim.Native.Nat.{ℕ, ◌≤◌, zero-le}
use native.Mathlib.Omega.{arith}
use lib.ListN.{length}
use Rattle.model.specs.Lists.{counted}
use Rattle.model.specs.Tasks.{Edge}
use Rattle.model.specs.Graph.{Graph, WellFormedEdges, count, edges, time_of}
use Rattle.model.specs.Paths.{OnCycle, NoneOnCycle}
use Rattle.model.specs.Compute.{latency, latency_of}
use Rattle.model.specs.Proposals.{result, AcceptedGraph}
use Rattle.files.specs.Files.{edge_in}
use Rattle.files.proofs.First.{Finds, at_none, at_first, number_same}
use Rattle.starts.proofs.Limits.{turn-fits}
use Rattle.judgement.specs.Judgement.{judged_refusal, tells_latency, judgement}
use Rattle.judgement.proofs.Chain.{cycles_searched, stops-13}
use Rattle.judgement.proofs.Tested.{none-on-cycle, result-fit, cycles-found, acyclic-result}

module _ (g : Graph) (proposed : List Edge) (graph : AcceptedGraph g) (formed : WellFormedEdges (count g) proposed) where
  -- off cycles, by 2 ^ 28
  result-latency-small : NoneOnCycle (edges (result g proposed)) proposed → latency_of (result g proposed) ≤ 268435456
  unfolding latency_of latency result time_of
  result-latency-small off =
      turn-fits (result-fit g proposed graph.formed formed).ends (acyclic-result g proposed graph formed off)
      {time = time_of g} (λ v below. (graph.formed.times v below).0) graph.formed.at_most_64 (λ v below. (graph.formed.times v below).1) g.output 1
      graph.formed.output_below (omega arith) (omega arith)

  pub told-latency-small : (judgement g proposed).latency ≤ 268435456
  unfolding judgement counted tells_latency
  told-latency-small = go (cycles-found g proposed graph.formed formed)
    where
      told : (b : Bool) → latency_of (result g proposed) ≤ 268435456 → counted b (latency_of (result g proposed)) ≤ 268435456
      told true small = small
      told false small = zero-le

      go :
          Finds (length proposed) 13 (λ j. OnCycle (edges (result g proposed)) (edge_in proposed j)) (cycles_searched g proposed) →
          counted (tells_latency (judged_refusal g proposed).number) (latency_of (result g proposed)) ≤ 268435456
      go (at_none none is) =
          told (tells_latency (judged_refusal g proposed).number) (result-latency-small (none-on-cycle (edges (result g proposed)) proposed none))
      go (at_first j below on earlier is) =
          subst (λ (n : ℕ). counted (tells_latency n) (latency_of (result g proposed)) ≤ 268435456) (sym (number_same (stops-13 g proposed is (λ z. omega arith)))) zero-le
