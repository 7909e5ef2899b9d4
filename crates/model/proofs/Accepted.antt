-- Accepted proposals: what demand 3 says of their results, and that acceptance is a matter of runs alone. From the order and latency theorems,
-- the result being serial and without zero-delay cycle.
use mathlib.Core.Path.{◌≡◌, sym, subst}
use mathlib.Core.Logic.{◌⊎◌, inl, inr, ◌↔◌}
use mathlib.Core.List.{List}
use Prim.Native.Nat.{ℕ, ◌≤◌, ◌<◌}
use native.Mathlib.Nat.{le_refl, le_trans}
use native.Mathlib.Omega.{arith}
use Rattle.model.specs.Tasks.{Edge, Ends}
use Rattle.model.specs.Graph.{Graph, count, edges, time_of, WellFormedEdges}
use Rattle.model.specs.Paths.{NoneOnCycle, NoZeroCycle, Latency}
use Rattle.model.specs.Runs.{Times, ends, RunsAllowed, Earliest, estimates, MissesBound}
use Rattle.model.specs.Compute.{earliest, latency_of}
use Rattle.model.specs.Proposals.{result, AcceptedGraph, AcceptedProposal}
use Rattle.model.specs.Theorems.{MissesBoundIff, OffCycles, ResultNeverStalls, ResultOrders, ResultLost, ResultMisses, AcceptedResult, AcceptedIff}
use Rattle.model.proofs.Basics.{order}
use Rattle.model.proofs.Earliest.{earliest-run, never_stalls}
use Rattle.model.proofs.Orders.{orders-iff, lost-iff}
use Rattle.model.proofs.Latency.{latency_is, latency-unique, first-output, first-output-exact}
use Rattle.model.proofs.Graphs.{graph-ends, sync-edge-in}
use Rattle.model.proofs.Results.{result-ends, result-serial, result-acyclic, result-cycles}

pub misses-bound-iff : MissesBoundIff
unfolding latency_of
misses-bound-iff g bounds acyclic long o = (late, misses)
  where
    value : {start : Times} → Earliest (count g) (edges g) 1 start (estimates (time_of g)) → ends start (estimates (time_of g)) g.output 1 ≡ latency_of g
    value run =
        latency-unique (first-output-exact (graph-ends g bounds) (time_of g) g.output (le_refl 1) o run)
        (latency_is (count g) (edges g) (graph-ends g bounds) acyclic (time_of g) g.output)

    late : MissesBound g → g.bound < latency_of g
    late m = subst (λ (x : ℕ). g.bound < x) (value m.1) m.2

    misses : g.bound < latency_of g → MissesBound g
    misses h =
        let run = earliest-run (graph-ends g bounds) acyclic 1 (estimates (time_of g)) (λ v k l i i'. long v l) in
        (earliest (count g) (edges g) (estimates (time_of g)), run, subst (λ (x : ℕ). g.bound < x) (sym (value run)) h)

pub acyclic-result : (g : Graph) (proposed : List Edge) → OffCycles g proposed → NoZeroCycle (edges (result g proposed))
acyclic-result g proposed h = result-acyclic g h.sync_ends proposed h.proposed_ends h.off_cycles h.no_zero_cycle

pub result-never-stalls : ResultNeverStalls
result-never-stalls g proposed h = never_stalls (result-ends g h.sync_ends proposed h.proposed_ends) (acyclic-result g proposed h)

pub result-orders : ResultOrders
result-orders g proposed h =
    orders-iff (result-ends g h.sync_ends proposed h.proposed_ends) (result-serial g h.sync_ends proposed h.proposed_ends) (acyclic-result g proposed h)

pub result-lost : ResultLost
result-lost g proposed h =
    lost-iff (result-ends g h.sync_ends proposed h.proposed_ends) (result-serial g h.sync_ends proposed h.proposed_ends) (acyclic-result g proposed h)

pub result-misses : ResultMisses
unfolding result time_of
result-misses g proposed h long o =
    misses-bound-iff (result g proposed) (λ e m. result-ends g h.sync_ends proposed h.proposed_ends e (sync-edge-in (result g proposed) m))
    (acyclic-result g proposed h) long o

-- what an accepted graph and a well-formed proposal give, once its edges lie on no cycle
pub off-cycles-of : (g : Graph) (proposed : List Edge) → AcceptedGraph g → WellFormedEdges (count g) proposed →
    NoneOnCycle (edges (result g proposed)) proposed → OffCycles g proposed
off-cycles-of g proposed graph formed off =
    record { sync_ends = graph.formed.syncs_formed.ends; proposed_ends = formed.ends; no_zero_cycle = graph.no_zero_cycle; off_cycles = off }

pub accepted-result : AcceptedResult
accepted-result g proposed graph formed accepted =
    record {
      runs_allowed = (result-orders g proposed off).0 accepted.orders;
      never_stalls = result-never-stalls g proposed off;
      cycles = result-cycles g proposed off;
      earliest_exists = λ K dur long.
          (earliest (count g) (edges (result g proposed)) dur, earliest-run between-tasks (acyclic-result g proposed off) K dur long);
      in_time = λ K start dur h run short.
          let l = accepted.in_time in
          le_trans (first-output between-tasks (time_of g) g.output l.0 h graph.formed.output_below run short l.1) l.2;
    }
  where
    off : OffCycles g proposed
    off = off-cycles-of g proposed graph formed accepted.off_cycles

    between-tasks : Ends (count g) (edges (result g proposed))
    between-tasks = result-ends g off.sync_ends proposed off.proposed_ends

pub accepted-iff : AcceptedIff
unfolding result time_of latency_of
accepted-iff g proposed graph formed off_cycles = (to, from)
  where
    r : Graph
    r = result g proposed

    off : OffCycles g proposed
    off = off-cycles-of g proposed graph formed off_cycles

    is : Latency (edges r) (time_of g) g.output (latency_of r)
    is = latency_is (count g) (edges r) (result-ends g off.sync_ends proposed off.proposed_ends) (acyclic-result g proposed off) (time_of g) g.output

    late-iff : MissesBound r ↔ (g.bound < latency_of r)
    late-iff = result-misses g proposed off (λ v l. (graph.formed.times v l).0) graph.formed.output_below

    to : AcceptedProposal g proposed → RunsAllowed (count g) (edges r) (edges g) × (MissesBound r → ⊥)
    to accepted = ((result-orders g proposed off).0 accepted.orders, in_time)
      where
        in_time : MissesBound r → ⊥
        in_time m =
            let l = accepted.in_time in
            let same = latency-unique l.1 is in
            let below : l.0 ≤ g.bound = l.2 in
            let above : g.bound < latency_of r = late-iff.0 m in
            omega arith

    from : RunsAllowed (count g) (edges r) (edges g) × (MissesBound r → ⊥) → AcceptedProposal g proposed
    from h =
        record {
          off_cycles = off_cycles;
          orders = (result-orders g proposed off).1 h.0;
          in_time = (latency_of r, is, in_time (order (latency_of r) g.bound));
        }
      where
        in_time : (latency_of r ≤ g.bound) ⊎ (g.bound < latency_of r) → latency_of r ≤ g.bound
        in_time (inl l) = l
        in_time (inr l) = absurd (h.1 (late-iff.1 l))
