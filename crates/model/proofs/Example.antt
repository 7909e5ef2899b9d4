-- The example desk: each number of document 01 by computation of the definitions, and every hypothesis of the theorems met, so that none of
-- them speaks of nothing. The tests that decide a meaning are computed; their theorems give the meaning.
use mathlib.Core.Path.{refl}
use mathlib.Core.Bool.{not, ◌&&◌}
use mathlib.Core.Logic.{◌↔◌}
use mathlib.Core.List.Memᴰ.{head as here}
use mathlib.Core.List.{List, [], ◌∷◌}
use Prim.Native.Nat.{ℕ, ◌≤◌, ◌<◌}
use native.Mathlib.Nat.{lt_irrefl}
use lib.Dec.{T, T_not, eqb, leb, ltb, ltb→lt, leb→le, lit<, lit≤}
use Rattle.model.specs.Lists.{tabulate, every}
use Rattle.model.specs.Tasks.{Edge, ◌∈◌, Ends, Distinct, processor_of, edge}
use Rattle.model.specs.Processors.{processor_edges}
use Rattle.model.specs.Graph.{edges, time_of, WellFormedEdges, WellFormed}
use Rattle.model.specs.Paths.{AllHeld, NoneOnCycle, OrderHeld, NoZeroCycle, Serial}
use Rattle.model.specs.Runs.{MissesBound}
use Rattle.model.specs.Compute.{least_delay, is_redundant, on_cycle, zero_cycle, order_holds, input_free, joined, distinct, earliest, latency_of}
use Rattle.model.specs.Proposals.{AcceptedGraph, AcceptedProposal, result, dropping}
use Rattle.model.specs.Plan.{plan_of, plan_latency}
use Rattle.model.specs.Theorems.{Decides, OffCycles, Resynchronizes}
use Rattle.model.specs.Example.{desk_bound, desk, proposal, looped, DeskOnCycle, DeskEmptyLoses, DeskFirstOnlyLoses, DeskDelayedLoses, DeskLate, DeskDelays, DeskEdges, DeskRedundant, DeskLatency, DeskStarts, DeskResult, ResultLatency, DeskPlan, DeskPlanAtNine}
use Rattle.model.proofs.Basics.{all-below, every-out, eq→eqb, and_left, and_right}
use Rattle.model.proofs.Graphs.{sync-edge-in, graph-ends, graph-serial}
use Rattle.model.proofs.Results.{result-ends, result-proposed}
use Rattle.model.proofs.Theorems.{zero-cycle-is, on-cycle-is, order-holds-is, distinct-is, input-free-is, joined_is, redundant-is, latency_is, result-lost, result-misses, accepted-result, dropped-together}

-- ── Computed ──

pub desk-delays : DeskDelays
unfolding edges processor_edges least_delay
desk-delays = refl

pub desk-edges : DeskEdges
unfolding edges processor_edges
desk-edges = refl

pub desk-redundant : DeskRedundant
unfolding edges processor_edges is_redundant tabulate
desk-redundant = refl

pub desk-latency : DeskLatency
unfolding edges processor_edges time_of latency_of
desk-latency = refl

pub desk-starts : DeskStarts
unfolding edges processor_edges time_of earliest tabulate
desk-starts = refl

pub desk-result : DeskResult
unfolding edges processor_edges result
desk-result = refl

pub result-latency : ResultLatency
unfolding edges processor_edges time_of result latency_of
result-latency = refl

-- ── Hypotheses met ──

-- from a computed test of each edge
pub ends_of : (n : ℕ) (es : List Edge) → T (every (λ e. ltb e.source n && ltb e.sink n) es) → Ends n es
ends_of n es t e m =
    let h = every-out (λ (x : Edge). ltb x.source n && ltb x.sink n) t m in
    (ltb→lt e.source n (and_left (ltb e.source n) (ltb e.sink n) h), ltb→lt e.sink n (and_right (ltb e.source n) (ltb e.sink n) h))

delays-of : (es : List Edge) → T (every (λ e. leb e.delay 255) es) → (e : Edge) → e ∈ es → e.delay ≤ 255
delays-of es t e m = leb→le e.delay 255 (every-out (λ (x : Edge). leb x.delay 255) t m)

pub desk-ends : Ends 4 desk.syncs
unfolding every
desk-ends = ends_of 4 desk.syncs tt

pub desk-distinct : Distinct desk.syncs
unfolding distinct
desk-distinct = (distinct-is desk.syncs).if_true tt

pub desk-acyclic : NoZeroCycle (edges desk)
unfolding edges processor_edges zero_cycle
desk-acyclic = (zero-cycle-is 4 (edges desk) (graph-ends desk desk-ends)).if_false tt

pub desk-serial : Serial 4 (edges desk)
desk-serial = graph-serial desk

pub desk-formed : WellFormed desk
unfolding tabulate every processor_of time_of
desk-formed =
    record {
      two_tasks = lit≤ tt;
      at_most_64 = lit≤ tt;
      processors = λ v l. ltb→lt (processor_of desk.tasks v) 16 (each v l);
      times = λ v l. (leb→le 1 (time_of desk v) (and_left (leb 1 (time_of desk v)) (leb (time_of desk v) 65535) (time v l)), leb→le (time_of desk v) 65535 (and_right (leb 1 (time_of desk v)) (leb (time_of desk v) 65535) (time v l)));
      syncs_formed = record { few = lit≤ tt; ends = desk-ends; delays = delays-of desk.syncs tt; distinct = desk-distinct };
      between_processors = λ e m q. T_not (eqb (processor_of desk.tasks e.source) (processor_of desk.tasks e.sink)) (apart e m) (eq→eqb q);
      input_below = lit< tt;
      output_below = lit< tt;
      bound_fits = lit< tt;
    }
  where
    each : (v : ℕ) → v < 4 → T (ltb (processor_of desk.tasks v) 16)
    each = all-below 4 (λ v. ltb (processor_of desk.tasks v) 16) tt

    time : (v : ℕ) → v < 4 → T (leb 1 (time_of desk v) && leb (time_of desk v) 65535)
    time = all-below 4 (λ v. leb 1 (time_of desk v) && leb (time_of desk v) 65535) tt

    apart : (e : Edge) → e ∈ desk.syncs → T (not (eqb (processor_of desk.tasks e.source) (processor_of desk.tasks e.sink)))
    apart e m = every-out (λ (x : Edge). not (eqb (processor_of desk.tasks x.source) (processor_of desk.tasks x.sink))) {xs = desk.syncs} tt m

-- the desk is an accepted graph
pub desk-accepted : AcceptedGraph desk
unfolding edges processor_edges time_of latency_of joined input_free
desk-accepted =
    record {
      formed = desk-formed;
      no_zero_cycle = desk-acyclic;
      input-free = (input-free-is (edges desk) 0).if_true tt;
      joined = (joined_is 4 (edges desk) (graph-ends desk desk-ends) 0 3).if_true tt;
      bound_met = (9, latency_is 4 (edges desk) (graph-ends desk desk-ends) desk-acyclic (time_of desk) 3, lit≤ tt);
    }

proposal-ends : Ends 4 proposal
unfolding every
proposal-ends = ends_of 4 proposal tt

pub proposal-formed : WellFormedEdges 4 proposal
unfolding every distinct
proposal-formed = record { few = lit≤ tt; ends = proposal-ends; delays = delays-of proposal tt; distinct = (distinct-is proposal).if_true tt }

desk-result-ends : Ends 4 (edges (result desk proposal))
desk-result-ends = result-ends desk desk-ends proposal proposal-ends

result-acyclic : NoZeroCycle (edges (result desk proposal))
unfolding edges processor_edges result zero_cycle
result-acyclic = (zero-cycle-is 4 (edges (result desk proposal)) desk-result-ends).if_false tt

-- the example proposal is accepted
pub proposal-accepted : AcceptedProposal desk proposal
unfolding edges processor_edges time_of latency_of result on_cycle order_holds every
proposal-accepted =
    record {
      off_cycles = λ e m. (on-cycle-is 4 (edges (result desk proposal)) desk-result-ends e (result-proposed desk proposal m)).if_false
          (every-out (λ (x : Edge). not (on_cycle 4 (edges (result desk proposal)) x)) {xs = proposal} tt m);
      orders = λ e m. (order-holds-is 4 (edges (result desk proposal)) desk-result-ends e).if_true
          (every-out (order_holds 4 (edges (result desk proposal))) {xs = edges desk} tt m);
      in_time = (10, latency_is 4 (edges (result desk proposal)) desk-result-ends result-acyclic (time_of desk) 3, lit≤ tt);
    }

-- so demand 3 holds of it
pub desk-resynchronized : Resynchronizes desk (result desk proposal)
desk-resynchronized = accepted-result desk proposal desk-accepted proposal-formed proposal-accepted

-- ── Each refusal of a proposal, met ──

-- what a result of the desk is, whatever is proposed between its tasks and off its cycles
desk-off-cycles : (l : ℕ) (proposed : List Edge) → Ends 4 proposed → NoneOnCycle (edges (result (desk_bound l) proposed)) proposed → OffCycles (desk_bound l) proposed
unfolding edges
desk-off-cycles l proposed bounds off =
    record { sync_ends = desk-ends; proposed_ends = bounds; no_zero_cycle = desk-acyclic; off_cycles = off }

pub desk-on-cycle : DeskOnCycle
unfolding edges processor_edges result on_cycle every
desk-on-cycle e m =
    (on-cycle-is 4 (edges (result desk looped)) (result-ends desk desk-ends looped (ends_of 4 looped tt)) e (result-proposed desk looped m)).if_true
    (every-out (on_cycle 4 (edges (result desk looped))) {xs = looped} tt m)

none-proposed : Ends 4 []
none-proposed e m = elim m [ ]

pub desk-empty-loses : DeskEmptyLoses
unfolding edges processor_edges result order_holds
desk-empty-loses =
    (lost, (result-lost desk [] (desk-off-cycles 12 [] none-proposed (λ e m c. elim m [ ]))).0 (edge 0 2 0, sync-edge-in desk (here refl), lost))
  where
    lost : OrderHeld (edges (result desk [])) (edge 0 2 0) → ⊥
    lost = (order-holds-is 4 (edges (result desk [])) (result-ends desk desk-ends [] none-proposed) (edge 0 2 0)).if_false tt

-- the test of an order of the desk in the result of one proposed edge
one-proposed : (e f : Edge) → Ends 4 (e ∷ []) → Decides (order_holds 4 (edges (result desk (e ∷ []))) f) (OrderHeld (edges (result desk (e ∷ []))) f)
one-proposed e f bounds = order-holds-is 4 (edges (result desk (e ∷ []))) (result-ends desk desk-ends (e ∷ []) bounds) f

pub desk-first-only-loses : DeskFirstOnlyLoses
unfolding edges processor_edges result order_holds every
desk-first-only-loses =
    let bounds = ends_of 4 (edge 0 2 0 ∷ []) tt in
    ((one-proposed (edge 0 2 0) (edge 0 2 0) bounds).if_true tt, (one-proposed (edge 0 2 0) (edge 1 3 0) bounds).if_false tt)

pub desk-delayed-loses : DeskDelayedLoses
unfolding edges processor_edges result order_holds every
desk-delayed-loses = (one-proposed (edge 1 2 1) (edge 0 2 0) (ends_of 4 (edge 1 2 1 ∷ []) tt)).if_false tt

pub desk-late : DeskLate
unfolding edges processor_edges time_of result latency_of
desk-late = (λ m. lt_irrefl 10 ((late-iff 10).0 m), (late-iff 9).1 (lit< tt))
  where
    late-iff : (l : ℕ) → MissesBound (result (desk_bound l) proposal) ↔ (l < latency_of (result (desk_bound l) proposal))
    late-iff l =
        result-misses (desk_bound l) proposal (desk-off-cycles l proposal proposal-ends proposal-accepted.off_cycles) (λ v h. (desk-formed.times v h).0)
        (lit< tt)

-- ── Redundant edges, dropped ──

-- edge 3 of the desk is redundant, and can be dropped
pub desk-thinned : AllHeld (edges (dropping desk (is_redundant desk))) (edges desk)
desk-thinned = dropped-together desk desk-ends desk-acyclic desk-distinct (is_redundant desk) (λ i l t. (redundant-is desk desk-ends i).if_true t)

pub desk-plan : DeskPlan
unfolding edges processor_edges time_of plan_of plan_latency
desk-plan = (refl, refl)

pub desk-plan-at-nine : DeskPlanAtNine
unfolding edges processor_edges time_of plan_of plan_latency
desk-plan-at-nine = (refl, refl)
