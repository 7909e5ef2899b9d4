-- What is proved, each sentence as a type. proofs/Theorems.antt proves each under its own name (`LeastDelayIs` by `least-delay-is`).
use Rattle.std.specs.Prelude.{◌≡◌, ◌↔◌, ◌⊎◌, Bool, not, List, ℕ, suc, ◌+◌, ◌*◌, ◌≤◌, ◌<◌, T, length}
use Rattle.std.proofs.Math.Option.{Option, some}
use Rattle.model.specs.Lists.{sum_below}
use Rattle.model.specs.Tasks.{Edge, ◌∈◌, Ends, Distinct, Task, processor_of, ProcessorEdge}
use Rattle.model.specs.Processors.{processor_edges}
use Rattle.model.specs.Graph.{Graph, count, edges, time_of, WellFormedEdges}
use Rattle.model.specs.Paths.{Path, Least, OrderHeld, AllHeld, SomeLost, NoneOnCycle, Redundant, OnCycle, Feedback, Feedforward, ZeroCycle, NoZeroCycle, SameCycles, ZeroWalk, times_along, Latency, InputFree, Joined, Serial}
use Rattle.model.specs.Runs.{Times, ends, AtLeastOne, Keeps, Allows, RunsAllowed, SomeRunBreaks, NeverStalls, Earliest, estimates, MissesBound}
use Rattle.model.specs.Compute.{least_delay, order_holds, is_redundant, on_cycle, zero_cycle, input_free, joined, distinct, earliest, latency, is_feedback, latency_of}
use Rattle.model.specs.Proposals.{result, dropping, AcceptedGraph, AcceptedProposal}

-- The test b decides p: where it is true p holds, and where it is false p does not.
pub record Decides (b : Bool) (p : Type 0) : Type 0 where
  pub if_true : T b → p
  pub if_false : T (not b) → p → ⊥

-- o is a number, and at most d
pub data Within : Option ℕ → ℕ → Type 0 where
  within : {x d : ℕ} → x ≤ d → Within (some x) d

-- ── 1. Least delays ──

-- The computed least delay is the least over paths, or none and there is no path.
abbrev pub LeastDelayIs : Type 0
LeastDelayIs = (n : ℕ) (es : List Edge) → Ends n es → (a b : ℕ) → Least es a b (least_delay n es a b)

-- There is one least delay only.
abbrev pub LeastUnique : Type 0
LeastUnique = (es : List Edge) (a b : ℕ) (x y : Option ℕ) → Least es a b x → Least es a b y → x ≡ y

-- A row of path delays from a that no edge betters, neither one out of a nor one out of a task with an entry, is least.
abbrev pub RowLeast : Type 0
RowLeast =
    (es : List Edge) (a : ℕ) (row : ℕ → Option ℕ) → ((b d : ℕ) → row b ≡ some d → Path es a b d) →
    ((e : Edge) → e ∈ es → e.source ≡ a → Within (row e.sink) e.delay) →
    ((e : Edge) (d : ℕ) → e ∈ es → row e.source ≡ some d → Within (row e.sink) (d + e.delay)) →
    (b : ℕ) → Least es a b (row b)

-- Each test decides its meaning.
abbrev pub OrderHoldsIs : Type 0
OrderHoldsIs = (n : ℕ) (es : List Edge) → Ends n es → (e : Edge) → Decides (order_holds n es e) (OrderHeld es e)

abbrev pub OnCycleIs : Type 0
OnCycleIs = (n : ℕ) (es : List Edge) → Ends n es → (e : Edge) → e ∈ es → Decides (on_cycle n es e) (OnCycle es e)

abbrev pub ZeroCycleIs : Type 0
ZeroCycleIs = (n : ℕ) (es : List Edge) → Ends n es → Decides (zero_cycle n es) (ZeroCycle es)

abbrev pub InputFreeIs : Type 0
InputFreeIs = (es : List Edge) (input : ℕ) → Decides (input_free es input) (InputFree es input)

abbrev pub JoinedIs : Type 0
JoinedIs = (n : ℕ) (es : List Edge) → Ends n es → (input output : ℕ) → Decides (joined n es input output) (Joined es input output)

abbrev pub DistinctIs : Type 0
DistinctIs = (es : List Edge) → Decides (distinct es) (Distinct es)

abbrev pub RedundantIs : Type 0
RedundantIs = (g : Graph) → Ends (count g) g.syncs → (i : ℕ) → Decides (is_redundant g i) (Redundant g i)

abbrev pub FeedbackIs : Type 0
FeedbackIs = (g : Graph) → Ends (count g) g.syncs → (e : Edge) → e ∈ edges g → Decides (is_feedback g e) (Feedback g e)

-- The list of processor edges holds exactly those of document 01, and makes every graph serial.
abbrev pub ProcessorEdgesAre : Type 0
ProcessorEdgesAre = (ts : List Task) (e : Edge) → (e ∈ processor_edges ts) ↔ ProcessorEdge ts e

abbrev pub GraphSerial : Type 0
GraphSerial = (g : Graph) → Serial (count g) (edges g)

-- ── 2. Runs ──

-- Without a zero-delay cycle the computed starts are the earliest run, for every number of turns and all durations of at least one.
abbrev pub EarliestRun : Type 0
EarliestRun =
    (n : ℕ) (es : List Edge) → Ends n es → NoZeroCycle es → (K : ℕ) (dur : Times) → AtLeastOne n K dur → Earliest n es K (earliest n es dur) dur

-- There is one earliest run only.
abbrev pub EarliestUnique : Type 0
EarliestUnique =
    (n : ℕ) (es : List Edge) (K : ℕ) (start start' dur : Times) → Earliest n es K start dur → Earliest n es K start' dur →
    (v k : ℕ) → v < n → 1 ≤ k → k ≤ K → start v k ≡ start' v k

-- Starts that keep every edge and are nowhere above the earliest are the earliest.
abbrev pub EarliestReached : Type 0
EarliestReached =
    (n : ℕ) (es : List Edge) (K : ℕ) (start dur : Times) → Allows n es K start dur →
    ((v k : ℕ) → v < n → 1 ≤ k → k ≤ K → start v k ≤ earliest n es dur v k) →
    (v k : ℕ) → v < n → 1 ≤ k → k ≤ K → start v k ≡ earliest n es dur v k

-- A graph never stalls exactly if it has no zero-delay cycle.
abbrev pub NeverStallsIff : Type 0
NeverStallsIff = (n : ℕ) (es : List Edge) → Ends n es → NeverStalls n es ↔ NoZeroCycle es

-- ── 3 and 4. Orders ──

-- Each edge of es has in rs a least delay at most its own exactly if every run that rs allows, of every number of turns, is allowed by es.
abbrev pub OrdersIff : Type 0
OrdersIff =
    (n : ℕ) (es rs : List Edge) → Ends n rs → Serial n rs → NoZeroCycle rs → AllHeld rs es ↔ RunsAllowed n rs es

-- Where an order is lost, a run of that edge's delay + 1 turns shows it.
abbrev pub OrderLost : Type 0
OrderLost =
    (n : ℕ) (rs : List Edge) → Ends n rs → NoZeroCycle rs → (e : Edge) → (OrderHeld rs e → ⊥) →
    (start : Times) × (dur : Times) × Allows n rs (suc e.delay) start dur × (Keeps (suc e.delay) start dur e → ⊥)

-- Some order is lost exactly if some run that rs allows breaks es.
abbrev pub LostIff : Type 0
LostIff =
    (n : ℕ) (es rs : List Edge) → Ends n rs → Serial n rs → NoZeroCycle rs → SomeLost rs es ↔ SomeRunBreaks n rs es

-- ── 5. Latency ──

-- The computed latency is that of document 01, and there is one only.
abbrev pub LatencyIs : Type 0
LatencyIs = (n : ℕ) (es : List Edge) → Ends n es → NoZeroCycle es → (time : ℕ → ℕ) (output : ℕ) → Latency es time output (latency n es time output)

abbrev pub LatencyUnique : Type 0
LatencyUnique = (es : List Edge) (time : ℕ → ℕ) (output l l' : ℕ) → Latency es time output l → Latency es time output l' → l ≡ l'

-- In the earliest run the output's first turn ends by the latency whenever no first turn exceeds its estimate, whatever later turns take.
abbrev pub FirstOutput : Type 0
FirstOutput =
    (n : ℕ) (es : List Edge) → Ends n es → (K : ℕ) (start dur : Times) (time : ℕ → ℕ) (output l : ℕ) → 1 ≤ K → output < n →
    Earliest n es K start dur → ((v : ℕ) → v < n → dur v 1 ≤ time v) → Latency es time output l → ends start dur output 1 ≤ l

-- At the estimates it ends exactly then.
abbrev pub FirstOutputExact : Type 0
FirstOutputExact =
    (n : ℕ) (es : List Edge) → Ends n es → (K : ℕ) (start : Times) (time : ℕ → ℕ) (output : ℕ) → 1 ≤ K → output < n →
    Earliest n es K start (estimates time) → Latency es time output (ends start (estimates time) output 1)

-- A graph misses the bound at the estimates exactly if its latency is above the bound.
abbrev pub MissesBoundIff : Type 0
MissesBoundIff =
    (g : Graph) → Ends (count g) g.syncs → NoZeroCycle (edges g) → ((v : ℕ) → v < count g → 1 ≤ time_of g v) → g.output < count g →
    MissesBound g ↔ (g.bound < latency_of g)

-- ── 6. Results of proposals ──

-- The result holds the processor edges, the feedback edges of the graph and the proposed edges, and nothing else.
abbrev pub ResultHas : Type 0
ResultHas =
    (g : Graph) → Ends (count g) g.syncs → (proposed : List Edge) (e : Edge) →
    (e ∈ edges (result g proposed)) ↔ (ProcessorEdge g.tasks e ⊎ ((e ∈ g.syncs × Feedback g e) ⊎ e ∈ proposed))

-- It drops every feedforward edge that is not proposed anew.
abbrev pub ResultDrops : Type 0
ResultDrops =
    (g : Graph) → Ends (count g) g.syncs → (proposed : List Edge) (e : Edge) → Feedforward g e → e ∈ edges (result g proposed) → e ∈ proposed

-- "A proposed edge within one processor lies on a cycle, so that check finds it."
abbrev pub WithinProcessor : Type 0
WithinProcessor =
    (g : Graph) (proposed : List Edge) → Ends (count g) proposed → (e : Edge) → e ∈ proposed →
    processor_of g.tasks e.source ≡ processor_of g.tasks e.sink → OnCycle (edges (result g proposed)) e

-- What the next five theorems assume: ends that are tasks, no zero-delay cycle in the original, no proposed edge on a cycle of the result.
pub record OffCycles (g : Graph) (proposed : List Edge) : Type 0 where
  pub sync_ends : Ends (count g) g.syncs
  pub proposed_ends : Ends (count g) proposed
  pub no_zero_cycle : NoZeroCycle (edges g)
  pub off_cycles : NoneOnCycle (edges (result g proposed)) proposed

abbrev pub ResultCycles : Type 0
ResultCycles = (g : Graph) (proposed : List Edge) → OffCycles g proposed → SameCycles (edges g) (edges (result g proposed))

abbrev pub ResultNeverStalls : Type 0
ResultNeverStalls = (g : Graph) (proposed : List Edge) → OffCycles g proposed → NeverStalls (count g) (edges (result g proposed))

abbrev pub ResultOrders : Type 0
ResultOrders =
    (g : Graph) (proposed : List Edge) → OffCycles g proposed →
    AllHeld (edges (result g proposed)) (edges g) ↔ RunsAllowed (count g) (edges (result g proposed)) (edges g)

abbrev pub ResultLost : Type 0
ResultLost =
    (g : Graph) (proposed : List Edge) → OffCycles g proposed →
    SomeLost (edges (result g proposed)) (edges g) ↔ SomeRunBreaks (count g) (edges (result g proposed)) (edges g)

abbrev pub ResultMisses : Type 0
ResultMisses =
    (g : Graph) (proposed : List Edge) → OffCycles g proposed → ((v : ℕ) → v < count g → 1 ≤ time_of g v) → g.output < count g →
    MissesBound (result g proposed) ↔ (g.bound < latency_of (result g proposed))

-- Demand 3 for the result of an accepted proposal: the original allows every run that the result allows; the result never stalls, has the
-- same cycles and an earliest run, and in it the output's first turn ends by the bound, whatever later turns take, if no first turn exceeds its
-- estimate.
pub record Resynchronizes (g r : Graph) : Type 0 where
  pub runs_allowed : RunsAllowed (count g) (edges r) (edges g)
  pub never_stalls : NeverStalls (count g) (edges r)
  pub cycles : SameCycles (edges g) (edges r)
  -- "if tasks start as early as allowed": they can, for every number of turns and all durations of at least one
  pub earliest_exists : (K : ℕ) (dur : Times) → AtLeastOne (count g) K dur → (start : Times) × Earliest (count g) (edges r) K start dur
  pub in_time :
      (K : ℕ) (start dur : Times) → 1 ≤ K → Earliest (count g) (edges r) K start dur → ((v : ℕ) → v < count g → dur v 1 ≤ time_of g v) →
      ends start dur g.output 1 ≤ g.bound

abbrev pub AcceptedResult : Type 0
AcceptedResult =
    (g : Graph) (proposed : List Edge) → AcceptedGraph g → WellFormedEdges (count g) proposed → AcceptedProposal g proposed → Resynchronizes g (result g proposed)

-- A well-formed proposal whose edges lie on no cycle of its result is accepted exactly if the original allows every run that the result
-- allows and the result does not miss the bound at the estimates.
abbrev pub AcceptedIff : Type 0
AcceptedIff =
    (g : Graph) (proposed : List Edge) → AcceptedGraph g → WellFormedEdges (count g) proposed →
    NoneOnCycle (edges (result g proposed)) proposed →
    AcceptedProposal g proposed ↔ (RunsAllowed (count g) (edges (result g proposed)) (edges g) × (MissesBound (result g proposed) → ⊥))

-- ── 7. Redundant edges, dropped together ──

-- Whatever redundant edges are dropped at once, every order of the graph is still held.
abbrev pub DroppedTogether : Type 0
DroppedTogether =
    (g : Graph) → Ends (count g) g.syncs → NoZeroCycle (edges g) → Distinct g.syncs → (marked : ℕ → Bool) →
    ((i : ℕ) → i < length g.syncs → T (marked i) → Redundant g i) → AllHeld (edges (dropping g marked)) (edges g)

-- ── Bounds ──

-- A least delay is at most the largest delay of an edge (255 in a file) times the number of tasks.
abbrev pub LeastBound : Type 0
LeastBound =
    (n m : ℕ) (es : List Edge) → Ends n es → ((e : Edge) → e ∈ es → e.delay ≤ m) → (a b d : ℕ) → Least es a b (some d) → d ≤ m * n

-- A sum of times along a path of delay 0 is at most the sum of all times.
abbrev pub ZeroSumBound : Type 0
ZeroSumBound =
    (n : ℕ) (es : List Edge) → Ends n es → NoZeroCycle es → (time : ℕ → ℕ) (a b : ℕ) (p : List Edge) → a < n → ZeroWalk es a p b →
    times_along time a p ≤ sum_below n time

-- At the estimates turn k of a task ends by k times the sum of all times.
abbrev pub StartBound : Type 0
StartBound =
    (n : ℕ) (es : List Edge) → Ends n es → NoZeroCycle es → (time : ℕ → ℕ) → ((v : ℕ) → v < n → 1 ≤ time v) → (v k : ℕ) → v < n → 1 ≤ k →
    ends (earliest n es (estimates time)) (estimates time) v k ≤ k * sum_below n time
