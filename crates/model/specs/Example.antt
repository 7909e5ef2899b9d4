-- Document 01, "Example desk": the desk, and what the definitions must make of it. proofs/Example.antt has each by computation alone.
use Rattle.std.specs.Prelude.{◌≡◌, true, false, List, [], ◌∷◌, ℕ, suc}
use Rattle.std.proofs.Math.Option.{Option, none, some}
use Rattle.model.specs.Lists.{tabulate, always}
use Rattle.model.specs.Tasks.{Task, Edge, ◌∈◌, Ends, edge}
use Rattle.model.specs.Graph.{Graph, edges, count, time_of}
use Rattle.model.specs.Paths.{NoZeroCycle, OnCycle, OrderHeld, AllHeld, Redundant}
use Rattle.model.specs.Runs.{RunsAllowed, SomeRunBreaks, MissesBound, estimates}
use Rattle.model.specs.Compute.{least_delay, is_redundant, earliest, latency_of}
use Rattle.model.specs.Proposals.{result, dropping}
use Rattle.model.specs.Plan.{plan_of, plan_latency}

abbrev pub task : ℕ → ℕ → Task
task p t = record { processor = p; time = t }

-- "Tasks 0, 1 on processor 0 (times 2, 3); 2, 3 on processor 1 (1, 4). Edges 0→2, 1→3, 0→3, delay 0. Input 0, output 3, bound 12."
abbrev pub desk_bound : ℕ → Graph
desk_bound l =
    record {
      tasks = task 0 2 ∷ task 0 3 ∷ task 1 1 ∷ task 1 4 ∷ [];
      syncs = edge 0 2 0 ∷ edge 1 3 0 ∷ edge 0 3 0 ∷ [];
      input = 0;
      output = 3;
      bound = l;
    }

abbrev pub desk : Graph
desk = desk_bound 12

-- "Proposal bytes for 1→2, delay 0"
abbrev pub proposal : List Edge
proposal = edge 1 2 0 ∷ []

abbrev pub delays : Graph → List (List (Option ℕ))
delays g = tabulate (count g) (λ a. tabulate (count g) (least_delay (count g) (edges g) a))

-- "row 0 is 1 0 0 0; row 1 is 1 1 1 0; row 2 none none 1 0; row 3 none none 1 1"
abbrev pub DeskDelays : Type 0
DeskDelays =
    delays desk ≡
    (some 1 ∷ some 0 ∷ some 0 ∷ some 0 ∷ []) ∷
    (some 1 ∷ some 1 ∷ some 1 ∷ some 0 ∷ []) ∷
    (none ∷ none ∷ some 1 ∷ some 0 ∷ []) ∷
    (none ∷ none ∷ some 1 ∷ some 1 ∷ []) ∷ []

-- processor edges first, then the file's
abbrev pub DeskEdges : Type 0
DeskEdges = edges desk ≡ edge 0 1 0 ∷ edge 1 0 1 ∷ edge 2 3 0 ∷ edge 3 2 1 ∷ edge 0 2 0 ∷ edge 1 3 0 ∷ edge 0 3 0 ∷ []

-- "redundant 1 3": one edge, at place 3
abbrev pub DeskRedundant : Type 0
DeskRedundant = tabulate 4 (is_redundant desk) ≡ false ∷ false ∷ true ∷ false ∷ []

-- "graph 4 3 9": latency 9
abbrev pub DeskLatency : Type 0
DeskLatency = latency_of desk ≡ 9

-- "starts: 0 2 2 5, then 5 7 9 10"
abbrev pub DeskStarts : Type 0
DeskStarts =
    tabulate 2 (λ k. tabulate 4 (λ v. earliest 4 (edges desk) (estimates (time_of desk)) v (suc k))) ≡
    (0 ∷ 2 ∷ 2 ∷ 5 ∷ []) ∷ (5 ∷ 7 ∷ 9 ∷ 10 ∷ []) ∷ []

-- every edge of the desk's file is feedforward, so the result holds the proposed one alone
abbrev pub DeskResult : Type 0
DeskResult = (result desk proposal).syncs ≡ proposal

-- "accepted 10 2": latency 10
abbrev pub ResultLatency : Type 0
ResultLatency = latency_of (result desk proposal) ≡ 10

-- ── Each refusal of a proposal, met ──

-- "0→2, 1→3, and 3→0 with delay 1: 13, place 1, 2 or 3": each of the three lies on a cycle of the result; 02 (iv) gives the first
abbrev pub looped : List Edge
looped = edge 0 2 0 ∷ edge 1 3 0 ∷ edge 3 0 1 ∷ []

abbrev pub DeskOnCycle : Type 0
DeskOnCycle = (e : Edge) → e ∈ looped → OnCycle (edges (result desk looped)) e

-- "empty proposal: 14, place 1": the first order is lost, and so some run of the waits that are left breaks the desk
abbrev pub DeskEmptyLoses : Type 0
DeskEmptyLoses = (OrderHeld (edges (result desk [])) (edge 0 2 0) → ⊥) × SomeRunBreaks 4 (edges (result desk [])) (edges desk)

-- "only 0→2: 14, place 2": the first order is held, the second lost
abbrev pub DeskFirstOnlyLoses : Type 0
DeskFirstOnlyLoses =
    OrderHeld (edges (result desk (edge 0 2 0 ∷ []))) (edge 0 2 0) × (OrderHeld (edges (result desk (edge 0 2 0 ∷ []))) (edge 1 3 0) → ⊥)

-- "1→2 with delay 1: 14, place 1"
abbrev pub DeskDelayedLoses : Type 0
DeskDelayedLoses = OrderHeld (edges (result desk (edge 1 2 1 ∷ []))) (edge 0 2 0) → ⊥

-- "bound 10: accepted, margin 0", "bound 9: refusal 15, latency 10"
abbrev pub DeskLate : Type 0
DeskLate = (MissesBound (result (desk_bound 10) proposal) → ⊥) × MissesBound (result (desk_bound 9) proposal)

-- ── The plan ──

-- "plan: 1→2, one step, latency 10"
abbrev pub DeskPlan : Type 0
DeskPlan = (plan_of desk ≡ record { list = edge 1 2 0 ∷ []; steps = 1 }) × (plan_latency desk ≡ 10)

-- "at bound 9: 0→2, 1→3, no step"
abbrev pub DeskPlanAtNine : Type 0
DeskPlanAtNine = (plan_of (desk_bound 9) ≡ record { list = edge 0 2 0 ∷ edge 1 3 0 ∷ []; steps = 0 }) × (plan_latency (desk_bound 9) ≡ 9)

-- ── What the theorems cannot do without ──

-- The customer's accident: two equal waits. Each is redundant on the strength of the other, and with both dropped the order is lost.
abbrev pub twins : Graph
twins = record { tasks = task 0 1 ∷ task 1 1 ∷ []; syncs = edge 0 1 0 ∷ edge 0 1 0 ∷ []; input = 0; output = 1; bound = 2 }

abbrev pub EqualEdgesNeedRefusal : Type 0
EqualEdgesNeedRefusal = Redundant twins 0 × Redundant twins 1 × (OrderHeld (edges (dropping twins always)) (edge 0 1 0) → ⊥)

-- Without the tasks' own cycles a least delay at most an edge's own would not keep its order.
abbrev pub SerialIsNeeded : Type 0
SerialIsNeeded =
    ((n : ℕ) (es rs : List Edge) → Ends n rs → NoZeroCycle rs → AllHeld rs es → RunsAllowed n rs es) → ⊥
