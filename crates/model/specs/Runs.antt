-- Document 01, "Tasks, turns and edges": runs, what a graph allows, stalls, the earliest run, missing the bound.
use Rattle.std.specs.Prelude.{List, ℕ, ◌+◌, ◌-◌, ◌≤◌, ◌<◌}
use Rattle.model.specs.Tasks.{Edge, ◌∈◌}
use Rattle.model.specs.Graph.{Graph, edges, count, time_of}

-- starts, or durations: a whole number for every task and turn. "Turns count from 1."
abbrev pub Times : Type 0
Times = ℕ → ℕ → ℕ

-- "end is start plus duration"
abbrev pub ends : Times → Times → Times
ends start dur v k = start v k + dur v k

-- "a duration of at least 1", for each of n tasks and K turns
abbrev pub AtLeastOne : ℕ → ℕ → Times → Type 0
AtLeastOne n K dur = (v k : ℕ) → v < n → 1 ≤ k → k ≤ K → 1 ≤ dur v k

-- "An edge from a to b of delay d says, for every turn k greater than d: turn k of b starts no earlier than turn k − d of a ends."
abbrev pub Keeps : ℕ → Times → Times → Edge → Type 0
Keeps K start dur e = (k : ℕ) → e.delay < k → k ≤ K → ends start dur e.source (k - e.delay) ≤ start e.sink k

-- "A run of K turns gives every task and turn a start (a whole number from 0) and a duration of at least 1, satisfying every edge".
-- "A graph allows the runs that satisfy all its edges".
pub record Allows (n : ℕ) (es : List Edge) (K : ℕ) (start dur : Times) : Type 0 where
  pub positive : AtLeastOne n K dur
  pub keeps : (e : Edge) → e ∈ es → Keeps K start dur e

-- "a run breaks a graph of the same tasks that does not allow it"
abbrev pub Breaks : ℕ → List Edge → ℕ → Times → Times → Type 0
Breaks n es K start dur = Allows n es K start dur → ⊥

-- Demand 3, of a result rs and its original es: "for every number of turns, whatever time of at least one each task takes in each turn, the
-- original allows every run that the result allows"
abbrev pub RunsAllowed : ℕ → List Edge → List Edge → Type 0
RunsAllowed n rs es = (K : ℕ) (start dur : Times) → Allows n rs K start dur → Allows n es K start dur

-- demand 3: "some run the result allows breaks the original"
abbrev pub SomeRunBreaks : ℕ → List Edge → List Edge → Type 0
SomeRunBreaks n rs es = (K : ℕ) × (start : Times) × (dur : Times) × Allows n rs K start dur × Breaks n es K start dur

-- "A graph never stalls if it has a run for every number of turns and all durations of at least 1."
abbrev pub NeverStalls : ℕ → List Edge → Type 0
NeverStalls n es = (K : ℕ) (dur : Times) → AtLeastOne n K dur → (start : Times) × Allows n es K start dur

-- "the earliest run is the allowed run with these durations in which no turn of a task starts later than in any other such run"
pub record Earliest (n : ℕ) (es : List Edge) (K : ℕ) (start dur : Times) : Type 0 where
  pub allowed : Allows n es K start dur
  pub least : (other : Times) → Allows n es K other dur → (v k : ℕ) → v < n → 1 ≤ k → k ≤ K → start v k ≤ other v k

-- "every duration the estimated time"
abbrev pub estimates : (ℕ → ℕ) → Times
estimates time v k = time v

-- "At the estimates a graph misses the bound if, in its earliest run of one turn with every duration the estimated time, the output
-- ends after the bound."
abbrev pub MissesBound : Graph → Type 0
MissesBound g =
    (start : Times) × Earliest (count g) (edges g) 1 start (estimates (time_of g)) × (g.bound < ends start (estimates (time_of g)) g.output 1)
