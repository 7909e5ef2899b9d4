-- Document 01, "Tasks, turns and edges": tasks, edges, processor edges.
use Rattle.std.specs.Prelude.{◌≡◌, ◌≢◌, ℕ, ◌<◌, length, get_or}
use mathlib.Core.List.{List, [], ◌∷◌, Memᴰ}

-- "each on a processor 0 to 15, with an estimated time of 1 to 65,535 units"
pub record Task : Type 0 where
  pub processor : ℕ
  pub time : ℕ

-- "An edge from a to b of delay d"
pub record Edge : Type 0 where
  pub source : ℕ
  pub sink : ℕ
  pub delay : ℕ

-- an edge of its three numbers
abbrev pub edge : ℕ → ℕ → ℕ → Edge
edge source sink delay = record { source = source; sink = sink; delay = delay }

-- e stands in the list es
infix 4 ◌∈◌
abbrev pub ◌∈◌ : Edge → List Edge → Type 0
e ∈ es = Memᴰ e es

-- Every edge of es joins two of n tasks.
abbrev pub Ends : ℕ → List Edge → Type 0
Ends n es = (e : Edge) → e ∈ es → (e.source < n) × (e.sink < n)

-- "same source, sink and delay as an earlier edge": a list in which this never happens
abbrev pub Distinct : List Edge → Type 0
Distinct [] = Unit {0}
Distinct (e ∷ es) = (e ∈ es → ⊥) × Distinct es

-- what stands at a place where no task or edge is
abbrev pub no_task : Task
no_task = record { processor = 0; time = 0 }

abbrev pub no_edge : Edge
no_edge = record { source = 0; sink = 0; delay = 0 }

unfoldable pub processor_of : List Task → ℕ → ℕ
processor_of ts v = (get_or ts v no_task).processor

-- "Tasks of a processor run in ascending task number."
-- w is "the next on its processor" after v
pub record Next (ts : List Task) (v w : ℕ) : Type 0 where
  pub later : v < w
  pub present : w < length ts
  pub same : processor_of ts w ≡ processor_of ts v
  pub none_between : (u : ℕ) → v < u → u < w → processor_of ts u ≢ processor_of ts v

-- v is "the last" on its processor
abbrev pub Last : List Task → ℕ → Type 0
Last ts v = (u : ℕ) → v < u → u < length ts → processor_of ts u ≢ processor_of ts v

-- w is "the first" on the processor of v
pub record First (ts : List Task) (v w : ℕ) : Type 0 where
  pub present : w < length ts
  pub same : processor_of ts w ≡ processor_of ts v
  pub none_before : (u : ℕ) → u < w → processor_of ts u ≢ processor_of ts v

-- "processor edges: delay 0 from each task to the next on its processor, and delay 1 from the last to the first (a lone task has an
-- edge to itself)"
pub data ProcessorEdge (ts : List Task) (e : Edge) : Type 0 where
  onward : e.source < length ts → Next ts e.source e.sink → e.delay ≡ 0 → ProcessorEdge ts e
  around : e.source < length ts → Last ts e.source → First ts e.source e.sink → e.delay ≡ 1 → ProcessorEdge ts e
