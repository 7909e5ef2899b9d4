-- Document 01, "Tasks, turns and edges": paths, cycles, least delays, redundant and feedback edges, latency, conditions on the latency input.
-- All over any edge list; a graph's is `edges g`.
use Rattle.std.specs.Prelude.{◌≡◌, ◌↔◌, ◌≢◌, List, [], ◌∷◌, ◌++◌, ℕ, ◌+◌, ◌≤◌, ◌<◌, length, get_or}
use Rattle.std.proofs.Math.Option.{Option, none, some}
use Rattle.model.specs.Lists.{without}
use Rattle.model.specs.Tasks.{Edge, ◌∈◌, no_edge}
use Rattle.model.specs.Processors.{processor_edges}
use Rattle.model.specs.Graph.{Graph, edges}

-- sum of delays along a list of edges (000, formula (1))
unfoldable pub total : List Edge → ℕ
total [] = 0
total (e ∷ p) = e.delay + total p

-- The list p of edges of es leads from a to b: each edge starts where the one before it ends. It may be empty.
pub data Walk (es : List Edge) : ℕ → List Edge → ℕ → Type 0 where
  stop : {a b : ℕ} → a ≡ b → Walk es a [] b
  step : {a b : ℕ} {e : Edge} {p : List Edge} → e ∈ es → e.source ≡ a → Walk es e.sink p b → Walk es a (e ∷ p) b

-- a path "of one or more edges" from a to b with sum of delays d
pub record Path (es : List Edge) (a b d : ℕ) : Type 0 where
  pub first : Edge
  pub rest : List Edge
  pub walk : Walk es a (first ∷ rest) b
  pub sum : total (first ∷ rest) ≡ d

-- "The least delay from a to b is the smallest sum of delays over paths of one or more edges, or none if there is no path."
pub data Least (es : List Edge) (a b : ℕ) : Option ℕ → Type 0 where
  smallest : {d : ℕ} → Path es a b d → ((d' : ℕ) → Path es a b d' → d ≤ d') → Least es a b (some d)
  no-path : ((d : ℕ) → Path es a b d → ⊥) → Least es a b none

-- The ends of e "have in" es "a least delay at most that edge's own".
abbrev pub OrderHeld : List Edge → Edge → Type 0
OrderHeld es e = (d : ℕ) × Least es e.source e.sink (some d) × (d ≤ e.delay)

-- every edge of es has its order held in rs
abbrev pub AllHeld : List Edge → List Edge → Type 0
AllHeld rs es = (e : Edge) → e ∈ es → OrderHeld rs e

-- refusal 14: "an original order lost"
abbrev pub SomeLost : List Edge → List Edge → Type 0
SomeLost rs es = (e : Edge) × e ∈ es × (OrderHeld rs e → ⊥)

-- the edges of g with its synchronization edge number i (from 0) removed, the others kept
unfoldable pub edges_without : Graph → ℕ → List Edge
unfolding without
edges_without g i = processor_edges g.tasks ++ without i g.syncs

-- synchronization edge number i, counted from 0 (its place less 1)
unfoldable pub sync_at : Graph → ℕ → Edge
sync_at g i = get_or g.syncs i no_edge

-- "A synchronization edge is redundant if, without it, the least delay between its ends is at most its own."
abbrev pub Redundant : Graph → ℕ → Type 0
Redundant g i = (i < length g.syncs) × OrderHeld (edges_without g i) (sync_at g i)

-- "A cycle is a path of one or more edges that ends where it begins."
pub data Cycle (es : List Edge) : List Edge → Type 0 where
  cycle : {a : ℕ} {e : Edge} {p : List Edge} → Walk es a (e ∷ p) a → Cycle es (e ∷ p)

-- e "lies on a cycle"
abbrev pub OnCycle : List Edge → Edge → Type 0
OnCycle es e = (p : List Edge) × Cycle es p × e ∈ p

-- no edge of the list lies on a cycle of rs (otherwise refusal 13)
abbrev pub NoneOnCycle : List Edge → List Edge → Type 0
NoneOnCycle rs es = (e : Edge) → e ∈ es → OnCycle rs e → ⊥

-- "It is feedback if it lies on a cycle, otherwise feedforward."
abbrev pub Feedback : Graph → Edge → Type 0
Feedback g e = OnCycle (edges g) e

abbrev pub Feedforward : Graph → Edge → Type 0
Feedforward g e = OnCycle (edges g) e → ⊥

-- refusal 9: "a cycle of total delay 0"
abbrev pub ZeroCycle : List Edge → Type 0
ZeroCycle es = (p : List Edge) × Cycle es p × (total p ≡ 0)

abbrev pub NoZeroCycle : List Edge → Type 0
NoZeroCycle es = ZeroCycle es → ⊥

-- "Two graphs have the same cycles if each cycle of either, taken edge by edge as source, sink and delay, is one of the other."
abbrev pub SameCycles : List Edge → List Edge → Type 0
SameCycles es rs = (p : List Edge) → Cycle es p ↔ Cycle rs p

-- the sum of the tasks' times along a walk that begins at a, its first and its last task included
unfoldable pub times_along : (ℕ → ℕ) → ℕ → List Edge → ℕ
times_along time a [] = time a
times_along time a (e ∷ p) = time a + times_along time e.sink p

-- a path of delay-0 edges, or none, from a to b (of whole numbers that add up to 0, each is 0)
abbrev pub ZeroWalk : List Edge → ℕ → List Edge → ℕ → Type 0
ZeroWalk es a p b = Walk es a p b × (total p ≡ 0)

-- "Latency is the largest sum of estimated times along a path of delay-0 edges that ends at the latency output, the output's time
-- included. The path may begin at any task, and may be the output alone."
pub record Latency (es : List Edge) (time : ℕ → ℕ) (output l : ℕ) : Type 0 where
  pub reached : (a : ℕ) × (p : List Edge) × ZeroWalk es a p output × (times_along time a p ≡ l)
  pub largest : (a : ℕ) (p : List Edge) → ZeroWalk es a p output → times_along time a p ≤ l

-- "The latency input must have no incoming edge of delay 0" (otherwise refusal 10)
abbrev pub InputFree : List Edge → ℕ → Type 0
InputFree es input = (e : Edge) → e ∈ es → e.sink ≡ input → e.delay ≢ 0

-- "and a path of delay 0 must lead from it to the output" (refusal 11: "input equals output, or no path of delay 0 joins them")
abbrev pub Joined : List Edge → ℕ → ℕ → Type 0
Joined es input output = (input ≢ output) × Path es input output 0

-- Every task has a path to itself of delay 1: its processor's own cycle. (`processor-serial` proves it of every graph.)
abbrev pub Serial : ℕ → List Edge → Type 0
Serial n es = (v : ℕ) → v < n → Path es v v 1
