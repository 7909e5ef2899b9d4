-- What 13 to 15 mean, as statements: the numbers' conditions in demand 3's words. proofs/Meanings.antt proves them.
use Rattle.std.specs.Prelude.{◌≡◌, ◌↔◌, List, ℕ}
use Rattle.model.specs.Tasks.{Edge, ◌∈◌}
use Rattle.model.specs.Graph.{Graph, WellFormedEdges, count, edges, time_of}
use Rattle.model.specs.Paths.{OnCycle, NoneOnCycle, Latency}
use Rattle.model.specs.Runs.{RunsAllowed, SomeRunBreaks, MissesBound}
use Rattle.model.specs.Compute.{latency_of}
use Rattle.model.specs.Proposals.{result, AcceptedGraph, AcceptedProposal}
use Rattle.judgement.specs.Judgement.{judged_refusal}

-- What a proposal's result has, or lacks, that gets each number: in demand 3's words, "refused as losing an order exactly when some run the result
-- allows breaks the original, as late exactly when none does but at the estimates the result misses the bound, and is accepted otherwise".
pub data Sentenced (g : Graph) (proposed : List Edge) : ℕ → Type 0 where
  cycle_made : {m : ℕ} → m ≡ 13 → (e : Edge) → e ∈ proposed → OnCycle (edges (result g proposed)) e → Sentenced g proposed m
  order_lost :
      {m : ℕ} → m ≡ 14 → NoneOnCycle (edges (result g proposed)) proposed →
      SomeRunBreaks (count g) (edges (result g proposed)) (edges g) → Sentenced g proposed m
  late :
      {m : ℕ} → m ≡ 15 → NoneOnCycle (edges (result g proposed)) proposed →
      RunsAllowed (count g) (edges (result g proposed)) (edges g) → MissesBound (result g proposed) → Sentenced g proposed m
  accepted :
      {m : ℕ} → m ≡ 0 → NoneOnCycle (edges (result g proposed)) proposed →
      RunsAllowed (count g) (edges (result g proposed)) (edges g) → (MissesBound (result g proposed) → ⊥) → Sentenced g proposed m

-- Proposed edges get a number of 13 to 15, or 0, exactly if the result's cycles, runs and lateness call for it.
abbrev pub SentencedIff : Type 0
SentencedIff =
    (g : Graph) (proposed : List Edge) → AcceptedGraph g → WellFormedEdges (count g) proposed →
    (m : ℕ) → ((judged_refusal g proposed).number ≡ m) ↔ Sentenced g proposed m

-- They are accepted exactly if they are so by 01's own conditions, on paths.
abbrev pub AcceptedByPaths : Type 0
AcceptedByPaths =
    (g : Graph) (proposed : List Edge) → AcceptedGraph g → WellFormedEdges (count g) proposed →
    ((judged_refusal g proposed).number ≡ 0) ↔ AcceptedProposal g proposed

-- The latency that is told is that of the result, where no proposed edge lies on a cycle of it.
abbrev pub JudgedLatency : Type 0
JudgedLatency =
    (g : Graph) (proposed : List Edge) → AcceptedGraph g → WellFormedEdges (count g) proposed → NoneOnCycle (edges (result g proposed)) proposed →
    Latency (edges (result g proposed)) (time_of g) g.output (latency_of (result g proposed))
