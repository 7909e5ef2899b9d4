-- What refusals 9 to 12 and 16 mean, as statements. proofs/Judged.antt proves them, but for RefusedBefore and JudgedAfter (proofs/Accepting.antt), and the
-- last three (proofs/Rooms.antt).
use Rattle.std.specs.Prelude.{◌≡◌, ◌↔◌, ◌≢◌, List, ℕ, ◌≤◌, ◌<◌, pos}
use Rattle.model.specs.Tasks.{Edge, ◌∈◌}
use Rattle.model.specs.Graph.{Graph, WellFormed, count, edges, time_of}
use Rattle.model.specs.Paths.{ZeroCycle, NoZeroCycle, InputFree, Joined, Latency}
use Rattle.model.specs.Runs.{NeverStalls}
use Rattle.model.specs.Proposals.{AcceptedGraph}
use Rattle.files.specs.declared.Refusal.{Refusal}
use Rattle.files.specs.Files.{graph_of, graph_refusal}
use Rattle.files.specs.Refusals.{not_refused}
use Rattle.acceptance.specs.Acceptance.{schedule_refusal, acceptance_refusal}
use Rattle.acceptance.specs.Outcomes.{outcome, room_refusal}

-- What a graph has, or lacks, that gets each number: the numbers' conditions in 01's words, each where those before it do not hold; 0 is none.
pub data Judged (g : Graph) : ℕ → Type 0 where
  zero-cycle : {m : ℕ} → m ≡ 9 → ZeroCycle (edges g) → Judged g m
  input_waits :
      {m : ℕ} → m ≡ 10 → NoZeroCycle (edges g) → (e : Edge) → e ∈ edges g → e.sink ≡ g.input → e.delay ≡ 0 → Judged g m
  not_joined :
      {m : ℕ} → m ≡ 11 → NoZeroCycle (edges g) → InputFree (edges g) g.input → (Joined (edges g) g.input g.output → ⊥) → Judged g m
  bound_below :
      {m : ℕ} → m ≡ 12 → NoZeroCycle (edges g) → InputFree (edges g) g.input → Joined (edges g) g.input g.output →
      (l : ℕ) → Latency (edges g) (time_of g) g.output l → g.bound < l → Judged g m
  passes :
      {m : ℕ} → m ≡ 0 → NoZeroCycle (edges g) → InputFree (edges g) g.input → Joined (edges g) g.input g.output →
      (l : ℕ) → Latency (edges g) (time_of g) g.output l → l ≤ g.bound → Judged g m

-- A graph whose file passes up to 8 gets a number of 9 to 12, or 0, exactly if its paths and latency call for it.
abbrev pub JudgedIff : Type 0
JudgedIff = (g : Graph) → WellFormed g → (m : ℕ) → ((schedule_refusal g).number ≡ m) ↔ Judged g m

-- 9 to 12 name no place.
abbrev pub NoPlace : Type 0
NoPlace = (g : Graph) → (schedule_refusal g).place ≡ 0

-- 9 comes exactly if the graph can stall.
abbrev pub NineIffStalls : Type 0
NineIffStalls = (g : Graph) → WellFormed g → ((schedule_refusal g).number ≡ 9) ↔ (NeverStalls (count g) (edges g) → ⊥)

-- A file that one of 1 to 8 refuses gets that refusal, with its place.
abbrev pub RefusedBefore : Type 0
RefusedBefore = (s : List ℕ) → (graph_refusal s).number ≢ 0 → acceptance_refusal s ≡ graph_refusal s

-- Every other file gets what its graph gets.
abbrev pub JudgedAfter : Type 0
JudgedAfter = (s : List ℕ) → (graph_refusal s).number ≡ 0 → acceptance_refusal s ≡ schedule_refusal (graph_of s)

-- The file's graph is accepted: none of 1 to 8 refuses the file, and the graph passes 9 to 12.
abbrev pub AcceptedFile : List ℕ → Type 0
AcceptedFile s = ((graph_refusal s).number ≡ 0) × AcceptedGraph (graph_of s)

-- A file is refused by none of 1 to 12 exactly if none of 1 to 8 refuses it and its graph is accepted.
abbrev pub AcceptedIffPassed : Type 0
AcceptedIffPassed = (s : List ℕ) → ((acceptance_refusal s).number ≡ 0) ↔ AcceptedFile s

-- Each number from 9 on comes exactly if none of 1 to 8 refuses the file and its graph is judged so.
abbrev pub RefusedIffJudged : Type 0
RefusedIffJudged = (s : List ℕ) (m : ℕ) → 9 ≤ m → ((acceptance_refusal s).number ≡ m) ↔ (((graph_refusal s).number ≡ 0) × Judged (graph_of s) m)

-- Where nothing is refused there is no place.
abbrev pub SuccessPlain : Type 0
SuccessPlain = (s : List ℕ) → (acceptance_refusal s).number ≡ 0 → acceptance_refusal s ≡ not_refused

-- 16 names no place.
abbrev pub ShortNoPlace : Type 0
ShortNoPlace = (needed room : ℕ) → (room_refusal needed room).place ≡ 0

-- An outcome has the number and the place of its refusal, and no latency and no margin.
abbrev pub OutcomePlain : Type 0
OutcomePlain = (r : Refusal) → ((outcome r).number ≡ r.number) × ((outcome r).place ≡ r.place) × ((outcome r).latency ≡ 0) × ((outcome r).margin ≡ pos 0)
