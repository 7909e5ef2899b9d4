-- Demand 1, over the bytes, numbers and lists handed to the public calls.
--
-- "No graph file, proposal, number or buffer can make a public call fail to finish or touch what it was not lent. Each refusal is given if document
-- 01's condition and sequence call for it and never otherwise, none rests on a caller's care, and a refused call changes no buffer."
--
-- That every call finishes and touches only what it was lent is proved of each function by the language, and no call asks anything of its caller. The
-- rest is said here: document 01's conditions ("Who caused a refusal"), its "Sequence", and, for all inputs, what each call answers by them.
use Rattle.std.specs.Prelude.{◌≡◌, ◌⊎◌, ◌≢◌, List, [], ◌∷◌, ◌++◌, ℕ, zero, suc, ◌*◌, ◌≤◌, ◌<◌, pos, negsuc, ◌-ℤ◌, length, Result}
use Rattle.model.specs.Tasks.{Task, Edge, ◌∈◌, processor_of}
use Rattle.model.specs.Graph.{Graph, edges, time_of}
use Rattle.model.specs.Paths.{Path, ZeroCycle, OnCycle, OrderHeld, Latency}
use Rattle.model.specs.Proposals.{result}
use Rattle.bits.specs.Bits.{bit_at}
use Rattle.layout.specs.declared.EdgeRecord.{EdgeRecord}
use Rattle.layout.specs.Layout.{graph_header, proposal_header, bytes_for}
use Rattle.files.specs.Files.{task_count, edge_count, graph_bits, proposal_bits, graph_of, proposal_of, edge_in, graph_refusal, proposal_refusal}
use Rattle.files.specs.declared.Fault.{Fault}
use Rattle.files.specs.Refusals.{refusal_in}
use Rattle.readings.specs.declared.GraphReading.{GraphReading}
use Rattle.readings.specs.declared.ProposalReading.{ProposalReading}
use Rattle.readings.specs.Working.{GraphRead, ProposalRead}
use Rattle.acceptance.specs.declared.Outcome.{Outcome}
use Rattle.acceptance.specs.Outcomes.{outcome}
use Rattle.figures.specs.Figures.{figures_of}
use Rattle.least_delays.specs.LeastDelays.{delays_refusal, delays_after}
use Rattle.redundant.specs.Redundant.{redundant_of, no_marks}
use Rattle.timetable.specs.Timetable.{timetable_refusal, timetable_after}
use Rattle.verdict.specs.Verdict.{verdict_of}
use Rattle.plan.specs.Plan.{plan_answer_of, plan_after}

-- ── Checks, and sequences of them ──

-- One check: its condition, its number, and the place that comes with the number.
pub record Check : Type 1 where
  pub condition : Type 0
  pub number : ℕ
  pub place : ℕ

abbrev pub Sequence : Type 1
Sequence = List Check

-- What a sequence says: number and place of the first check whose condition holds; 0 and 0 if none holds.
abbrev pub Says : Sequence → ℕ → ℕ → Type 0
Says [] number place = (number ≡ 0) × (place ≡ 0)
Says (check ∷ later) number place =
    (check.condition × (number ≡ check.number) × (place ≡ check.place)) ⊎ ((check.condition → ⊥) × Says later number place)

-- `5 at v when c`: number 5 and place v, if c holds
infix 3 ◌at◌when◌ ◌when◌
abbrev pub ◌at◌when◌ : ℕ → ℕ → Type 0 → Sequence
m at p when c = record { condition = c; number = m; place = p } ∷ []

-- `2 when c`: "Place, latency and margin are 0 unless named below."
abbrev pub ◌when◌ : ℕ → Type 0 → Sequence
m when c = m at 0 when c

-- the checks of one sequence, then those of another
infixr 2 ◌then◌
abbrev pub ◌then◌ : Sequence → Sequence → Sequence
earlier then later = earlier ++ later

-- checks 0, then checks 1, and so on, n of them
unfoldable pub each : ℕ → (ℕ → Sequence) → Sequence
each zero checks = []
each (suc n) checks = each n checks then checks n

-- ── "Who caused a refusal": the conditions that take more than a comparison ──

-- "3: tasks outside 2 to 64", "17: turns outside 1 to 64"
abbrev pub Outside : ℕ → ℕ → ℕ → Type 0
Outside low high n = (n < low) ⊎ (high < n)

-- "4: [..] a nonzero filling bit", in a file whose fields take so many bits
abbrev pub FillingBit : List ℕ → ℕ → Type 0
FillingBit s used = (i : ℕ) × (used ≤ i) × (i < 8 * length s) × (bit_at s i ≢ 0)

-- "6: a task number not below the count"
abbrev pub NotBelow : ℕ → Edge → Type 0
NotBelow count e = (count ≤ e.source) ⊎ (count ≤ e.sink)

-- "7: a graph edge within one processor"
abbrev pub SameProcessor : List Task → Edge → Type 0
SameProcessor tasks e = processor_of tasks e.source ≡ processor_of tasks e.sink

-- "8: same source, sink and delay as an earlier edge"
abbrev pub SameAsEarlier : List Edge → ℕ → Type 0
SameAsEarlier es j = (i : ℕ) × (i < j) × (edge_in es i ≡ edge_in es j)

-- "10: the input has an incoming edge of delay 0."
abbrev pub InputWaits : Graph → Type 0
InputWaits g = (e : Edge) × e ∈ edges g × (e.sink ≡ g.input) × (e.delay ≡ 0)

-- "11: input equals output, or no path of delay 0 joins them."
abbrev pub NotJoined : Graph → Type 0
NotJoined g = (g.input ≡ g.output) ⊎ (Path (edges g) g.input g.output 0 → ⊥)

-- "12: the bound is below the graph's latency."; of a result, "15: late"
abbrev pub BoundBelow : Graph → Type 0
BoundBelow g = (l : ℕ) × Latency (edges g) (time_of g) g.output l × (g.bound < l)

-- "13: a proposed edge on a cycle" of the result
abbrev pub CycleMade : Graph → List Edge → Edge → Type 0
CycleMade g proposed e = OnCycle (edges (result g proposed)) e

-- "14: an original order lost": an original edge's ends have not "in the result a least delay at most that edge's own"
abbrev pub OrderLost : Graph → List Edge → Edge → Type 0
OrderLost g proposed e = OrderHeld (edges (result g proposed)) e → ⊥

-- ── "Sequence" ──

-- 1 to 8 of a graph file with the bytes s. Edges' "places count from 1".
unfoldable pub graph_file_checks : List ℕ → Sequence
graph_file_checks s =
    let g = graph_of s in
    let edge = edge_in g.syncs in
    -- "header 1, 2, 3": "fewer bytes than the header", "version is not 1", "tasks outside 2 to 64, or edges over 256"
    1 when length s < 7
    then 2 when (graph_header s).version ≢ 1
    then 3 when (Outside 2 64 (task_count s) ⊎ (256 < edge_count s))
    -- "length 1 or 4; filling 4": fewer bytes than "the counts need", "more bytes than the counts need, or a nonzero filling bit"
    then 1 when length s < bytes_for (graph_bits s)
    then 4 when bytes_for (graph_bits s) < length s
    then 4 when FillingBit s (graph_bits s)
    -- "header 6": of the latency input and output; the place is "0 for the header"
    then 6 when ((task_count s ≤ g.input) ⊎ (task_count s ≤ g.output))
    -- "tasks 5": "a task time of 0; place is the task number"
    then each (task_count s) (λ v. 5 at v when time_of g v ≡ 0)
    -- "each edge 6 then 7": "place is the edge"
    then each (edge_count s) (λ j. 6 at suc j when NotBelow (task_count s) (edge j) then 7 at suc j when SameProcessor g.tasks (edge j))
    -- "then 8": "place is the first such later edge"
    then each (edge_count s) (λ j. 8 at suc j when SameAsEarlier g.syncs j)

-- "9 to 12" of a graph; "9: a cycle of total delay 0."
unfoldable pub nine_to_twelve : Graph → Sequence
nine_to_twelve g =
    9 when ZeroCycle (edges g)
    then 10 when InputWaits g
    then 11 when NotJoined g
    then 12 when BoundBelow g

-- "Every call that takes a graph runs its checks up to 12"
unfoldable pub graph_checks : List ℕ → Sequence
graph_checks s = graph_file_checks s then nine_to_twelve (graph_of s)

-- 1 to 8 of a proposal file with the bytes p, beside a graph of n tasks
unfoldable pub proposal_file_checks : ℕ → List ℕ → Sequence
proposal_file_checks n p =
    let proposed = proposal_of p in
    -- "the proposal's header 1, 2, 3"
    1 when length p < 2
    then 2 when (proposal_header p).version ≢ 1
    then 3 when 256 < (proposal_header p).edges
    -- "length 1 or 4; its two zero bits and filling 4"
    then 1 when length p < bytes_for (proposal_bits p)
    then 4 when bytes_for (proposal_bits p) < length p
    then 4 when (proposal_header p).zeros ≢ 0
    then 4 when FillingBit p (proposal_bits p)
    -- "each edge 6"
    then each (proposal_header p).edges (λ j. 6 at suc j when NotBelow n (edge_in proposed j))
    -- "then 8"
    then each (proposal_header p).edges (λ j. 8 at suc j when SameAsEarlier proposed j)

-- "13, 14, 15" of proposed edges
unfoldable pub proposed_checks : Graph → List Edge → Sequence
proposed_checks g proposed =
    -- 02 (iv): "refusal 13 shall give the earliest proposed edge that lies on a cycle of the result"
    each (length proposed) (λ j. 13 at suc j when CycleMade g proposed (edge_in proposed j))
    -- "place is the first such graph edge"; a processor edge is the result's own, so its order is never lost
    then each (length g.syncs) (λ j. 14 at suc j when OrderLost g proposed (edge_in g.syncs j))
    then 15 when BoundBelow (result g proposed)

-- The delay table: "16: a lent list too short (tasks squared [..])", for a list of so much room
unfoldable pub delays_checks : List ℕ → ℕ → Sequence
delays_checks s room = graph_checks s then 16 when room < task_count s * task_count s

-- The timetable: "17; [..] 9 to 12; 16", "tasks × turns"
unfoldable pub timetable_checks : List ℕ → ℕ → ℕ → Sequence
timetable_checks s turns room = 17 when Outside 1 64 turns then graph_checks s then 16 when room < task_count s * turns

-- The plan: "16: a lent list too short ([..] or edges)", for a list of so many records
unfoldable pub plan_checks : List ℕ → ℕ → Sequence
plan_checks s room = graph_checks s then 16 when room < edge_count s

-- The verdict: "then the proposal's header [..] then 8, 13, 14, 15"
unfoldable pub verdict_checks : List ℕ → List ℕ → Sequence
verdict_checks s p = graph_checks s then proposal_file_checks (task_count s) p then proposed_checks (graph_of s) (proposal_of p)

-- ── The demand ──

-- A call's outcome obeys a sequence.
pub record Obeys (checks : Sequence) (o : Outcome) : Type 0 where
  -- "Each refusal is given if document 01's condition and sequence call for it"
  pub called_for : Says checks o.number o.place
  -- "and never otherwise": the sequence says no other number, nor another place
  pub never_otherwise : (number place : ℕ) → Says checks number place → (number ≡ o.number) × (place ≡ o.place)
  -- "Place, latency and margin are 0 unless named": only 15 names latency and margin
  pub unnamed : o.number ≢ 15 → (o.latency ≡ 0) × (o.margin ≡ pos 0)
  -- a call that is not refused has 0 in all four numbers
  pub not-refused : o.number ≡ 0 → (o.place ≡ 0) × (o.latency ≡ 0) × (o.margin ≡ pos 0)

-- "15: late; latency and the negative margin are given.": margin "is bound minus latency"
pub record LateTold (result : Graph) (o : Outcome) : Type 0 where
  pub latency_is : Latency (edges result) (time_of result) result.output o.latency
  pub bound_below : result.bound < o.latency
  pub margin_is : o.margin ≡ pos result.bound -ℤ pos o.latency
  pub negative : (k : ℕ) × (o.margin ≡ negsuc k)

-- For all bytes s of a graph file, all bytes p of a proposal file, all numbers and all lent lists. By their contracts the readings give what `GraphRead s` and
-- `ProposalRead n p` say, and the calls answer `figures_of s`, `redundant_of s`, `outcome (delays_refusal s room)`, `outcome (timetable_refusal s turns room)`,
-- `plan_answer_of s room` and `verdict_of s p`, where room is the length of the lent list, and leave `delays_after`, `timetable_after` and `plan_after` in it.
pub record Demand1 : Type 0 where
  -- the readings: 1 to 8 alone, of a proposal beside any number n of tasks; they tell number and place, and `outcome` puts 0 for latency and margin
  pub graph_files : (s : List ℕ) → Obeys (graph_file_checks s) (outcome (graph_refusal s))
  pub proposal_files : (n : ℕ) (p : List ℕ) → Obeys (proposal_file_checks n p) (outcome (proposal_refusal n p))
  pub read_graph : (s : List ℕ) (r : Result GraphReading Fault) → GraphRead s r → Obeys (graph_file_checks s) (outcome (refusal_in r))
  pub read_proposal :
      (n : ℕ) (p : List ℕ) (r : Result ProposalReading Fault) → ProposalRead n p r → Obeys (proposal_file_checks n p) (outcome (refusal_in r))
  -- figures, and redundant set: a refused graph has no figures and no marks
  pub figures : (s : List ℕ) → Obeys (graph_checks s) (figures_of s).outcome
  pub figures_refused :
      (s : List ℕ) → (figures_of s).outcome.number ≢ 0 → ((figures_of s).tasks ≡ 0) × ((figures_of s).edges ≡ 0) × ((figures_of s).latency ≡ 0)
  pub redundant : (s : List ℕ) → Obeys (graph_checks s) (redundant_of s).outcome
  pub redundant_refused :
      (s : List ℕ) → (redundant_of s).outcome.number ≢ 0 → ((redundant_of s).marks ≡ no_marks) × ((redundant_of s).count ≡ 0)
  -- delay table, and timetable: "a refused call changes no buffer"
  pub delays : (s : List ℕ) (room : ℕ) → Obeys (delays_checks s room) (outcome (delays_refusal s room))
  pub delays_kept : (s table : List ℕ) → (delays_refusal s (length table)).number ≢ 0 → delays_after s table ≡ table
  pub timetable : (s : List ℕ) (turns room : ℕ) → Obeys (timetable_checks s turns room) (outcome (timetable_refusal s turns room))
  pub timetable_kept :
      (s : List ℕ) (turns : ℕ) (starts : List ℕ) → (timetable_refusal s turns (length starts)).number ≢ 0 → timetable_after s turns starts ≡ starts
  -- plan: a refused one has no length, no steps and no latency, and changes no record
  pub plan : (s : List ℕ) (room : ℕ) → Obeys (plan_checks s room) (plan_answer_of s room).outcome
  pub plan_refused :
      (s : List ℕ) (room : ℕ) → (plan_answer_of s room).outcome.number ≢ 0 →
      ((plan_answer_of s room).length ≡ 0) × ((plan_answer_of s room).steps ≡ 0) × ((plan_answer_of s room).latency ≡ 0)
  pub plan_kept : (s : List ℕ) (list : List EdgeRecord) → (plan_answer_of s (length list)).outcome.number ≢ 0 → plan_after s list ≡ list
  -- verdict: a refused one has neither latency nor margin beside its outcome; with 15 the outcome has them
  pub verdict : (s p : List ℕ) → Obeys (verdict_checks s p) (verdict_of s p).outcome
  pub verdict_refused : (s p : List ℕ) → (verdict_of s p).outcome.number ≢ 0 → ((verdict_of s p).latency ≡ 0) × ((verdict_of s p).margin ≡ pos 0)
  pub verdict_late : (s p : List ℕ) → (verdict_of s p).outcome.number ≡ 15 → LateTold (result (graph_of s) (proposal_of p)) (verdict_of s p).outcome
