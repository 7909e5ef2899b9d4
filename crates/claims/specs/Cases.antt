-- Document 01, "Example desk": "Cases marked P are proved together as one listed set with one theorem over the list." All of them, and one for 02 (iv), over
-- bytes and answers; proofs/Cases.antt proves that they hold.
use Rattle.std.specs.Prelude.{◌≡◌, ℕ, ◌≤◌, ℤ, pos, negsuc, length, drop, get_or}
use mathlib.Core.List.{List, [], ◌∷◌, ◌++◌, Memᴰ}
use Rattle.model.specs.Tasks.{Edge, edge}
use Rattle.layout.specs.declared.EdgeRecord.{EdgeRecord}
use Rattle.files.specs.Files.{graph_of}
use Rattle.acceptance.specs.declared.Outcome.{Outcome}
use Rattle.acceptance.specs.Outcomes.{outcome}
use Rattle.least_delays.specs.LeastDelays.{delays_refusal, delays_after}
use Rattle.redundant.specs.Redundant.{redundant_of}
use Rattle.timetable.specs.Timetable.{timetable_refusal, timetable_after}
use Rattle.verdict.specs.declared.ProposalVerdict.{ProposalVerdict}
use Rattle.verdict.specs.Verdict.{verdict_of}
use Rattle.stages.specs.Stages.{written_into}
use Rattle.plan.specs.Plan.{plan_answer_of, plan_after}

-- ── Cases ──

-- One case: the bytes handed to a call, and what comes of it.
pub data Case : Type 0 where
  -- least delays of a graph, row by row
  delays : (graph table : List ℕ) → Case
  -- first word of a graph's marks
  first_word : (graph : List ℕ) (word : ℕ) → Case
  -- starts of a graph in so many turns
  starts : (graph : List ℕ) (turns : ℕ) (rows : List ℕ) → Case
  -- the plan of a graph: its edges, steps and latency
  plan : (graph : List ℕ) (es : List Edge) (steps latency : ℕ) → Case
  -- the verdict on a proposal beside a graph
  verdict : (graph proposal : List ℕ) (answer : ProposalVerdict) → Case

-- a call that refuses nothing
abbrev pub success : Outcome
success = record { number = 0; place = 0; latency = 0; margin = pos 0 }

-- "`accepted` [..] latency and margin"
abbrev pub accepted : ℕ → ℤ → ProposalVerdict
accepted latency margin = record { outcome = success; latency = latency; margin = margin }

-- "`refused` with number, place, latency, margin"
abbrev pub refused : ℕ → ℕ → ℕ → ℤ → ProposalVerdict
refused number place latency margin =
    record { outcome = record { number = number; place = place; latency = latency; margin = margin }; latency = 0; margin = pos 0 }

-- A case holds: the call succeeds and writes this at the front of every lent list that is long enough, or this is what it answers.
abbrev pub Holds : Case → Type 0
Holds (delays graph table) =
    (lent : List ℕ) → length table ≤ length lent →
    (outcome (delays_refusal graph (length lent)) ≡ success) × (delays_after graph lent ≡ table ++ drop (length table) lent)
Holds (first_word graph word) = ((redundant_of graph).outcome ≡ success) × (get_or (redundant_of graph).marks.words 0 0 ≡ word)
Holds (starts graph turns rows) =
    (lent : List ℕ) → length rows ≤ length lent →
    (outcome (timetable_refusal graph turns (length lent)) ≡ success) × (timetable_after graph turns lent ≡ rows ++ drop (length rows) lent)
Holds (plan graph es steps latency) =
    (lent : List EdgeRecord) → length (graph_of graph).syncs ≤ length lent →
    (plan_answer_of graph (length lent) ≡ record { outcome = success; length = length es; steps = steps; latency = latency }) ×
    (plan_after graph lent ≡ written_into lent es)
Holds (verdict graph proposal answer) = verdict_of graph proposal ≡ answer

-- ── The desk and its proposals ──

-- "08 40 18 01 80 00 0C 00 00 20 00 03 10 00 11 00 04 00 20 00 43 00 00 30 00": the seventh byte, 0C, is
-- the bound, 12 (bounds below 256 stand in that byte alone)
abbrev pub desk_file : ℕ → List ℕ
desk_file bound =
    0x08 ∷ 0x40 ∷ 0x18 ∷ 0x01 ∷ 0x80 ∷ 0x00 ∷ bound ∷ 0x00 ∷ 0x00 ∷ 0x20 ∷ 0x00 ∷ 0x03 ∷ 0x10 ∷ 0x00 ∷ 0x11 ∷ 0x00 ∷ 0x04 ∷ 0x00 ∷ 0x20 ∷ 0x00 ∷ 0x43 ∷
    0x00 ∷ 0x00 ∷ 0x30 ∷ 0x00 ∷ []

abbrev pub example_file : List ℕ
example_file = desk_file 0x0C

-- "Proposal bytes for 1→2, delay 0: 08 04 04 20 00."
abbrev pub example_proposal : List ℕ
example_proposal = 0x08 ∷ 0x04 ∷ 0x04 ∷ 0x20 ∷ 0x00 ∷ []

-- no edge
abbrev pub empty_proposal : List ℕ
empty_proposal = 0x08 ∷ 0x00 ∷ []

-- 0→2, delay 0
abbrev pub first_only : List ℕ
first_only = 0x08 ∷ 0x04 ∷ 0x00 ∷ 0x20 ∷ 0x00 ∷ []

-- 1→2, delay 1
abbrev pub delayed : List ℕ
delayed = 0x08 ∷ 0x04 ∷ 0x04 ∷ 0x20 ∷ 0x10 ∷ []

-- 0→2 and 1→3, delay 0, and 3→0, delay 1
abbrev pub looped_file : List ℕ
looped_file = 0x08 ∷ 0x0C ∷ 0x00 ∷ 0x20 ∷ 0x00 ∷ 0x43 ∷ 0x00 ∷ 0x0C ∷ 0x00 ∷ 0x10 ∷ []

-- 0→2, 2→3 and 1→3, delay 0, and 0→1, delay 1: the second and the fourth, each within a processor, lie on cycles, the others do not
abbrev pub mixed_file : List ℕ
mixed_file = 0x08 ∷ 0x10 ∷ 0x00 ∷ 0x20 ∷ 0x00 ∷ 0x83 ∷ 0x00 ∷ 0x04 ∷ 0x30 ∷ 0x00 ∷ 0x01 ∷ 0x01 ∷ []

-- ── The list ──

-- how a delay table says that there is no path: "65,535 for none"
abbrev pub no_path : ℕ
no_path = 65535

abbrev pub cases : List Case
cases =
    -- "P least delays: row 0 is 1 0 0 0; row 1 is 1 1 1 0; row 2 none none 1 0; row 3 none none 1 1."
    delays example_file
    (1 ∷ 0 ∷ 0 ∷ 0 ∷
    1 ∷ 1 ∷ 1 ∷ 0 ∷
    no_path ∷ no_path ∷ 1 ∷ 0 ∷
    no_path ∷ no_path ∷ 1 ∷ 1 ∷ [])
    -- "P first word of marks: 2000000000000000 hexadecimal."
    ∷ first_word example_file 0x2000000000000000
    -- "P starts: 0 2 2 5, then 5 7 9 10."
    ∷ starts example_file 2
    (0 ∷ 2 ∷ 2 ∷ 5 ∷
    5 ∷ 7 ∷ 9 ∷ 10 ∷ [])
    -- "accepted 10 2"
    ∷ verdict example_file example_proposal (accepted 10 (pos 2))
    -- "Example proposal: P bound 10: accepted, margin 0."
    ∷ verdict (desk_file 10) example_proposal (accepted 10 (pos 0))
    -- "P bound 9: refusal 15, latency 10, margin −1." (`negsuc 0` is −1)
    ∷ verdict (desk_file 9) example_proposal (refused 15 0 10 (negsuc 0))
    -- "P bound 8: 12."
    ∷ verdict (desk_file 8) example_proposal (refused 12 0 0 (pos 0))
    -- "P empty proposal: 14, place 1."
    ∷ verdict example_file empty_proposal (refused 14 1 0 (pos 0))
    -- "P only 0→2: 14, place 2."
    ∷ verdict example_file first_only (refused 14 2 0 (pos 0))
    -- "P 1→2 with delay 1: 14, place 1."
    ∷ verdict example_file delayed (refused 14 1 0 (pos 0))
    -- "P 0→2, 1→3, and 3→0 with delay 1: 13, place 1, 2 or 3."; 02 (iv): "The example with 3→0 now has place 1 only"
    ∷ verdict example_file looped_file (refused 13 1 0 (pos 0))
    -- not 01's: 13 with "the earliest proposed edge that lies on a cycle of the result" (02 (iv)), which is neither the first edge nor the last such one
    ∷ verdict example_file mixed_file (refused 13 2 0 (pos 0))
    -- "P plan: 1→2, one step, latency 10."
    ∷ plan example_file (edge 1 2 0 ∷ []) 1 10
    -- "P at bound 9: 0→2, 1→3, no step." (Latency 9 is the graph's own, as "graph 4 3 9" says.)
    ∷ plan (desk_file 9) (edge 0 2 0 ∷ edge 1 3 0 ∷ []) 0 9
    ∷ []

-- Every listed case holds.
abbrev pub AllHold : Type 0
AllHold = (c : Case) → Memᴰ c cases → Holds c
