-- When the timetable is given and what its elements mean, as statements. proofs/Given.antt and Meanings.antt prove them, proofs/Lists.antt those of the lent
-- list.
use Rattle.std.specs.Prelude.{◌≡◌, ◌↔◌, ◌⊎◌, ◌≢◌, List, ℕ, ◌+◌, ◌-◌, ◌*◌, ◌≤◌, ◌<◌, length, get_or}
use Rattle.model.specs.Graph.{edges, time_of}
use Rattle.model.specs.Runs.{Times, Earliest, estimates}
use Rattle.files.specs.Files.{graph_of}
use Rattle.files.specs.Refusals.{not_refused}
use Rattle.acceptance.specs.Acceptance.{acceptance_refusal}
use Rattle.acceptance.specs.Outcomes.{tasks_of}
use Rattle.acceptance.specs.Theorems.{AcceptedFile}
use Rattle.timetable.specs.Timetable.{turns_refusal, timetable_refusal, timetable_after}

-- The timetable is written exactly if there are 1 to 64 turns, the file is accepted and the list has room for tasks × turns numbers.
abbrev pub TimetableGiven : Type 0
TimetableGiven =
    (s : List ℕ) (turns room : ℕ) →
    ((timetable_refusal s turns room).number ≡ 0) ↔ ((1 ≤ turns) × (turns ≤ 64) × AcceptedFile s × (tasks_of s * turns ≤ room))

-- 16 comes exactly if the list is too short and nothing before it refuses; 17 exactly if the turns are outside 1 to 64, whatever the file.
abbrev pub TimetableShort : Type 0
TimetableShort =
    (s : List ℕ) (turns room : ℕ) →
    ((timetable_refusal s turns room).number ≡ 16) ↔ ((1 ≤ turns) × (turns ≤ 64) × AcceptedFile s × (room < tasks_of s * turns))

abbrev pub TurnsOutside : Type 0
TurnsOutside = (s : List ℕ) (turns room : ℕ) → ((timetable_refusal s turns room).number ≡ 17) ↔ ((turns < 1) ⊎ (64 < turns))

-- Every other refusal is that of the file, with its place; 17 names no place.
abbrev pub TimetableRefused : Type 0
TimetableRefused =
    (s : List ℕ) (turns room : ℕ) → 1 ≤ turns → turns ≤ 64 → (acceptance_refusal s).number ≢ 0 → timetable_refusal s turns room ≡ acceptance_refusal s

abbrev pub OutsideNoPlace : Type 0
OutsideNoPlace = (turns : ℕ) → (turns_refusal turns).place ≡ 0

-- Where nothing is refused there is no place.
abbrev pub TimetablePlain : Type 0
TimetablePlain = (s : List ℕ) (turns room : ℕ) → (timetable_refusal s turns room).number ≡ 0 → timetable_refusal s turns room ≡ not_refused

-- A refused call changes no element.
abbrev pub TimetableKept : Type 0
TimetableKept =
    (s : List ℕ) (turns : ℕ) (starts : List ℕ) → (timetable_refusal s turns (length starts)).number ≢ 0 → timetable_after s turns starts ≡ starts

-- A lent list keeps its length, and a successful call changes no element past what it writes.
abbrev pub TimetablePast : Type 0
TimetablePast =
    (s : List ℕ) (turns : ℕ) (starts : List ℕ) →
    (length (timetable_after s turns starts) ≡ length starts) ×
    ((i : ℕ) → tasks_of s * turns ≤ i → get_or (timetable_after s turns starts) i 0 ≡ get_or starts i 0)

-- The element of turn k and task v is the start in the earliest run at the estimated times, of every turn.
abbrev pub TimetableMean : Type 0
TimetableMean =
    (s : List ℕ) (turns : ℕ) (starts : List ℕ) → (timetable_refusal s turns (length starts)).number ≡ 0 →
    (start : Times) → Earliest (tasks_of s) (edges (graph_of s)) turns start (estimates (time_of (graph_of s))) →
    (v k : ℕ) → v < tasks_of s → 1 ≤ k → k ≤ turns → get_or (timetable_after s turns starts) ((k - 1) * tasks_of s + v) 0 ≡ start v k

-- and there is such a run
abbrev pub TimetableRuns : Type 0
TimetableRuns =
    (s : List ℕ) (turns : ℕ) → AcceptedFile s →
    (start : Times) × Earliest (tasks_of s) (edges (graph_of s)) turns start (estimates (time_of (graph_of s)))
