-- When the table of least delays is given and what its elements mean, as statements. proofs/Meanings.antt proves them, proofs/Lists.antt those of the lent
-- list.
use Rattle.std.specs.Prelude.{◌≡◌, ◌↔◌, ◌≢◌, List, ℕ, ◌+◌, ◌*◌, ◌≤◌, ◌<◌, length, get_or}
use Rattle.std.proofs.Math.Option.{Option, some}
use Rattle.model.specs.Graph.{edges}
use Rattle.model.specs.Paths.{Least}
use Rattle.files.specs.Files.{graph_of}
use Rattle.files.specs.Refusals.{not_refused}
use Rattle.delays.specs.Delays.{entry}
use Rattle.acceptance.specs.Acceptance.{acceptance_refusal}
use Rattle.acceptance.specs.Outcomes.{tasks_of}
use Rattle.acceptance.specs.Theorems.{AcceptedFile}
use Rattle.least_delays.specs.LeastDelays.{delays_refusal, delays_after}

-- The delay table is written exactly if the file is accepted and the list has room for tasks squared numbers.
abbrev pub DelaysGiven : Type 0
DelaysGiven = (s : List ℕ) (room : ℕ) → ((delays_refusal s room).number ≡ 0) ↔ (AcceptedFile s × (tasks_of s * tasks_of s ≤ room))

-- 16 comes exactly if the list is too short and nothing before it refuses.
abbrev pub DelaysShort : Type 0
DelaysShort = (s : List ℕ) (room : ℕ) → ((delays_refusal s room).number ≡ 16) ↔ (AcceptedFile s × (room < tasks_of s * tasks_of s))

-- Every other refusal is that of the file, with its place.
abbrev pub DelaysRefused : Type 0
DelaysRefused = (s : List ℕ) (room : ℕ) → (acceptance_refusal s).number ≢ 0 → delays_refusal s room ≡ acceptance_refusal s

-- Where nothing is refused there is no place.
abbrev pub DelaysPlain : Type 0
DelaysPlain = (s : List ℕ) (room : ℕ) → (delays_refusal s room).number ≡ 0 → delays_refusal s room ≡ not_refused

-- A refused call changes no element.
abbrev pub DelaysKept : Type 0
DelaysKept = (s table : List ℕ) → (delays_refusal s (length table)).number ≢ 0 → delays_after s table ≡ table

-- A lent list keeps its length, and a successful call changes no element past what it writes.
abbrev pub DelaysPast : Type 0
DelaysPast =
    (s table : List ℕ) →
    (length (delays_after s table) ≡ length table) ×
    ((i : ℕ) → tasks_of s * tasks_of s ≤ i → get_or (delays_after s table) i 0 ≡ get_or table i 0)

-- The element of tasks a and b is their least delay, 65,535 if there is no path; and no least delay is 65,535.
abbrev pub DelaysMean : Type 0
DelaysMean =
    (s table : List ℕ) → (delays_refusal s (length table)).number ≡ 0 → (a b : ℕ) → a < tasks_of s → b < tasks_of s →
    (o : Option ℕ) × Least (edges (graph_of s)) a b o × (get_or (delays_after s table) (a * tasks_of s + b) 0 ≡ entry o)

abbrev pub DelaysSmall : Type 0
DelaysSmall = (s : List ℕ) → AcceptedFile s → (a b d : ℕ) → Least (edges (graph_of s)) a b (some d) → d < 65535
