-- Document 01, "What the calls hand over" and "Who caused a refusal": what the timetable's call answers and leaves in the lent list, for every file, number
-- of turns and list. Of a refused call every field that 01 does not name is 0, and the list keeps its contents.
use Rattle.std.specs.Prelude.{◌||◌, List, [], ◌∷◌, ◌++◌, ℕ, ◌*◌, ltb, length, drop}
use Rattle.model.specs.Graph.{edges, time_of}
use Rattle.files.specs.declared.Refusal.{Refusal}
use Rattle.files.specs.Files.{graph_of}
use Rattle.files.specs.Refusals.{refuse, first, if_passed}
use Rattle.starts.specs.Starts.{turn_rows}
use Rattle.acceptance.specs.Acceptance.{acceptance_refusal}
use Rattle.acceptance.specs.Outcomes.{room_refusal, tasks_of}

-- "17: turns outside 1 to 64"
unfoldable pub turns_refusal : ℕ → Refusal
turns_refusal turns = refuse (ltb turns 1 || ltb 64 turns) 17 0

-- the timetable of a file's graph: "Each turn's starts fill the next part of the lent list, tasks in order."
unfoldable pub starts_of : List ℕ → ℕ → List ℕ
starts_of s turns = turn_rows (tasks_of s) (edges (graph_of s)) (time_of (graph_of s)) turns

-- "Sequence: 17; [..] 9 to 12; 16": refusals of the timetable for a list with so much room ("tasks × turns")
unfoldable pub timetable_refusal : List ℕ → ℕ → ℕ → Refusal
timetable_refusal s turns room = first (turns_refusal turns ∷ acceptance_refusal s ∷ room_refusal (tasks_of s * turns) room ∷ [])

-- the lent list after the call
unfoldable pub timetable_after : List ℕ → ℕ → List ℕ → List ℕ
timetable_after s turns starts =
    if_passed (timetable_refusal s turns (length starts)).number (starts_of s turns ++ drop (tasks_of s * turns) starts) starts
