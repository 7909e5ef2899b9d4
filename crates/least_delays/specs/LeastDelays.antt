-- Document 01, "What the calls hand over" and "Who caused a refusal": what the call for least delays answers and leaves in the lent list, for every file and
-- list. Of a refused call every field that 01 does not name is 0, and the list keeps its contents.
use Rattle.std.specs.Prelude.{List, [], ◌∷◌, ◌++◌, ℕ, ◌*◌, length, drop}
use Rattle.model.specs.Graph.{edges}
use Rattle.files.specs.declared.Refusal.{Refusal}
use Rattle.files.specs.Files.{graph_of}
use Rattle.files.specs.Refusals.{first, if_passed}
use Rattle.delays.specs.Delays.{delay_table}
use Rattle.acceptance.specs.Acceptance.{acceptance_refusal}
use Rattle.acceptance.specs.Outcomes.{room_refusal, tasks_of}

-- the delay table of a file's graph, "row by row"
unfoldable pub table_of : List ℕ → List ℕ
table_of s = delay_table (tasks_of s) (edges (graph_of s))

-- "9 to 12; 16": refusals of the delay table for a list with so much room ("tasks squared")
unfoldable pub delays_refusal : List ℕ → ℕ → Refusal
delays_refusal s room = first (acceptance_refusal s ∷ room_refusal (tasks_of s * tasks_of s) room ∷ [])

-- the lent list after the call: "elements past the written part hold what they held", "Lent buffers keep their contents"
unfoldable pub delays_after : List ℕ → List ℕ → List ℕ
delays_after s table =
    if_passed (delays_refusal s (length table)).number (table_of s ++ drop (tasks_of s * tasks_of s) table) table
