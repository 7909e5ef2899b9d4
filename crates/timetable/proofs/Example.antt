-- The example desk's file gets the answer of document 01, by computation of the definitions on the graph that it holds.
use mathlib.Core.Path.{◌≡◌, ap}
use mathlib.Core.List.{[], ◌∷◌}
use Rattle.model.specs.Lists.{tabulate}
use Rattle.model.specs.Processors.{processor_edges}
use Rattle.model.specs.Graph.{Graph, count, edges, time_of}
use Rattle.model.specs.Compute.{earliest}
use Rattle.records.specs.Columns.{rows}
use Rattle.files.proofs.Example.{desk_bytes, desk-file}
use Rattle.starts.specs.Starts.{turn_row, turn_rows}
use Rattle.acceptance.specs.Outcomes.{tasks_of}
use Rattle.timetable.specs.Timetable.{starts_of}

-- "starts: 0 2 2 5, then 5 7 9 10"
pub desk-starts : starts_of desk_bytes 2 ≡ 0 ∷ 2 ∷ 2 ∷ 5 ∷ 5 ∷ 7 ∷ 9 ∷ 10 ∷ []
unfolding starts_of tasks_of turn_rows turn_row rows tabulate edges processor_edges time_of earliest
desk-starts = ap (λ (g : Graph). turn_rows (count g) (edges g) (time_of g) 2) desk-file
