-- The example desk's file gets the answer of document 01, by computation of the definitions on the graph that it holds.
use mathlib.Core.Path.{◌≡◌, ap}
use mathlib.Core.List.{[], ◌∷◌}
use Rattle.model.specs.Lists.{tabulate}
use Rattle.model.specs.Processors.{processor_edges}
use Rattle.model.specs.Graph.{Graph, count, edges}
use Rattle.model.specs.Compute.{least_delay}
use Rattle.records.specs.Columns.{rows}
use Rattle.files.proofs.Example.{desk_bytes, desk-file}
use Rattle.delays.specs.Delays.{entry, delay_row, delay_table}
use Rattle.acceptance.specs.Outcomes.{tasks_of}
use Rattle.least_delays.specs.LeastDelays.{table_of}

-- "row 0 is 1 0 0 0; row 1 is 1 1 1 0; row 2 none none 1 0; row 3 none none 1 1"
pub desk-table :
    table_of desk_bytes ≡
    1 ∷ 0 ∷ 0 ∷ 0 ∷ 1 ∷ 1 ∷ 1 ∷ 0 ∷ 65535 ∷ 65535 ∷ 1 ∷ 0 ∷ 65535 ∷ 65535 ∷ 1 ∷ 1 ∷ []
unfolding table_of tasks_of delay_table delay_row entry rows tabulate edges processor_edges least_delay
desk-table = ap (λ (g : Graph). delay_table (count g) (edges g)) desk-file
