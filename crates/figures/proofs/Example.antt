-- The example desk's file gets the answer of document 01, by computation of the definitions on the graph that it holds.
use mathlib.Core.Path.{◌≡◌}
use lib.IntN.{pos}
use lib.ListN.{length}
use Rattle.model.specs.Processors.{processor_edges}
use Rattle.model.specs.Graph.{count, edges, time_of}
use Rattle.model.specs.Compute.{latency_of}
use Rattle.files.specs.Refusals.{if_passed}
use Rattle.files.proofs.Example.{desk_bytes, desk-file}
use Rattle.acceptance.specs.Outcomes.{outcome, tasks_of}
use Rattle.acceptance.proofs.Example.{desk-given}
use Rattle.figures.specs.Figures.{figures_of}

-- "graph 4 3 9"
pub desk-figures :
    figures_of desk_bytes ≡ record { outcome = record { number = 0; place = 0; latency = 0; margin = pos 0 }; tasks = 4; edges = 3; latency = 9 }
unfolding figures_of outcome tasks_of if_passed edges processor_edges time_of latency_of
desk-figures =
    λ i. record {
      outcome = outcome (desk-given i);
      tasks = if_passed (desk-given i).number (count (desk-file i)) 0;
      edges = if_passed (desk-given i).number (length (desk-file i).syncs) 0;
      latency = if_passed (desk-given i).number (latency_of (desk-file i)) 0;
    }
