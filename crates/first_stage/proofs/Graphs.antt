-- The first stage of a graph's plan is that of its list of edges: redundant edges and those on cycles are the same, and behind the processor edges stand
-- the synchronization edges.
use mathlib.Core.Path.{◌≡◌, sym}
use mathlib.Core.Bool.{not, ◌&&◌}
use lib.ListN.{drop}
use lib.Seq.{drop_at}
use Rattle.model.specs.Lists.{keep_places}
use Rattle.model.specs.Processors.{processor_edges}
use Rattle.model.specs.Graph.{Graph, count, edges}
use Rattle.model.specs.Paths.{sync_at}
use Rattle.model.specs.Compute.{on_cycle, is_feedback}
use Rattle.model.specs.Plan.{first_stage}
use Rattle.records.proofs.Ordered.{processor-edges-count, sync-place}
use Rattle.redundancy.proofs.Graphs.{redundant-in}
use Rattle.first_stage.specs.FirstStage.{first_stage_in}

module _ (g : Graph) where
  syncs-behind : g.syncs ≡ drop (count g) (edges g)
  unfolding edges
  syncs-behind = sym (drop_at (processor_edges g.tasks) g.syncs (count g) (processor-edges-count g))

  pub first-stage-in : first_stage g ≡ first_stage_in (count g) (edges g)
  unfolding first_stage is_feedback sync_at first_stage_in
  first-stage-in =
      λ x. keep_places (λ i. not (redundant-in g i x) && not (on_cycle (count g) (edges g) (sym (sync-place g i) x))) 0 (syncs-behind x)
