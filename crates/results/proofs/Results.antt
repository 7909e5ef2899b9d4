-- The edges of a result: every processor edge lies on its processor's cycle, so that the edges on a cycle are the processor edges and the feedback edges.
use mathlib.Core.Path.{◌≡◌, ap, ◌∙◌}
use mathlib.Core.List.{List, ◌++◌, append_assoc}
use lib.Dec.{T}
use Rattle.model.specs.Tasks.{Edge, ◌∈◌, Ends}
use Rattle.model.specs.Processors.{processor_edges}
use Rattle.model.specs.Graph.{Graph, count, edges}
use Rattle.model.specs.Compute.{on_cycle, is_feedback}
use Rattle.model.specs.Proposals.{feedback_edges, result}
use Rattle.model.proofs.Tests.{decides-true}
use Rattle.model.proofs.Graphs.{processor-edge-in, processor-feedback, feedback-decides}
use Rattle.results.specs.Results.{cyclic, result_of, ResultEdgesAre}
use Rattle.results.proofs.Keeping.{keep_append, keep_all}

module _ (g : Graph) (bounds : Ends (count g) g.syncs) where
  processor-cyclic : (e : Edge) → e ∈ processor_edges g.tasks → T (on_cycle (count g) (edges g) e)
  unfolding is_feedback
  processor-cyclic e m = decides-true (feedback-decides g bounds e (processor-edge-in g m)) (processor-feedback g m)

  cyclic-are : cyclic (count g) (edges g) ≡ processor_edges g.tasks ++ feedback_edges g
  unfolding cyclic edges feedback_edges is_feedback
  cyclic-are =
      keep_append (on_cycle (count g) (edges g)) (processor_edges g.tasks) g.syncs ∙
      ap (λ (es : List Edge). es ++ feedback_edges g) (keep_all (on_cycle (count g) (edges g)) (processor_edges g.tasks) processor-cyclic)

pub result-edges-are : ResultEdgesAre
unfolding result_of edges result
result-edges-are g bounds proposed =
    ap (λ (es : List Edge). es ++ proposed) (cyclic-are g bounds) ∙ append_assoc (processor_edges g.tasks) (feedback_edges g) proposed
