-- Where the edges that order a graph stand in their list: first the processor edges, one for each task, then the synchronization edges.
use mathlib.Core.Path.{◌≡◌, sym, ap, ◌∙◌, subst}
use mathlib.Core.List.{◌++◌}
use Prim.Native.Nat.{ℕ, ◌+◌, ◌<◌}
use lib.ListN.{length, get_or, length-append, get_or-append}
use lib.Seq.{get_or-append-add}
use Rattle.model.specs.Tasks.{no_edge}
use Rattle.model.specs.Processors.{processor_edge, processor_edges}
use Rattle.model.specs.Graph.{Graph, count, edges}
use Rattle.records.proofs.Fill.{length-tabulate, get_d_tabulate}

module _ (g : Graph) where
  pub processor-edges-count : length (processor_edges g.tasks) ≡ count g
  unfolding processor_edges
  processor-edges-count = length-tabulate (length g.tasks) (processor_edge g.tasks)

  pub edges-count : length (edges g) ≡ count g + length g.syncs
  unfolding edges
  edges-count = length-append (processor_edges g.tasks) g.syncs ∙ ap (λ (n : ℕ). n + length g.syncs) processor-edges-count

  pub processor-place : (v : ℕ) → v < count g → get_or (edges g) v no_edge ≡ get_or (processor_edges g.tasks) v no_edge
  unfolding edges
  processor-place v l =
      get_or-append (processor_edges g.tasks) g.syncs no_edge v (subst (λ (n : ℕ). v < n) (sym processor-edges-count) l)

  pub processor-edge-at : (v : ℕ) → v < count g → get_or (edges g) v no_edge ≡ processor_edge g.tasks v
  unfolding processor_edges
  processor-edge-at v l = processor-place v l ∙ get_d_tabulate (length g.tasks) (processor_edge g.tasks) no_edge v l

  pub sync-place : (j : ℕ) → get_or (edges g) (count g + j) no_edge ≡ get_or g.syncs j no_edge
  unfolding edges
  sync-place j =
      ap (λ (n : ℕ). get_or (processor_edges g.tasks ++ g.syncs) (n + j) no_edge) (sym processor-edges-count) ∙
      get_or-append-add (processor_edges g.tasks) g.syncs j no_edge
