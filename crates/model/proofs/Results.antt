-- What the result of a proposal holds, and that it has the same cycles if no proposed edge lies on one: an edge on a cycle of either is kept,
-- so it is an edge of both.
use mathlib.Core.Path.{sym}
use mathlib.Core.Logic.{◌⊎◌, inl, inr}
use mathlib.Core.List.Memᴰ
use mathlib.Core.List.{List, ◌++◌}
use Prim.Native.Nat.{◌<◌}
use Rattle.model.specs.Tasks.{ProcessorEdge, Edge, ◌∈◌, Ends}
use Rattle.model.specs.Processors.{processor_edges}
use Rattle.model.specs.Graph.{Graph, count, edges}
use Rattle.model.specs.Paths.{OnCycle, NoneOnCycle, Feedback, NoZeroCycle, SameCycles, Serial}
use Rattle.model.specs.Proposals.{feedback_edges, result}
use Rattle.model.specs.Theorems.{ResultHas, ResultDrops, WithinProcessor, ResultCycles}
use Rattle.model.proofs.Processors.{processor-edges, processor-around}
use Rattle.model.proofs.Basics.{keep-in, keep_out}
use Rattle.model.proofs.Walks.{cycle-back, back-cycle, path-re-base}
use Rattle.model.proofs.Tests.{decides-true}
use Rattle.model.proofs.Cycles.{same-cycles, same-acyclic}
use Rattle.model.proofs.Graphs.{processor-feedback, edge-cases, processor-edge-in, sync-edge-in, graph-ends, graph-serial, feedback-decides}

feedback-in : (g : Graph) → Ends (count g) g.syncs → {e : Edge} → e ∈ g.syncs → Feedback g e → e ∈ feedback_edges g
unfolding feedback_edges
feedback-in g bounds {e} m f = keep-in _ m (decides-true (feedback-decides g bounds e (sync-edge-in g m)) f)

feedback-out : (g : Graph) → Ends (count g) g.syncs → {e : Edge} → e ∈ feedback_edges g → e ∈ g.syncs × Feedback g e
unfolding feedback_edges
feedback-out g bounds {e} m =
    let r = keep_out _ g.syncs m in (r.0, (feedback-decides g bounds e (sync-edge-in g r.0)).if_true r.1)

-- where an edge of the result comes from
abbrev pub Origin : Graph → List Edge → Edge → Type 0
Origin g proposed e = e ∈ processor_edges g.tasks ⊎ ((e ∈ g.syncs × Feedback g e) ⊎ e ∈ proposed)

pub result-cases : (g : Graph) → Ends (count g) g.syncs → (proposed : List Edge) {e : Edge} → e ∈ edges (result g proposed) →
    Origin g proposed e
unfolding result
result-cases g bounds proposed {e} m = go (edge-cases (result g proposed) m)
  where
    kept : e ∈ feedback_edges g ⊎ e ∈ proposed → Origin g proposed e
    kept (inl k) = inr (inl (feedback-out g bounds k))
    kept (inr k) = inr (inr k)

    go : e ∈ processor_edges g.tasks ⊎ e ∈ feedback_edges g ++ proposed → Origin g proposed e
    go (inl k) = inl k
    go (inr k) = kept (Memᴰ.append_cases (feedback_edges g) k)

pub result-processor : (g : Graph) (proposed : List Edge) {e : Edge} → e ∈ processor_edges g.tasks → e ∈ edges (result g proposed)
unfolding result
result-processor g proposed m = processor-edge-in (result g proposed) m

pub result-feedback : (g : Graph) → Ends (count g) g.syncs → (proposed : List Edge) {e : Edge} → e ∈ g.syncs → Feedback g e →
    e ∈ edges (result g proposed)
unfolding result
result-feedback g bounds proposed m f = sync-edge-in (result g proposed) (Memᴰ.append_left proposed (feedback-in g bounds m f))

pub result-proposed : (g : Graph) (proposed : List Edge) {e : Edge} → e ∈ proposed → e ∈ edges (result g proposed)
unfolding result
result-proposed g proposed m = sync-edge-in (result g proposed) (Memᴰ.append_right (feedback_edges g) m)

module _ (g : Graph) (bounds : Ends (count g) g.syncs) (proposed : List Edge) (ends : Ends (count g) proposed) where
  pub result-ends : Ends (count g) (edges (result g proposed))
  unfolding result
  result-ends e m = go (result-cases g bounds proposed m)
    where
      go : Origin g proposed e → (e.source < count g) × (e.sink < count g)
      go (inl k) = graph-ends g bounds e (processor-edge-in g k)
      go (inr (inl k)) = bounds e k.0
      go (inr (inr k)) = ends e k

  pub result-serial : Serial (count g) (edges (result g proposed))
  unfolding result
  result-serial = graph-serial (result g proposed)

  module _ (off_cycles : NoneOnCycle (edges (result g proposed)) proposed) where
    pub result-same-cycles : SameCycles (edges g) (edges (result g proposed))
    result-same-cycles = same-cycles kept original
      where
        kept : (e : Edge) → OnCycle (edges g) e → e ∈ edges (result g proposed)
        kept e c = go (edge-cases g (cycle-back c).0)
          where
            go : e ∈ processor_edges g.tasks ⊎ e ∈ g.syncs → e ∈ edges (result g proposed)
            go (inl k) = result-processor g proposed k
            go (inr k) = result-feedback g bounds proposed k c

        original : (e : Edge) → OnCycle (edges (result g proposed)) e → e ∈ edges g
        original e c = go (result-cases g bounds proposed (cycle-back c).0)
          where
            go : Origin g proposed e → e ∈ edges g
            go (inl k) = processor-edge-in g k
            go (inr (inl k)) = sync-edge-in g k.0
            go (inr (inr k)) = absurd (off_cycles e k c)

    pub result-acyclic : NoZeroCycle (edges g) → NoZeroCycle (edges (result g proposed))
    result-acyclic acyclic = same-acyclic result-same-cycles acyclic

-- ── The statements ──

pub result-has : ResultHas
result-has g bounds proposed e = (from, into)
  where
    from : e ∈ edges (result g proposed) → ProcessorEdge g.tasks e ⊎ ((e ∈ g.syncs × Feedback g e) ⊎ e ∈ proposed)
    from m = go (result-cases g bounds proposed m)
      where
        go : Origin g proposed e → ProcessorEdge g.tasks e ⊎ ((e ∈ g.syncs × Feedback g e) ⊎ e ∈ proposed)
        go (inl k) = inl ((processor-edges g.tasks e).0 k)
        go (inr k) = inr k

    into : ProcessorEdge g.tasks e ⊎ ((e ∈ g.syncs × Feedback g e) ⊎ e ∈ proposed) → e ∈ edges (result g proposed)
    into (inl k) = result-processor g proposed ((processor-edges g.tasks e).1 k)
    into (inr (inl k)) = result-feedback g bounds proposed k.0 k.1
    into (inr (inr k)) = result-proposed g proposed k

pub result-drops : ResultDrops
result-drops g bounds proposed e forward m = go (result-cases g bounds proposed m)
  where
    go : Origin g proposed e → e ∈ proposed
    go (inl k) = absurd (forward (processor-feedback g k))
    go (inr (inl k)) = absurd (forward k.1)
    go (inr (inr k)) = k

pub within-processor : WithinProcessor
unfolding result
within-processor g proposed bounds e m same =
    let l = bounds e m in
    back-cycle (result-proposed g proposed m)
    (path-re-base (λ f k. result-processor g proposed k) (processor-around g.tasks e.sink e.source l.1 l.0 (sym same)))

pub result-cycles : ResultCycles
result-cycles g proposed h = result-same-cycles g h.sync_ends proposed h.proposed_ends h.off_cycles
