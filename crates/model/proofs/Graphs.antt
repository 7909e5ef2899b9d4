-- The theorems on edge lists, for the edges of a graph: their ends are tasks, and the processor edges make it serial.
use mathlib.Core.Path.{◌≡◌, sym}
use mathlib.Core.Logic.{◌⊎◌, inl, inr}
use mathlib.Core.List.Memᴰ
use mathlib.Core.List.{◌++◌}
use Prim.Native.Nat.{ℕ, ◌≤◌, ◌<◌}
use native.Mathlib.Omega.{arith}
use lib.ListN.{length}
use Rattle.model.specs.Lists.{without}
use Rattle.model.specs.Tasks.{Edge, ◌∈◌, Ends, no_edge}
use Rattle.model.specs.Processors.{processor_edges}
use Rattle.model.specs.Graph.{Graph, count, edges, WellFormedEdges}
use Rattle.model.specs.Paths.{edges_without, sync_at, Feedback}
use Rattle.model.specs.Compute.{is_redundant, is_feedback}
use Rattle.model.specs.Theorems.{RedundantIs, FeedbackIs, GraphSerial}
use Rattle.model.proofs.Basics.{without-member, without_other}
use Rattle.model.proofs.Walks.{path-re-base, back-cycle}
use Rattle.model.proofs.Processors.{processor-ends, processor-same, processor-delay, processor-around, processor-serial}
use Rattle.model.proofs.Tests.{decides_and, ltb-decides, order-holds, on-cycle}

pub edge-cases : (g : Graph) {e : Edge} → e ∈ edges g → e ∈ processor_edges g.tasks ⊎ e ∈ g.syncs
unfolding edges
edge-cases g m = Memᴰ.append_cases (processor_edges g.tasks) m

pub processor-edge-in : (g : Graph) {e : Edge} → e ∈ processor_edges g.tasks → e ∈ edges g
unfolding edges
processor-edge-in g m = Memᴰ.append_left g.syncs m

pub sync-edge-in : (g : Graph) {e : Edge} → e ∈ g.syncs → e ∈ edges g
unfolding edges
sync-edge-in g m = Memᴰ.append_right (processor_edges g.tasks) m

pub graph-ends : (g : Graph) → Ends (count g) g.syncs → Ends (count g) (edges g)
graph-ends g bounds e m = go (edge-cases g m)
  where
    go : e ∈ processor_edges g.tasks ⊎ e ∈ g.syncs → (e.source < count g) × (e.sink < count g)
    go (inl k) = processor-ends g.tasks e k
    go (inr k) = bounds e k

-- every graph is serial: each task has its processor's cycle, of delay 1
pub graph-serial : GraphSerial
graph-serial g v l = path-re-base (λ e m. processor-edge-in g m) (processor-serial g.tasks v l)

-- every processor edge lies on its processor's cycle
pub processor-feedback : (g : Graph) {e : Edge} → e ∈ processor_edges g.tasks → Feedback g e
processor-feedback g {e} m =
    let l = processor-ends g.tasks e m in
    back-cycle (processor-edge-in g m)
    (path-re-base (λ f k. processor-edge-in g k) (processor-around g.tasks e.sink e.source l.1 l.0 (sym (processor-same g.tasks e m))))

-- a delay of a well-formed graph is at most 255
pub graph-delays : (g : Graph) → WellFormedEdges (count g) g.syncs → (e : Edge) → e ∈ edges g → e.delay ≤ 255
graph-delays g formed e m = go (edge-cases g m)
  where
    go : e ∈ processor_edges g.tasks ⊎ e ∈ g.syncs → e.delay ≤ 255
    go (inl k) = let l = processor-delay g.tasks e k in omega arith
    go (inr k) = formed.delays e k

-- ── Redundant ──

pub without-cases : (g : Graph) (i : ℕ) {e : Edge} → e ∈ edges_without g i → e ∈ processor_edges g.tasks ⊎ e ∈ without i g.syncs
unfolding edges_without
without-cases g i m = Memᴰ.append_cases (processor_edges g.tasks) m

pub without_in : (g : Graph) (i : ℕ) {e : Edge} → e ∈ edges_without g i → e ∈ edges g
without_in g i {e} m = go (without-cases g i m)
  where
    go : e ∈ processor_edges g.tasks ⊎ e ∈ without i g.syncs → e ∈ edges g
    go (inl k) = processor-edge-in g k
    go (inr k) = sync-edge-in g (without-member i g.syncs k)

-- an edge other than the one at place i stays
pub without-stays : (g : Graph) (i : ℕ) {e : Edge} → e ∈ edges g → (e ≡ sync_at g i → ⊥) → e ∈ edges_without g i
unfolding edges_without sync_at
without-stays g i {e} m other = go (edge-cases g m)
  where
    go : e ∈ processor_edges g.tasks ⊎ e ∈ g.syncs → e ∈ processor_edges g.tasks ++ without i g.syncs
    go (inl k) = Memᴰ.append_left (without i g.syncs) k
    go (inr k) = Memᴰ.append_right (processor_edges g.tasks) (without_other i g.syncs no_edge other k)

pub redundant-decides : RedundantIs
unfolding is_redundant
redundant-decides g bounds i =
    decides_and (ltb-decides i (length g.syncs)) (order-holds (λ e m. graph-ends g bounds e (without_in g i m)) (sync_at g i))

-- ── Feedback ──

pub feedback-decides : FeedbackIs
unfolding is_feedback
feedback-decides g bounds e m = on-cycle (graph-ends g bounds) e m
