-- What the searches of 13 and 14 find of a result: each goes by a test that decides its condition, since the result's edges lead between tasks; and what the
-- edges of a result are beside an accepted graph.
use mathlib.Core.Path.{◌≡◌, sym, subst}
use mathlib.Core.Logic.{◌⊎◌, inl, inr}
use mathlib.Core.Bool.{false, not}
use mathlib.Core.List.{List}
use Prim.Native.Nat.{ℕ, ◌≤◌, ◌<◌}
use native.Mathlib.Nat.{le_refl}
use native.Mathlib.Omega.{arith}
use lib.ListN.{length}
use Rattle.model.specs.Tasks.{Edge, ◌∈◌, Ends, no_edge}
use Rattle.model.specs.Processors.{processor_edges}
use Rattle.model.specs.Graph.{Graph, WellFormed, WellFormedEdges, count, edges}
use Rattle.model.specs.Paths.{OnCycle, NoneOnCycle, NoZeroCycle, OrderHeld, AllHeld, SomeLost, sync_at}
use Rattle.model.specs.Compute.{on_cycle, order_holds, zero_cycle}
use Rattle.model.specs.Proposals.{result, AcceptedGraph}
use Rattle.model.specs.Theorems.{Decides, OffCycles}
use Rattle.model.proofs.Basics.{member-place, place-member}
use Rattle.model.proofs.Walks.{path-edge}
use Rattle.model.proofs.Tests.{decided, decides_not, decides-no, path-held}
use Rattle.model.proofs.Graphs.{edge-cases, processor-edge-in, sync-edge-in, graph-delays}
use Rattle.model.proofs.Results.{Origin, result-cases, result-processor, result-proposed, result-ends, result-acyclic}
use Rattle.model.proofs.Theorems.{order-holds-is, on-cycle-is, zero-cycle-is}
use Rattle.delays.specs.Delays.{Fit}
use Rattle.files.specs.Refusals.{not_refused}
use Rattle.files.specs.Files.{edge_in}
use Rattle.files.proofs.First.{Finds, finds, nothing-there, nothing-found, number-found}
use Rattle.judgement.specs.Judgement.{cycle_refusal, lost_refusal}
use Rattle.judgement.proofs.Chain.{cycles_searched, orders_searched}

-- an edge of a list stands at a place, and what stands at a place is one
pub edge-there : (es : List Edge) (j : ℕ) → j < length es → edge_in es j ∈ es
unfolding edge_in
edge-there es j below = place-member es j no_edge below

pub none-on-cycle : (rs es : List Edge) → ((j : ℕ) → j < length es → OnCycle rs (edge_in es j) → ⊥) → NoneOnCycle rs es
unfolding edge_in
none-on-cycle rs es none e m on = let p = member-place no_edge m in none p.0 p.1 (subst (OnCycle rs) (sym p.2) on)

module _ (g : Graph) (proposed : List Edge) (graph : WellFormed g) (formed : WellFormedEdges (count g) proposed) where
  between-tasks : Ends (count g) (edges (result g proposed))
  between-tasks = result-ends g graph.syncs_formed.ends proposed formed.ends

  pub result-fit : Fit (count g) (edges (result g proposed))
  result-fit = record { ends = between-tasks; delays = λ e m. small e (result-cases g graph.syncs_formed.ends proposed m) }
    where
      small : (e : Edge) → Origin g proposed e → e.delay ≤ 255
      small e (inl k) = graph-delays g graph.syncs_formed e (processor-edge-in g k)
      small e (inr (inl k)) = graph.syncs_formed.delays e k.0
      small e (inr (inr k)) = formed.delays e k

  -- ── 13 ──

  pub on-cycle-at :
      (j : ℕ) → j < length proposed →
      Decides (on_cycle (count g) (edges (result g proposed)) (edge_in proposed j)) (OnCycle (edges (result g proposed)) (edge_in proposed j))
  on-cycle-at j below =
      on-cycle-is (count g) (edges (result g proposed)) between-tasks (edge_in proposed j) (result-proposed g proposed (edge-there proposed j below))

  pub cycles-found : Finds (length proposed) 13 (λ j. OnCycle (edges (result g proposed)) (edge_in proposed j)) (cycles_searched g proposed)
  unfolding cycle_refusal
  cycles-found = finds (length proposed) 13 (λ j. on_cycle (count g) (edges (result g proposed)) (edge_in proposed j)) (λ z. omega arith) on-cycle-at

  pub off-cycles-pass : NoneOnCycle (edges (result g proposed)) proposed → cycles_searched g proposed ≡ not_refused
  off-cycles-pass off = nothing-there cycles-found (λ j below. off (edge_in proposed j) (edge-there proposed j below))

  pub passed-off-cycles : (cycles_searched g proposed).number ≡ 0 → NoneOnCycle (edges (result g proposed)) proposed
  passed-off-cycles none = none-on-cycle (edges (result g proposed)) proposed (nothing-found cycles-found (λ z. omega arith) none)

  pub cycle-stops : (e : Edge) → e ∈ proposed → OnCycle (edges (result g proposed)) e → (cycles_searched g proposed).number ≡ 13
  cycle-stops e m c = number-found cycles-found (λ none. passed-off-cycles none e m c)

  -- ── 14 ──

  pub order-at : (e : Edge) → Decides (order_holds (count g) (edges (result g proposed)) e) (OrderHeld (edges (result g proposed)) e)
  order-at e = order-holds-is (count g) (edges (result g proposed)) between-tasks e

  pub orders-found : Finds (length g.syncs) 14 (λ j. OrderHeld (edges (result g proposed)) (sync_at g j) → ⊥) (orders_searched g proposed)
  unfolding lost_refusal
  orders-found =
      finds (length g.syncs) 14 (λ j. not (order_holds (count g) (edges (result g proposed)) (sync_at g j))) (λ z. omega arith)
      (λ j below. decides_not (order-at (sync_at g j)))

  -- the synchronization edges are all there is to look at: a processor edge is one of the result's, so a path of it
  pub held_all :
      ((j : ℕ) → j < length g.syncs → (OrderHeld (edges (result g proposed)) (sync_at g j) → ⊥) → ⊥) → AllHeld (edges (result g proposed)) (edges g)
  unfolding sync_at
  held_all held e m = go (edge-cases g m)
    where
      still : (j : ℕ) → j < length g.syncs → OrderHeld (edges (result g proposed)) (sync_at g j) ⊎ (OrderHeld (edges (result g proposed)) (sync_at g j) → ⊥) →
          OrderHeld (edges (result g proposed)) (sync_at g j)
      still j below (inl kept) = kept
      still j below (inr lost) = absurd (held j below lost)

      go : e ∈ processor_edges g.tasks ⊎ e ∈ g.syncs → OrderHeld (edges (result g proposed)) e
      go (inl k) = path-held between-tasks e (path-edge (result-processor g proposed k)) (le_refl e.delay)
      go (inr k) =
          let p = member-place no_edge k in
          subst (λ (x : Edge). OrderHeld (edges (result g proposed)) x) p.2 (still p.0 p.1 (decided (order-at (sync_at g p.0))))

  pub sync-in : (j : ℕ) → j < length g.syncs → sync_at g j ∈ edges g
  unfolding sync_at
  sync-in j below = sync-edge-in g (place-member g.syncs j no_edge below)

  pub held-pass : AllHeld (edges (result g proposed)) (edges g) → orders_searched g proposed ≡ not_refused
  held-pass held = nothing-there orders-found (λ j below lost. lost (held (sync_at g j) (sync-in j below)))

  pub passed-held : (orders_searched g proposed).number ≡ 0 → AllHeld (edges (result g proposed)) (edges g)
  passed-held none = held_all (nothing-found orders-found (λ z. omega arith) none)

  pub lost-stops : SomeLost (edges (result g proposed)) (edges g) → (orders_searched g proposed).number ≡ 14
  lost-stops (e, m, lost) = number-found orders-found (λ none. lost (passed-held none e m))

-- ── Beside an accepted graph ──

module _ (g : Graph) (proposed : List Edge) (graph : AcceptedGraph g) (formed : WellFormedEdges (count g) proposed) where
  pub off-cycles-of : NoneOnCycle (edges (result g proposed)) proposed → OffCycles g proposed
  off-cycles-of off =
      record {
        sync_ends = graph.formed.syncs_formed.ends;
        proposed_ends = formed.ends;
        no_zero_cycle = graph.no_zero_cycle;
        off_cycles = off;
      }

  pub acyclic-result : NoneOnCycle (edges (result g proposed)) proposed → NoZeroCycle (edges (result g proposed))
  acyclic-result off = result-acyclic g graph.formed.syncs_formed.ends proposed formed.ends off graph.no_zero_cycle

  pub zero-cycle-false : NoneOnCycle (edges (result g proposed)) proposed → zero_cycle (count g) (edges (result g proposed)) ≡ false
  zero-cycle-false off =
      decides-no (zero-cycle-is (count g) (edges (result g proposed)) (between-tasks g proposed graph.formed formed)) (acyclic-result off)
