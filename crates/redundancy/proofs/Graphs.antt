-- A graph's redundant edges are those of its list of edges, the processor edges standing first: the list without a synchronization edge is the same by its
-- number and by its place. No synchronization edge stands twice, since none has its ends on one processor as a processor edge has.
use mathlib.Core.Path.{◌≡◌, sym, ap, ◌∙◌, subst}
use mathlib.Core.Logic.{◌⊎◌, inl, inr}
use mathlib.Core.Bool.{◌&&◌}
use mathlib.Core.List.Memᴰ.{head as here}
use mathlib.Core.List.Memᴰ.{tail as there}
use mathlib.Core.List.{List, [], ◌∷◌, ◌++◌}
use Prim.Native.Nat.{ℕ, zero, suc, ◌+◌, ◌≤◌, ◌<◌}
use native.Mathlib.Nat.{not-suc-le-zero, zero-add, suc-add}
use native.Mathlib.Omega.{arith}
use lib.Dec.{ltb}
use lib.ListN.{length, get_or}
use Rattle.model.specs.Lists.{without}
use Rattle.model.specs.Tasks.{Edge, ◌∈◌, Distinct, no_edge}
use Rattle.model.specs.Processors.{processor_edges}
use Rattle.model.specs.Graph.{Graph, WellFormed, count, edges}
use Rattle.model.specs.Paths.{edges_without, sync_at, NoZeroCycle}
use Rattle.model.specs.Compute.{order_holds, is_redundant}
use Rattle.model.proofs.Processors.{processor-same}
use Rattle.model.proofs.Basics.{order, place-member}
use Rattle.model.proofs.Tests.{decides-yes, decides-no, ltb-decides}
use Rattle.model.proofs.Graphs.{without-cases}
use Rattle.records.proofs.Ordered.{processor-edges-count, edges-count, sync-place}
use Rattle.redundancy.specs.Redundancy.{redundant_in, Apart}

without-behind : (xs ys : List Edge) (i : ℕ) → without (length xs + i) (xs ++ ys) ≡ xs ++ without i ys
unfolding without
without-behind [] ys i = ap (λ (k : ℕ). without k ys) (zero-add i)
without-behind (x ∷ xs) ys i =
    ap (λ (k : ℕ). without k (x ∷ (xs ++ ys))) (suc-add (length xs) i) ∙ ap (λ (zs : List Edge). x ∷ zs) (without-behind xs ys i)

ltb-behind : (n a b : ℕ) → ltb a b ≡ ltb (n + a) (n + b)
ltb-behind n a b = go (order b a)
  where
    go : (b ≤ a) ⊎ (a < b) → ltb a b ≡ ltb (n + a) (n + b)
    go (inl h) = decides-no (ltb-decides a b) (λ l. omega arith) ∙ sym (decides-no (ltb-decides (n + a) (n + b)) (λ l. omega arith))
    go (inr h) = decides-yes (ltb-decides a b) h ∙ sym (decides-yes (ltb-decides (n + a) (n + b)) (omega arith))

not-twice : (i : ℕ) (es : List Edge) → Distinct es → i < length es → get_or es i no_edge ∈ without i es → ⊥
unfolding without
not-twice i [] d l m = not-suc-le-zero l
not-twice zero (e ∷ es) d l m = d.0 m
not-twice (suc i) (e ∷ es) d l (here q) = d.0 (subst (λ (x : Edge). x ∈ es) q (place-member es i no_edge (omega arith)))
not-twice (suc i) (e ∷ es) d l (there m) = not-twice i es d.1 (omega arith) m

module _ (g : Graph) where
  without_at : (i : ℕ) → edges_without g i ≡ without (count g + i) (edges g)
  unfolding edges_without edges
  without_at i =
      sym (without-behind (processor_edges g.tasks) g.syncs i) ∙
      ap (λ (n : ℕ). without (n + i) (processor_edges g.tasks ++ g.syncs)) (processor-edges-count g)

  sync-is : (i : ℕ) → sync_at g i ≡ get_or (edges g) (count g + i) no_edge
  unfolding sync_at
  sync-is i = sym (sync-place g i)

  pub redundant-in : (i : ℕ) → is_redundant g i ≡ redundant_in (count g) (edges g) i
  unfolding is_redundant redundant_in
  redundant-in i =
      let inside : ltb i (length g.syncs) ≡ ltb (count g + i) (length (edges g)) =
      ltb-behind (count g) i (length g.syncs) ∙ ap (λ (m : ℕ). ltb (count g + i) m) (sym (edges-count g)) in
      λ x. inside x && order_holds (count g) (without_at i x) (sync-is i x)

  module _ (formed : WellFormed g) where
    alone : (i : ℕ) → i < length g.syncs → sync_at g i ∈ edges_without g i → ⊥
    unfolding sync_at
    alone i l m = go (without-cases g i m)
      where
        go : sync_at g i ∈ processor_edges g.tasks ⊎ sync_at g i ∈ without i g.syncs → ⊥
        go (inl k) = formed.between_processors (sync_at g i) (place-member g.syncs i no_edge l) (processor-same g.tasks (sync_at g i) k)
        go (inr k) = not-twice i g.syncs formed.syncs_formed.distinct l k

    apart : NoZeroCycle (edges g) → Apart (count g) (edges g)
    apart acyclic = record {
      no_zero_cycle = acyclic;
      once = λ i l m. alone i (omega (arith, l, edges-count g)) (coe 1 0 (x. sync-is i x ∈ without_at i x) m);
    }

    -- lists that hold the graph's edges are such edges
    pub graph-apart : NoZeroCycle (edges g) → {n : ℕ} {es : List Edge} → n ≡ count g → es ≡ edges g → Apart n es
    graph-apart acyclic {n} {es} tasks-are edges_are = coe 1 0 (i. Apart (tasks-are i) (edges_are i)) (apart acyclic)
