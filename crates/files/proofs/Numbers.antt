-- The refusals of a file are numbers up to 8: a chain of checks gives none above all of its numbers.
use mathlib.Core.Path.{◌≡◌, sym, subst}
use mathlib.Core.Logic.{◌⊎◌, inl, inr, ◌≢◌}
use mathlib.Core.Bool.{Bool, true, false}
use mathlib.Core.List.{List, [], ◌∷◌, ◌++◌}
use Prim.Native.Nat.{ℕ, zero, suc, ◌≤◌, zero-le}
use lib.Dec.{lit≤}
use Rattle.model.specs.Lists.{tabulate}
use Rattle.files.specs.declared.Refusal.{Refusal}
use Rattle.files.specs.Refusals.{refuse, first}
use Rattle.files.specs.Files.{first_of, graph_header_refusal, length_refusal, filling_refusal, header_ends_refusal, graph_frame_refusal, time_refusal, ends_refusal, edge_refusal, repeat_refusal, graph_records_refusal, graph_refusal, proposal_header_refusal, zeros_refusal, proposal_frame_refusal, proposed_edges_refusal, proposal_refusal}
use Rattle.files.proofs.First.{passes, stops, no-checks, number_same, zero_or_not, passed-all, stopped-before}

module _ (limit : ℕ) where
  none_above : (first []).number ≤ limit
  none_above = subst (λ (n : ℕ). n ≤ limit) (sym (number_same no-checks)) zero-le

  either : (r : Refusal) (rs : List Refusal) → r.number ≤ limit → (first rs).number ≤ limit → (first (r ∷ rs)).number ≤ limit
  either r rs this later = go (zero_or_not r.number)
    where
      go : (r.number ≡ 0) ⊎ (r.number ≢ 0) → (first (r ∷ rs)).number ≤ limit
      go (inl none) = subst (λ (n : ℕ). n ≤ limit) (sym (number_same (passes r rs none))) later
      go (inr some) = subst (λ (n : ℕ). n ≤ limit) (sym (number_same (stops r rs some))) this

  one : (b : Bool) (n p : ℕ) → n ≤ limit → (refuse b n p).number ≤ limit
  unfolding refuse
  one true n p below = below
  one false n p below = zero-le

  each : (n : ℕ) (f : ℕ → Refusal) → ((i : ℕ) → (f i).number ≤ limit) → (first_of n f).number ≤ limit
  unfolding first_of tabulate
  each zero f below = none_above
  each (suc n) f below = go (zero_or_not (first (tabulate n f)).number) (each n f below)
    where
      go : ((first (tabulate n f)).number ≡ 0) ⊎ ((first (tabulate n f)).number ≢ 0) → (first (tabulate n f)).number ≤ limit →
          (first (tabulate n f ++ (f n ∷ []))).number ≤ limit
      go (inl none) earlier =
          subst (λ (k : ℕ). k ≤ limit) (sym (number_same (passed-all (tabulate n f) (f n ∷ []) none))) (either (f n) [] (below n) none_above)
      go (inr some) earlier = subst (λ (k : ℕ). k ≤ limit) (sym (number_same (stopped-before (tabulate n f) (f n ∷ []) some))) earlier

pub graph-numbers : (s : List ℕ) → (graph_refusal s).number ≤ 8
unfolding graph_refusal graph_frame_refusal graph_header_refusal length_refusal filling_refusal header_ends_refusal graph_records_refusal time_refusal edge_refusal ends_refusal repeat_refusal
graph-numbers s =
    either 8 _ _
    (either 8 _ _ (either 8 _ _ (one 8 _ 1 0 (lit≤ tt)) (either 8 _ _ (one 8 _ 2 0 (lit≤ tt)) (either 8 _ _ (one 8 _ 3 0 (lit≤ tt)) (none_above 8))))
    (either 8 _ _ (either 8 _ _ (one 8 _ 1 0 (lit≤ tt)) (either 8 _ _ (one 8 _ 4 0 (lit≤ tt)) (none_above 8)))
    (either 8 _ _ (one 8 _ 4 0 (lit≤ tt)) (either 8 _ _ (one 8 _ 6 0 (lit≤ tt)) (none_above 8)))))
    (either 8 _ _
    (either 8 _ _ (each 8 _ _ (λ i. one 8 _ 5 _ (lit≤ tt)))
    (either 8 _ _ (each 8 _ _ (λ i. either 8 _ _ (one 8 _ 6 _ (lit≤ tt)) (either 8 _ _ (one 8 _ 7 _ (lit≤ tt)) (none_above 8))))
    (either 8 _ _ (each 8 _ _ (λ i. one 8 _ 8 _ (lit≤ tt))) (none_above 8))))
    (none_above 8))

pub proposal-numbers : (n : ℕ) (s : List ℕ) → (proposal_refusal n s).number ≤ 8
unfolding proposal_refusal proposal_frame_refusal proposal_header_refusal length_refusal zeros_refusal filling_refusal proposed_edges_refusal ends_refusal repeat_refusal
proposal-numbers n s =
    either 8 _ _
    (either 8 _ _ (either 8 _ _ (one 8 _ 1 0 (lit≤ tt)) (either 8 _ _ (one 8 _ 2 0 (lit≤ tt)) (either 8 _ _ (one 8 _ 3 0 (lit≤ tt)) (none_above 8))))
    (either 8 _ _ (either 8 _ _ (one 8 _ 1 0 (lit≤ tt)) (either 8 _ _ (one 8 _ 4 0 (lit≤ tt)) (none_above 8)))
    (either 8 _ _ (one 8 _ 4 0 (lit≤ tt)) (either 8 _ _ (one 8 _ 4 0 (lit≤ tt)) (none_above 8)))))
    (either 8 _ _
    (either 8 _ _ (each 8 _ _ (λ i. one 8 _ 6 _ (lit≤ tt))) (either 8 _ _ (each 8 _ _ (λ i. one 8 _ 8 _ (lit≤ tt))) (none_above 8)))
    (none_above 8))
