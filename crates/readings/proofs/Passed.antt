-- What is known of a file of which nothing is refused: every check passed, so no condition of a refusal holds.
use mathlib.Core.Path.{◌≡◌, refl, sym, ◌∙◌}
use mathlib.Core.Logic.{◌⊎◌, inl, inr, ◌≢◌}
use mathlib.Core.Bool.{Bool, true, false, not, ◌||◌, true≢false}
use mathlib.Core.List.{List, ◌∷◌}
use Prim.Native.Nat.{ℕ, ◌≤◌, ◌<◌}
use native.Mathlib.Omega.{arith}
use lib.Dec.{eqb, ltb}
use lib.ListN.{length}
use borrow.Author.Tests.{ltb-true, ltb-false, eqb-true, not-false}
use Rattle.layout.specs.Layout.{graph_header, proposal_header, bytes_for, filling}
use Rattle.files.specs.declared.Refusal.{Refusal}
use Rattle.files.specs.Refusals.{refuse, first}
use Rattle.files.specs.Files.{task_count, edge_count, graph_bits, proposal_bits, graph_header_refusal, proposal_header_refusal, length_refusal, filling_refusal, zeros_refusal, header_ends_refusal, graph_frame_refusal, proposal_frame_refusal}
use Rattle.files.proofs.First.{passes, stops, number_same, refused, zero_or_not}
use Rattle.files.proofs.Frame.{length-exact}

pub head_passed : (r : Refusal) (rs : List Refusal) → (first (r ∷ rs)).number ≡ 0 → r.number ≡ 0
head_passed r rs none = go (zero_or_not r.number)
  where
    go : (r.number ≡ 0) ⊎ (r.number ≢ 0) → r.number ≡ 0
    go (inl z) = z
    go (inr s) = number_same (sym (stops r rs s)) ∙ none

pub tail-passed : (r : Refusal) (rs : List Refusal) → (first (r ∷ rs)).number ≡ 0 → (first rs).number ≡ 0
tail-passed r rs none = number_same (sym (passes r rs (head_passed r rs none))) ∙ none

pub check-passed : (b : Bool) (n p : ℕ) → n ≢ 0 → (refuse b n p).number ≡ 0 → b ≡ false
check-passed true n p some none = absurd (some (number_same (sym (refused n p refl)) ∙ none))
check-passed false n p some none = refl

pub or_left_false : (a b : Bool) → (a || b) ≡ false → a ≡ false
or_left_false true b e = e
or_left_false false b e = refl

pub or_right_false : (a b : Bool) → (a || b) ≡ false → b ≡ false
or_right_false true b e = absurd (true≢false e)
or_right_false false b e = e

-- ── Header, length, filling ──

-- a graph file that passes "header 1, 2, 3; length 1 or 4; filling 4; header 6"
pub record GraphFrame (s : List ℕ) : Type 0 where
  pub version-one : (graph_header s).version ≡ 1
  pub two_tasks : 2 ≤ task_count s
  pub at_most_64 : task_count s ≤ 64
  pub at-most-256 : edge_count s ≤ 256
  pub exact : length s ≡ bytes_for (graph_bits s)
  pub no-filling : filling s (graph_bits s) ≡ 0
  pub input_below : (graph_header s).input < task_count s
  pub output_below : (graph_header s).output < task_count s

pub graph-frame-passed : (s : List ℕ) → (graph_frame_refusal s).number ≡ 0 → GraphFrame s
unfolding graph_frame_refusal graph_header_refusal filling_refusal header_ends_refusal
graph-frame-passed s none =
    let header = head_passed (graph_header_refusal s) _ none in
    let rest = tail-passed (graph_header_refusal s) _ none in
    let after = tail-passed (length_refusal s (graph_bits s)) _ rest in
    let ends = head_passed (header_ends_refusal s) _ (tail-passed (filling_refusal s (graph_bits s)) _ after) in
    let from-version = tail-passed (refuse (ltb (length s) 7) 1 0) _ header in
    let version = check-passed _ 2 0 (λ z. omega arith) (head_passed (refuse (not (eqb (graph_header s).version 1)) 2 0) _ from-version) in
    let counts = check-passed (ltb (task_count s) 2 || ltb 64 (task_count s) || ltb 256 (edge_count s)) 3 0 (λ z. omega arith) (head_passed _ _ (tail-passed (refuse (not (eqb (graph_header s).version 1)) 2 0) _ from-version)) in
    let tasks = or_left_false (ltb (task_count s) 2 || ltb 64 (task_count s)) (ltb 256 (edge_count s)) counts in
    let both = check-passed (not (ltb (graph_header s).input (task_count s)) || not (ltb (graph_header s).output (task_count s))) 6 0 (λ z. omega arith) ends in
    record {
      version-one = eqb-true _ _ (not-false _ version);
      two_tasks = ltb-false _ _ (or_left_false (ltb (task_count s) 2) (ltb 64 (task_count s)) tasks);
      at_most_64 = ltb-false _ _ (or_right_false (ltb (task_count s) 2) (ltb 64 (task_count s)) tasks);
      at-most-256 = ltb-false _ _ (or_right_false (ltb (task_count s) 2 || ltb 64 (task_count s)) (ltb 256 (edge_count s)) counts);
      exact = length-exact s (graph_bits s) (head_passed (length_refusal s (graph_bits s)) _ rest);
      no-filling = eqb-true _ _ (not-false _ (check-passed _ 4 0 (λ z. omega arith) (head_passed (filling_refusal s (graph_bits s)) _ after)));
      input_below = ltb-true _ _ (not-false _ (or_left_false (not (ltb (graph_header s).input (task_count s))) (not (ltb (graph_header s).output (task_count s))) both));
      output_below = ltb-true _ _ (not-false _ (or_right_false (not (ltb (graph_header s).input (task_count s))) (not (ltb (graph_header s).output (task_count s))) both));
    }

-- a proposal file that passes "header 1, 2, 3; length 1 or 4; its two zero bits and filling 4"
pub record ProposalFrame (s : List ℕ) : Type 0 where
  pub version-one : (proposal_header s).version ≡ 1
  pub at-most-256 : (proposal_header s).edges ≤ 256
  pub exact : length s ≡ bytes_for (proposal_bits s)
  pub zero-bits-unset : (proposal_header s).zeros ≡ 0
  pub no-filling : filling s (proposal_bits s) ≡ 0

pub proposal-frame-passed : (s : List ℕ) → (proposal_frame_refusal s).number ≡ 0 → ProposalFrame s
unfolding proposal_frame_refusal proposal_header_refusal zeros_refusal filling_refusal
proposal-frame-passed s none =
    let header = head_passed (proposal_header_refusal s) _ none in
    let rest = tail-passed (proposal_header_refusal s) _ none in
    let after = tail-passed (length_refusal s (proposal_bits s)) _ rest in
    let from-version = tail-passed (refuse (ltb (length s) 2) 1 0) _ header in
    let version = check-passed _ 2 0 (λ z. omega arith) (head_passed (refuse (not (eqb (proposal_header s).version 1)) 2 0) _ from-version) in
    let few = check-passed _ 3 0 (λ z. omega arith) (head_passed (refuse (ltb 256 (proposal_header s).edges) 3 0) _ (tail-passed (refuse (not (eqb (proposal_header s).version 1)) 2 0) _ from-version)) in
    let fill = head_passed (filling_refusal s (proposal_bits s)) _ (tail-passed (zeros_refusal s) _ after) in
    record {
      version-one = eqb-true _ _ (not-false _ version);
      at-most-256 = ltb-false _ _ few;
      exact = length-exact s (proposal_bits s) (head_passed (length_refusal s (proposal_bits s)) _ rest);
      zero-bits-unset = eqb-true _ _ (not-false _ (check-passed _ 4 0 (λ z. omega arith) (head_passed (zeros_refusal s) _ after)));
      no-filling = eqb-true _ _ (not-false _ (check-passed _ 4 0 (λ z. omega arith) fill));
    }
