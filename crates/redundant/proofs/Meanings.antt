-- Every sentence of specs/Theorems.antt, proved: each mark is computed by a test of the model whose meaning the model proves; where the graph is refused, no
-- bit of a word is set.
use mathlib.Core.Path.{◌≡◌, refl, sym, ◌∙◌, ap, subst}
use mathlib.Core.Logic.{◌⊎◌, inl, inr, ◌≢◌}
use mathlib.Core.Bool.{Bool, false}
use mathlib.Core.List.{Memᴰ}
use Prim.Native.Nat.{ℕ, ◌≤◌, ◌<◌, zero-le, suc, ◌-◌, zero, ◌/◌, ◌%◌, ◌^◌}
use native.Mathlib.Nat.{zero-div}
use native.Mathlib.Omega.{arith}
use lib.Dec.{T, eqb}
use lib.ListN.{length, get_or}
use Rattle.model.specs.Lists.{sum_over}
use Rattle.model.specs.Paths.{Redundant}
use Rattle.model.specs.Compute.{is_redundant}
use Rattle.model.specs.Theorems.{Decides}
use Rattle.model.proofs.Theorems.{redundant-is}
use Rattle.model.proofs.Tests.{decides-yes}
use Rattle.files.specs.Files.{graph_of}
use Rattle.files.proofs.First.{zero_or_not, if-refused, refused, if-passed}
use Rattle.marks.specs.declared.Marks.{Marks}
use Rattle.marks.specs.Marks.{marks_of, set_below, mark_at, bit_of, places_below}
use Rattle.marks.proofs.Laws.{count_of, mark_of, set-below-past}
use Rattle.marks.proofs.Listed.{places-are}
use Rattle.acceptance.specs.Acceptance.{acceptance_refusal}
use Rattle.acceptance.specs.Outcomes.{outcome}
use Rattle.acceptance.proofs.AcceptedFiles.{accepted}
use Rattle.acceptance.proofs.Judged.{accepted-iff-passed}
use Rattle.redundant.specs.Redundant.{no_marks, redundant_of}
use Rattle.redundant.specs.Theorems.{RedundantGiven, RedundantRefused, RedundantMean, RedundantCounted, RedundantListed}

pub redundant_given : RedundantGiven
unfolding redundant_of outcome
redundant_given s = accepted-iff-passed s

pub redundant_refused : RedundantRefused
unfolding redundant_of outcome
redundant_refused s some = (
  refl,
  if-refused (acceptance_refusal s).number (marks_of (is_redundant (graph_of s))) no_marks some,
  if-refused (acceptance_refusal s).number (set_below 256 (is_redundant (graph_of s))) 0 some,
)

pub redundant-mean : RedundantMean
unfolding redundant_of
redundant-mean s accepted i l =
    let none = (accepted-iff-passed s).1 accepted in
    let marked = is_redundant (graph_of s) in
    subst (λ (b : Bool). Decides b (Redundant (graph_of s) i))
    (sym (ap (λ (m : Marks). mark_at m i) (if-passed (acceptance_refusal s).number (marks_of marked) no_marks none) ∙ mark_of marked i l))
    (redundant-is (graph_of s) accepted.1.formed.syncs_formed.ends i)

pub redundant-listed : RedundantListed
redundant-listed s accepted p = (to, back)
  where
    to : Memᴰ p (places_below 256 (mark_at (redundant_of s).marks)) → (1 ≤ p) × Redundant (graph_of s) (p - 1)
    to m =
        let h = (places-are 256 (mark_at (redundant_of s).marks) p).0 m in
        (h.0, (redundant-mean s accepted (p - 1) (omega (arith, h.0, h.1))).if_true (subst T (sym h.2) tt))

    back : (1 ≤ p) × Redundant (graph_of s) (p - 1) → Memᴰ p (places_below 256 (mark_at (redundant_of s).marks))
    back (low, redundant) =
        let few : length (graph_of s).syncs ≤ 256 = accepted.1.formed.syncs_formed.few in
        let below : p - 1 < 256 = omega (arith, redundant.0) in
        (places-are 256 (mark_at (redundant_of s).marks) p).1
        (low, omega (arith, low, below), decides-yes (redundant-mean s accepted (p - 1) below) redundant)

-- ── Marks ──

no-bit : (j : ℕ) → bit_of 0 j ≡ false
unfolding bit_of
no-bit j = ap (λ (x : ℕ). eqb (x % 2) 1) (zero-div (2 ^ (63 - j)))

no_word : (w : ℕ) → get_or no_marks.words w 0 ≡ 0
unfolding no_marks
no_word zero = refl
no_word (suc zero) = refl
no_word (suc (suc zero)) = refl
no_word (suc (suc (suc zero))) = refl
no_word (suc (suc (suc (suc w)))) = refl

none-set : set_below 256 (mark_at no_marks) ≡ 0
unfolding mark_at set_below sum_over
none-set =
    set-below-past 0 256 (mark_at no_marks) zero-le
    (λ i past. ap (λ (word : ℕ). bit_of word (i % 64)) (no_word (i / 64)) ∙ no-bit (i % 64))

pub redundant-counted : RedundantCounted
unfolding redundant_of
redundant-counted s = go (zero_or_not (acceptance_refusal s).number)
  where
    n : ℕ
    n = (acceptance_refusal s).number

    marked : ℕ → Bool
    marked = is_redundant (graph_of s)

    go : ((acceptance_refusal s).number ≡ 0) ⊎ ((acceptance_refusal s).number ≢ 0) → (redundant_of s).count ≡ set_below 256 (mark_at (redundant_of s).marks)
    go (inl none) =
        if-passed n (set_below 256 marked) 0 none ∙
        (sym (count_of marked) ∙ ap (λ (m : Marks). set_below 256 (mark_at m)) (sym (if-passed n (marks_of marked) no_marks none)))
    go (inr refused) =
        if-refused n (set_below 256 marked) 0 refused ∙
        (sym none-set ∙ ap (λ (m : Marks). set_below 256 (mark_at m)) (sym (if-refused n (marks_of marked) no_marks refused)))
