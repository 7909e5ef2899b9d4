-- A loop that stores into the entries of a list, one after the other from a place on: after k steps k of them are done, and the others are as before.
use mathlib.Core.Path.{◌≡◌, refl, sym, ap, ◌∙◌}
use mathlib.Core.Logic.{◌⊎◌, inl, inr, ⊎_elim}
use mathlib.Core.List.{List}
use Prim.Native.Nat.{ℕ, ◌+◌, ◌≤◌, ◌<◌}
use native.Mathlib.Nat.{not-suc-le-zero}
use native.Mathlib.Omega.{arith}
use lib.ListN.{length, get_or, set, length-set}
use lib.Seq.{get_or-set_same, get_or-set_other}
use Rattle.model.proofs.Basics.{order}

pub record PartDone (at k : ℕ) (g : ℕ → ℕ) (before after : List ℕ) : Type 0 where
  pub size : length after ≡ length before
  pub done : (b : ℕ) → b < k → get_or after (at + b) 0 ≡ g b
  pub rest : (i : ℕ) → (i < at) ⊎ (at + k ≤ i) → get_or after i 0 ≡ get_or before i 0

pub part_none : (at : ℕ) (g : ℕ → ℕ) (before : List ℕ) → PartDone at 0 g before before
part_none at g before = record { size = refl; done = λ b l. absurd (not-suc-le-zero l); rest = λ i out. refl }

module _ {at k : ℕ} {g : ℕ → ℕ} {before after : List ℕ} (part : PartDone at k g before after) where
  -- the entry that is next is as it was
  pub part-next : (p : ℕ) → p ≡ at + k → get_or after p 0 ≡ get_or before p 0
  part-next p is = part.rest p (inr (omega arith))

  pub part-more : (p v : ℕ) → p ≡ at + k → p < length after → v ≡ g k → PartDone at (k + 1) g before (set after p v)
  part-more p v is inside value = record {
    size = length-set after p v ∙ part.size;
    done = λ b l. go b l (order k b);
    rest = λ i out.
        get_or-set_other after p i v 0 (⊎_elim (λ l q. omega arith) (λ l q. omega arith) out) ∙
        part.rest i (⊎_elim (λ l. inl l) (λ l. inr (omega arith)) out);
  }
    where
      go : (b : ℕ) → b < k + 1 → (k ≤ b) ⊎ (b < k) → get_or (set after p v) (at + b) 0 ≡ g b
      go b l (inl last) =
          let same : b ≡ k = omega arith in
          let place : at + b ≡ p = omega arith in
          ap (λ (i : ℕ). get_or (set after p v) i 0) place ∙ (get_or-set_same after p v 0 inside ∙ (value ∙ ap g (sym same)))
      go b l (inr earlier) = get_or-set_other after p (at + b) v 0 (λ q. omega arith) ∙ part.done b earlier

-- from the start of the list
pub front-done : {k : ℕ} {g : ℕ → ℕ} {before after : List ℕ} → PartDone 0 k g before after → (i : ℕ) → i < k → get_or after i 0 ≡ g i
front-done {after = after} part i l =
    let start : i ≡ 0 + i = omega arith in
    ap (λ (j : ℕ). get_or after j 0) start ∙ part.done i l
