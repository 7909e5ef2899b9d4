-- A loop that fills a list from the front, one store a step: after k steps its first k elements are f 0, f 1, .., and at the end all are. And laws
-- of lists made place by place.
use mathlib.Core.Path.{◌≡◌, refl, sym, ap, ◌∙◌, subst}
use mathlib.Core.List.{List, [], ◌∷◌, ◌++◌}
use mathlib.Core.Logic.{◌⊎◌, inl, inr}
use Prim.Native.Nat.{ℕ, zero, suc, ◌+◌, ◌<◌}
use native.Mathlib.Nat.{not-suc-le-zero}
use native.Mathlib.Numerals.{add-one}
use lib.ListN.{length, take, set, get_or, length-set, length-append, get_or-append}
use lib.Seq.{take-suc-set, take-length, get_or_at}
use Rattle.model.specs.Lists.{tabulate}
use Rattle.model.proofs.Basics.{below_suc}

pub record Filled {A : Type 0} (f : ℕ → A) (n k : ℕ) (xs : List A) : Type 0 where
  pub size : length xs ≡ n
  pub front : take k xs ≡ tabulate k f

pub filled_none : {A : Type 0} (f : ℕ → A) (n : ℕ) {xs : List A} → length xs ≡ n → Filled f n 0 xs
unfolding tabulate
filled_none f n same = record { size = same; front = refl }

pub filled_more : {A : Type 0} {f : ℕ → A} {n k : ℕ} {xs : List A} (a : A) → Filled f n k xs → k < n → a ≡ f k → Filled f n (k + 1) (set xs k a)
unfolding tabulate
filled_more {A} {f} {n} {k} {xs} a done below is =
    subst (λ (j : ℕ). Filled f n j (set xs k a)) (sym (add-one k)) (record {
      size = length-set xs k a ∙ done.size;
      front = take-suc-set xs k a (subst (λ (m : ℕ). k < m) (sym done.size) below) ∙ (ap (λ (ys : List A). ys ++ (a ∷ [])) done.front ∙ ap (λ (b : A). tabulate k f ++ (b ∷ [])) is);
    })

pub filled-all : {A : Type 0} {f : ℕ → A} {n k : ℕ} {xs : List A} → Filled f n k xs → k ≡ n → xs ≡ tabulate n f
filled-all {A} {f} {n} {k} {xs} done whole =
    sym (take-length xs) ∙ (ap (λ (m : ℕ). take m xs) (done.size ∙ sym whole) ∙ (done.front ∙ ap (λ (m : ℕ). tabulate m f) whole))

-- ── Lists made place by place ──

module _ {A : Type 0} where
  pub length-tabulate : (n : ℕ) (f : ℕ → A) → length (tabulate n f) ≡ n
  unfolding tabulate
  length-tabulate zero f = refl
  length-tabulate (suc n) f = length-append (tabulate n f) (f n ∷ []) ∙ (ap (λ (m : ℕ). m + 1) (length-tabulate n f) ∙ add-one n)

  pub get_d_tabulate : (n : ℕ) (f : ℕ → A) (d : A) (i : ℕ) → i < n → get_or (tabulate n f) i d ≡ f i
  unfolding tabulate
  get_d_tabulate zero f d i l = absurd (not-suc-le-zero l)
  get_d_tabulate (suc n) f d i l = go (below_suc l) (λ k. get_d_tabulate n f d i k)
    where
      go : (i < n) ⊎ (i ≡ n) → (i < n → get_or (tabulate n f) i d ≡ f i) → get_or (tabulate n f ++ (f n ∷ [])) i d ≡ f i
      go (inl k) shorter =
          get_or-append (tabulate n f) (f n ∷ []) d i (subst (λ (m : ℕ). i < m) (sym (length-tabulate n f)) k) ∙ shorter k
      go (inr e) shorter = get_or_at (tabulate n f) (f n) [] d i (length-tabulate n f ∙ sym e) ∙ ap f (sym e)
