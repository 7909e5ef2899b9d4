-- Laws of `keep` and `keep_places`: both keep what each part of a list keeps, one part after the other; `keep` a whole list whose elements all pass.
use mathlib.Core.Path.{◌≡◌, refl, sym, ap, ◌∙◌}
use mathlib.Core.Bool.{Bool, true, false}
use mathlib.Core.List.Memᴰ.{head as here}
use mathlib.Core.List.Memᴰ.{tail as there}
use mathlib.Core.List.{List, [], ◌∷◌, ◌++◌, append-nil, Memᴰ}
use Prim.Native.Nat.{ℕ, suc, ◌+◌, ◌<◌}
use native.Mathlib.Nat.{add-zero, zero-add}
use native.Mathlib.Omega.{arith}
use lib.Dec.{T}
use lib.ListN.{length}
use Rattle.model.specs.Lists.{put, keep, keep_places}
use Rattle.model.proofs.Basics.{is_true}

put-append : {A : Type 0} (b : Bool) (x : A) (xs ys : List A) → put b x xs ++ ys ≡ put b x (xs ++ ys)
unfolding put
put-append true x xs ys = refl
put-append false x xs ys = refl

module _ {A : Type 0} (t : A → Bool) where
  pub keep_append : (xs ys : List A) → keep t (xs ++ ys) ≡ keep t xs ++ keep t ys
  unfolding keep
  keep_append [] ys = refl
  keep_append (x ∷ xs) ys =
      ap (λ (zs : List A). put (t x) x zs) (keep_append xs ys) ∙ sym (put-append (t x) x (keep t xs) (keep t ys))

  -- one element more, which passes or does not
  pub keep-more : (xs : List A) (x : A) → t x ≡ true → keep t (xs ++ (x ∷ [])) ≡ keep t xs ++ (x ∷ [])
  unfolding keep put
  keep-more xs x passes = keep_append xs (x ∷ []) ∙ ap (λ (b : Bool). keep t xs ++ put b x []) passes

  pub keep_same : (xs : List A) (x : A) → t x ≡ false → keep t (xs ++ (x ∷ [])) ≡ keep t xs
  unfolding keep put
  keep_same xs x fails = keep_append xs (x ∷ []) ∙ (ap (λ (b : Bool). keep t xs ++ put b x []) fails ∙ append-nil (keep t xs))

  pub keep_all : (xs : List A) → ((x : A) → Memᴰ x xs → T (t x)) → keep t xs ≡ xs
  unfolding keep put
  keep_all [] each = refl
  keep_all (x ∷ xs) each =
      ap (λ (b : Bool). put b x (keep t xs)) (is_true (t x) (each x (here refl))) ∙
      ap (λ (zs : List A). x ∷ zs) (keep_all xs (λ y m. each y (there m)))

-- ── By places ──

module _ {A : Type 0} (t : ℕ → Bool) where
  places-append : (k : ℕ) (xs ys : List A) → keep_places t k (xs ++ ys) ≡ keep_places t k xs ++ keep_places t (k + length xs) ys
  unfolding keep_places
  places-append k [] ys = ap (λ (i : ℕ). keep_places t i ys) (sym (add-zero k))
  places-append k (x ∷ xs) ys =
      let next : suc k + length xs ≡ k + suc (length xs) = omega arith in
      ap (λ (zs : List A). put (t k) x zs)
      (places-append (suc k) xs ys ∙ ap (λ (i : ℕ). keep_places t (suc k) xs ++ keep_places t i ys) next) ∙
      sym (put-append (t k) x (keep_places t (suc k) xs) (keep_places t (k + suc (length xs)) ys))

  last-place : (xs : List A) (x : A) → keep_places t 0 (xs ++ (x ∷ [])) ≡ keep_places t 0 xs ++ put (t (length xs)) x []
  unfolding keep_places
  last-place xs x = places-append 0 xs (x ∷ []) ∙ ap (λ (i : ℕ). keep_places t 0 xs ++ put (t i) x []) (zero-add (length xs))

  -- one element more, whose place passes or does not
  pub places-more : (xs : List A) (x : A) → t (length xs) ≡ true → keep_places t 0 (xs ++ (x ∷ [])) ≡ keep_places t 0 xs ++ (x ∷ [])
  unfolding put
  places-more xs x passes = last-place xs x ∙ ap (λ (b : Bool). keep_places t 0 xs ++ put b x []) passes

  pub places_same : (xs : List A) (x : A) → t (length xs) ≡ false → keep_places t 0 (xs ++ (x ∷ [])) ≡ keep_places t 0 xs
  unfolding put
  places_same xs x fails =
      last-place xs x ∙ (ap (λ (b : Bool). keep_places t 0 xs ++ put b x []) fails ∙ append-nil (keep_places t 0 xs))

-- tests that agree on a list's places keep the same
pub places-agree :
    {A : Type 0} (t u : ℕ → Bool) (k : ℕ) (xs : List A) → ((i : ℕ) → i < length xs → t (k + i) ≡ u (k + i)) → keep_places t k xs ≡ keep_places u k xs
unfolding keep_places
places-agree t u k [] same = refl
places-agree {A} t u k (x ∷ xs) same =
    let first : t k ≡ u k = ap t (sym (add-zero k)) ∙ (same 0 (omega arith) ∙ ap u (add-zero k)) in
    let rest : keep_places t (suc k) xs ≡ keep_places u (suc k) xs =
    places-agree t u (suc k) xs
    (λ i l.
    let next : suc k + i ≡ k + suc i = omega arith in
    ap t next ∙ (same (suc i) (omega arith) ∙ ap u (sym next))) in
    λ i. put (first i) x (rest i)
