-- Rows of equal width, one after the other: how long they are, what stands where, and what a list holds after one row more has been written into
-- it as a part.
use mathlib.Core.Path.{◌≡◌, sym, ap, ◌∙◌, subst}
use mathlib.Core.Logic.{◌⊎◌, inl, inr}
use mathlib.Core.List.{List, ◌++◌, append_assoc}
use Prim.Native.Nat.{ℕ, zero, suc, ◌+◌, ◌-◌, ◌*◌, ◌≤◌, ◌<◌}
use native.Mathlib.Nat.{not-suc-le-zero, zero-mul, suc-mul, mul-le-mul, mul-le-mul_right}
use native.Mathlib.Omega.{arith}
use lib.ListN.{length, get_or, take, drop, length-append, get_or-append}
use lib.Seq.{get_or-append-add, take_at, drop_at}
use borrow.Rule.Slice.PartMut.{post_of, put_mid, Post-is}
use Rattle.model.proofs.Basics.{below_suc}
use Rattle.records.specs.Columns.{rows}

-- entry b of row a stands within m rows of width w
pub place-within : (w m a b : ℕ) → a < m → b < w → a * w + b < m * w
place-within w m a b l k =
    let whole : suc a * w ≤ m * w = mul-le-mul_right w l in
    let next : suc a * w ≡ a * w + w = suc-mul a w in
    omega arith

-- as many entries as 64 rows of 64 have at most
pub product_small : (a b : ℕ) → a ≤ 64 → b ≤ 64 → a * b ≤ 4096
product_small a b few narrow = mul-le-mul few narrow

-- an entry of a table of at most 64 rows stands among the first 4096
pub place-small : (n a b : ℕ) → n ≤ 64 → a < n → b < n → a * n + b < 4096
place-small n a b few l k = omega (arith, place-within n n a b l k, product_small n n few few)

module _ (w : ℕ) (f : ℕ → List ℕ) (wide : (a : ℕ) → length (f a) ≡ w) where
  pub rows-length : (n : ℕ) → length (rows n f) ≡ n * w
  unfolding rows
  rows-length zero = sym (zero-mul w)
  rows-length (suc n) =
      length-append (rows n f) (f n) ∙ (ap (λ (m : ℕ). m + length (f n)) (rows-length n) ∙ (ap (λ (m : ℕ). n * w + m) (wide n) ∙ sym (suc-mul n w)))

  pub rows_at : (n a b : ℕ) → a < n → b < w → get_or (rows n f) (a * w + b) 0 ≡ get_or (f a) b 0
  unfolding rows
  rows_at zero a b l k = absurd (not-suc-le-zero l)
  rows_at (suc n) a b l k = go (below_suc l) (λ h. rows_at n a b h k)
    where
      go : (a < n) ⊎ (a ≡ n) → (a < n → get_or (rows n f) (a * w + b) 0 ≡ get_or (f a) b 0) → get_or (rows n f ++ f n) (a * w + b) 0 ≡ get_or (f a) b 0
      go (inl h) earlier =
          let inside : a * w + b < length (rows n f) = subst (λ (m : ℕ). a * w + b < m) (sym (rows-length n)) (place-within w n a b h k) in
          get_or-append (rows n f) (f n) 0 (a * w + b) inside ∙ earlier h
      go (inr e) earlier =
          ap (λ (m : ℕ). get_or (rows n f ++ f n) (m + b) 0) (ap (λ (x : ℕ). x * w) e ∙ sym (rows-length n)) ∙
          (get_or-append-add (rows n f) (f n) b 0 ∙ ap (λ (x : ℕ). get_or (f x) b 0) (sym e))

  -- a rows stand in front of what a list held; the next row comes back as a part of it
  pub rows_more :
      (a at : ℕ) (kept : List ℕ) {xs ys : List ℕ} → at ≡ a * w → xs ≡ rows a f ++ drop at kept → ys ≡ f a →
      put_mid at (at + w - at) xs ys ≡ rows (suc a) f ++ drop (at + w) kept
  unfolding rows
  rows_more a at kept {xs} {ys} is held row =
      let front : length (rows a f) ≡ at = rows-length a ∙ sym is in
      let before : take at xs ≡ rows a f = ap (λ (zs : List ℕ). take at zs) held ∙ take_at (rows a f) (drop at kept) at front in
      let behind : post_of at (at + w - at) xs ≡ drop (at + w) kept =
      ap (λ (zs : List ℕ). drop (at + w - at) (drop at zs)) held ∙
      (ap (λ (zs : List ℕ). drop (at + w - at) zs) (drop_at (rows a f) (drop at kept) at front) ∙ Post-is at (at + w) kept (omega arith)) in
      ap (λ (zs : List ℕ). zs ++ (ys ++ post_of at (at + w - at) xs)) before ∙
      (ap (λ (zs : List ℕ). rows a f ++ (zs ++ post_of at (at + w - at) xs)) row ∙
      (ap (λ (zs : List ℕ). rows a f ++ (f a ++ zs)) behind ∙ sym (append_assoc (rows a f) (f a) (drop (at + w) kept))))
