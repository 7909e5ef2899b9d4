-- A part of a list that comes back filled is a part of the whole that holds the new numbers; what stands at each place of such a list; and
-- lists of zeros with one filled part at the front, or two.
use mathlib.Core.Path.{◌≡◌, sym, ap, ◌∙◌, subst}
use mathlib.Core.Logic.{◌⊎◌, inl, inr}
use mathlib.Core.List.{List, ◌++◌}
use Prim.Native.Nat.{ℕ, ◌+◌, ◌-◌, ◌≤◌, ◌<◌}
use native.Mathlib.Nat.{sub-zero}
use native.Mathlib.Omega.{arith}
use lib.ListN.{length, get_or, take, drop, length-append, length-drop, replicate, length-replicate, get_or-replicate, get_or-append, get_or-eq_default}
use lib.Seq.{length-take-le, get_or-take, get_or-drop, get_or-append-add, ext_get_or}
use borrow.Rule.Slice.PartMut.{mid_of, post_of, put_mid, mid_len, Post-is}
use Rattle.model.specs.Lists.{tabulate}
use Rattle.model.proofs.Basics.{order}
use Rattle.records.specs.Columns.{zeros, with_part, Column}
use Rattle.records.proofs.Fill.{length-tabulate, get_d_tabulate}

pub put-part :
    {A : Type 0} (a e : ℕ) (f : ℕ → A) (xs : List A) {ys : List A} {n : ℕ} → a ≤ e → n ≡ e - a → ys ≡ tabulate n f
    → put_mid a (e - a) xs ys ≡ with_part a e f xs
unfolding with_part
put-part {A} a e f xs {ys} {n} below as_many is =
    ap (λ (z : List A). take a xs ++ (z ++ post_of a (e - a) xs)) (is ∙ ap (λ (m : ℕ). tabulate m f) as_many) ∙
    ap (λ (z : List A). take a xs ++ (tabulate (e - a) f ++ z)) (Post-is a e xs below)

-- the same for a part from the start on
pub put-front :
    {A : Type 0} (e : ℕ) (f : ℕ → A) (xs : List A) {ys : List A} {n : ℕ} → n ≡ e → ys ≡ tabulate n f → ys ++ drop e xs ≡ with_part 0 e f xs
unfolding with_part
put-front {A} e f xs {ys} as_many is =
    ap (λ (z : List A). z ++ drop e xs) (is ∙ ap (λ (m : ℕ). tabulate m f) (as_many ∙ sym (sub-zero e)))

-- ── What stands where ──

module _ {A : Type 0} (a e : ℕ) (f : ℕ → A) (xs : List A) (below : a ≤ e) (within : e ≤ length xs) where
  front_length : length (take a xs) ≡ a
  front_length = length-take-le a xs (omega arith)

  pub part_length : length (with_part a e f xs) ≡ length xs
  unfolding with_part
  part_length =
      let middle : length (tabulate (e - a) f) ≡ e - a = length-tabulate (e - a) f in
      let back : length (drop e xs) ≡ length xs - e = length-drop e xs in
      let inner : length (tabulate (e - a) f ++ drop e xs) ≡ length (tabulate (e - a) f) + length (drop e xs)
      = length-append (tabulate (e - a) f) (drop e xs) in
      let whole : length (take a xs ++ (tabulate (e - a) f ++ drop e xs)) ≡ length (take a xs) + length (tabulate (e - a) f ++ drop e xs)
      = length-append (take a xs) (tabulate (e - a) f ++ drop e xs) in
      omega (arith, front_length)

  before_in : (d : A) (i : ℕ) → i < a → get_or (with_part a e f xs) i d ≡ get_or xs i d
  unfolding with_part
  before_in d i l =
      get_or-append (take a xs) (tabulate (e - a) f ++ drop e xs) d i (subst (λ (n : ℕ). i < n) (sym front_length) l) ∙ get_or-take a xs i d l

  behind : (d : A) (j : ℕ) → get_or (with_part a e f xs) (a + j) d ≡ get_or (tabulate (e - a) f ++ drop e xs) j d
  unfolding with_part
  behind d j =
      ap (λ (n : ℕ). get_or (take a xs ++ (tabulate (e - a) f ++ drop e xs)) (n + j) d) (sym front_length) ∙
      get_or-append-add (take a xs) (tabulate (e - a) f ++ drop e xs) j d

  inside_in : (d : A) (j : ℕ) → j < e - a → get_or (with_part a e f xs) (a + j) d ≡ f j
  inside_in d j l =
      behind d j ∙
      (get_or-append (tabulate (e - a) f) (drop e xs) d j (subst (λ (n : ℕ). j < n) (sym (length-tabulate (e - a) f)) l) ∙ get_d_tabulate (e - a) f d j l)

  after_in : (d : A) (i : ℕ) → e ≤ i → get_or (with_part a e f xs) i d ≡ get_or xs i d
  after_in d i l =
      let k : ℕ = i - e in
      let there : a + (e - a + k) ≡ i = omega arith in
      let end : e + k ≡ i = omega arith in
      ap (λ (n : ℕ). get_or (with_part a e f xs) n d) (sym there) ∙
      (behind d (e - a + k) ∙
      (ap (λ (n : ℕ). get_or (tabulate (e - a) f ++ drop e xs) (n + k) d) (sym (length-tabulate (e - a) f)) ∙
      (get_or-append-add (tabulate (e - a) f) (drop e xs) k d ∙ (get_or-drop e xs k d ∙ ap (λ (n : ℕ). get_or xs n d) end))))

-- the same of numbers, with 0 past the end
module _ (a e : ℕ) (f : ℕ → ℕ) (xs : List ℕ) (below : a ≤ e) (within : e ≤ length xs) where
  pub part-before : (i : ℕ) → i < a → get_or (with_part a e f xs) i 0 ≡ get_or xs i 0
  part-before = before_in a e f xs below within 0

  pub part-inside : (j : ℕ) → j < e - a → get_or (with_part a e f xs) (a + j) 0 ≡ f j
  part-inside = inside_in a e f xs below within 0

  pub part-after : (i : ℕ) → e ≤ i → get_or (with_part a e f xs) i 0 ≡ get_or xs i 0
  part-after = after_in a e f xs below within 0

-- ── A list of one thing, and parts in front of it ──

pub zeros-length : (n : ℕ) → length (zeros n) ≡ n
unfolding zeros
zeros-length n = length-replicate n 0

-- a list of n elements that are h 0, h 1, ..
each-alike : {A : Type 0} (d : A) (n : ℕ) (h : ℕ → A) (xs : List A) → length xs ≡ n → ((i : ℕ) → i < n → get_or xs i d ≡ h i) → xs ≡ tabulate n h
each-alike d n h xs as_many each =
    ext_get_or d xs (tabulate n h) (as_many ∙ sym (length-tabulate n h))
    (λ i l. let k : i < n = subst (λ (m : ℕ). i < m) as_many l in each i k ∙ sym (get_d_tabulate n h d i k))

pub each-is : (n : ℕ) (h : ℕ → ℕ) (xs : List ℕ) → length xs ≡ n → ((i : ℕ) → i < n → get_or xs i 0 ≡ h i) → xs ≡ tabulate n h
each-is = each-alike 0

module _ {A : Type 0} (d : A) (size n : ℕ) (f h : ℕ → A) (fits : n ≤ size) (front : (v : ℕ) → v < n → f v ≡ h v) where
  within-blank : n ≤ length (replicate size d)
  within-blank = subst (λ (m : ℕ). n ≤ m) (sym (length-replicate size d)) fits

  first-length : length (with_part 0 n f (replicate size d)) ≡ size
  first-length = part_length 0 n f (replicate size d) (omega arith) within-blank ∙ length-replicate size d

  first-inside : (v : ℕ) → v < n → get_or (with_part 0 n f (replicate size d)) v d ≡ h v
  first-inside v l =
      let start : 0 + v ≡ v = omega arith in
      ap (λ (i : ℕ). get_or (with_part 0 n f (replicate size d)) i d) (sym start) ∙
      (inside_in 0 n f (replicate size d) (omega arith) within-blank d v (omega arith) ∙ front v l)

  first-after : (i : ℕ) → n ≤ i → get_or (with_part 0 n f (replicate size d)) i d ≡ d
  first-after i l = after_in 0 n f (replicate size d) (omega arith) within-blank d i l ∙ go (order size i)
    where
      go : (size ≤ i) ⊎ (i < size) → get_or (replicate size d) i d ≡ d
      go (inl k) = get_or-eq_default (replicate size d) d (subst (λ (m : ℕ). m ≤ i) (sym (length-replicate size d)) k)
      go (inr k) = get_or-replicate size i d d k

  pub one-part : ((i : ℕ) → n ≤ i → h i ≡ d) → with_part 0 n f (replicate size d) ≡ tabulate size h
  one-part past = each-alike d size h (with_part 0 n f (replicate size d)) first-length (λ i l. go i (order n i))
    where
      go : (i : ℕ) → (n ≤ i) ⊎ (i < n) → get_or (with_part 0 n f (replicate size d)) i d ≡ h i
      go i (inl l) = first-after i l ∙ sym (past i l)
      go i (inr l) = first-inside i l

  pub two-parts :
      (m : ℕ) (f' : ℕ → A) → n + m ≤ size → ((j : ℕ) → j < m → f' j ≡ h (n + j)) → ((i : ℕ) → n + m ≤ i → h i ≡ d)
      → with_part n (n + m) f' (with_part 0 n f (replicate size d)) ≡ tabulate size h
  two-parts m f' room back past =
      each-alike d size h (with_part n (n + m) f' (with_part 0 n f (replicate size d))) (part_length n (n + m) f' _ (omega arith) inside ∙ first-length)
      (λ i l. go i (order n i) (order (n + m) i))
    where
      inside : n + m ≤ length (with_part 0 n f (replicate size d))
      inside = subst (λ (k : ℕ). n + m ≤ k) (sym first-length) room

      go : (i : ℕ) → (n ≤ i) ⊎ (i < n) → (n + m ≤ i) ⊎ (i < n + m) → get_or (with_part n (n + m) f' (with_part 0 n f (replicate size d))) i d ≡ h i
      go i (inr l) later = before_in n (n + m) f' _ (omega arith) inside d i l ∙ first-inside i l
      go i (inl l) (inl k) = after_in n (n + m) f' _ (omega arith) inside d i k ∙ (first-after i (omega arith) ∙ sym (past i k))
      go i (inl l) (inr k) =
          let there : n + (i - n) ≡ i = omega arith in
          ap (λ (p : ℕ). get_or (with_part n (n + m) f' (with_part 0 n f (replicate size d))) p d) (sym there) ∙
          (inside_in n (n + m) f' _ (omega arith) inside d (i - n) (omega arith) ∙ (back (i - n) (omega arith) ∙ ap h there))

-- ── A part as a column ──

pub column-of-part :
    {A : Type 0} (missing : A) (part : A → ℕ) (rows : List A) (size a e : ℕ) (h : ℕ → ℕ) {xs : List ℕ} → xs ≡ tabulate size h → a ≤ e → e ≤ size
    → e - a ≡ length rows → ((j : ℕ) → j < length rows → h (a + j) ≡ part (get_or rows j missing)) → Column missing part rows (mid_of a (e - a) xs)
column-of-part missing part rows size a e h {xs} is below fits as_many same =
    let long : length xs ≡ size = ap length is ∙ length-tabulate size h in
    record {
      as_many = mid_len a e xs (omega arith) ∙ as_many;
      same = λ j l.
          let inside : j < e - a = subst (λ (n : ℕ). j < n) (sym as_many) l in
          get_or-take (e - a) (drop a xs) j 0 inside ∙
          (get_or-drop a xs j 0 ∙ (ap (λ (ys : List ℕ). get_or ys (a + j) 0) is ∙ (get_d_tabulate size h 0 (a + j) (omega arith) ∙ same j l)));
    }

-- the same for a part from the start, lent with its start or without
pub column-of-front :
    {A : Type 0} (missing : A) (part : A → ℕ) (rows : List A) (size n : ℕ) {xs : List ℕ} → xs ≡ tabulate size (λ i. part (get_or rows i missing))
    → n ≤ size → n ≡ length rows → Column missing part rows (mid_of 0 (n - 0) xs)
column-of-front missing part rows size n is fits as_many =
    column-of-part missing part rows size 0 n (λ i. part (get_or rows i missing)) is (omega arith) fits (sub-zero n ∙ as_many)
    (λ j l. let same : 0 + j ≡ j = omega arith in ap (λ (i : ℕ). part (get_or rows i missing)) same)

pub column-of-take :
    {A : Type 0} (missing : A) (part : A → ℕ) (rows : List A) (size n : ℕ) {xs : List ℕ} → xs ≡ tabulate size (λ i. part (get_or rows i missing))
    → n ≤ size → n ≡ length rows → Column missing part rows (take n xs)
column-of-take missing part rows size n {xs} is fits as_many =
    subst (λ (k : ℕ). Column missing part rows (take k xs)) (sub-zero n) (column-of-front missing part rows size n is fits as_many)

-- ── Room ──

pub blank-room : {A : Type 0} (d : A) (size : ℕ) {n : ℕ} {xs : List A} → xs ≡ replicate size d → n ≤ size → n ≤ length xs
blank-room d size {n} is few = subst (λ (k : ℕ). n ≤ k) (sym (ap length is ∙ length-replicate size d)) few

pub zeros-room : (size : ℕ) {n : ℕ} {xs : List ℕ} → xs ≡ zeros size → n ≤ size → n ≤ length xs
unfolding zeros
zeros-room size is few = blank-room 0 size is few

pub within-list : {A : Type 0} (size : ℕ) (h : ℕ → A) {n : ℕ} {xs : List A} → xs ≡ tabulate size h → n ≤ size → n ≤ length xs
within-list size h {n} is few = subst (λ (k : ℕ). n ≤ k) (sym (ap length is ∙ length-tabulate size h)) few

-- a list of one thing with a filled front is as long as it was, whatever stands in front
pub filled-room :
    {A : Type 0} (d : A) (size n : ℕ) (f : ℕ → A) {k : ℕ} {before after : List A} → n ≤ size → before ≡ replicate size d → after ≡ with_part 0 n f before
    → k ≤ size → k ≤ length after
filled-room d size n f {k} {before} {after} fits blank filled few =
    let long : length before ≡ size = ap length blank ∙ length-replicate size d in
    let whole : length (with_part 0 n f before) ≡ length before = part_length 0 n f before (omega arith) (omega arith) in
    let same : length (with_part 0 n f before) ≡ length after = ap length (sym filled) in
    omega arith
