-- Marks put into words are read back. How many of the first n marks are set, and where, depends on these alone and goes block by block, by induction on n;
-- so the marks set in four words are the ones of the words.
use mathlib.Core.Path.{◌≡◌, refl, sym, ap, ◌∙◌}
use mathlib.Core.Logic.{◌⊎◌, inl, inr}
use mathlib.Core.Bool.{Bool, false}
use mathlib.Core.List.{List, [], ◌∷◌, append-nil}
use Prim.Native.Nat.{ℕ, zero, suc, ◌+◌, ◌-◌, ◌*◌, ◌/◌, ◌%◌, ◌^◌, ◌≤◌, ◌<◌}
use native.Mathlib.Nat.{le_refl, add-zero, add-suc}
use native.Mathlib.Omega.{arith}
use lib.Count.{ones}
use lib.ListN.{length, get_or}
use Rattle.std.specs.List.{sum_by}
use Rattle.model.specs.Lists.{put, counted, sum_over}
use Rattle.model.proofs.Basics.{order, sum_ones}
use Rattle.marks.specs.declared.Marks.{Marks}
use Rattle.marks.specs.Marks.{number, word_of, marks_of, bit_of, mark_at, set_below, places_below}
use Rattle.marks.proofs.Digits.{digit_at, digit-of, bit-digit, ones-digits}

-- ── Marks put into words ──

word_at : (marked : ℕ → Bool) (w : ℕ) → w < 4 → get_or (marks_of marked).words w 0 ≡ word_of marked w
unfolding marks_of
word_at marked zero l = refl
word_at marked (suc zero) l = refl
word_at marked (suc (suc zero)) l = refl
word_at marked (suc (suc (suc zero))) l = refl
word_at marked (suc (suc (suc (suc w)))) l = absurd (omega arith)

bit-of : (marked : ℕ → Bool) (w j : ℕ) → j < 64 → bit_of (word_of marked w) j ≡ marked (64 * w + j)
unfolding word_of
bit-of marked w j l = bit-digit (number 64 (λ i. marked (64 * w + i))) j l ∙ digit-of 64 (λ i. marked (64 * w + i)) j l

pub mark_of : (marked : ℕ → Bool) (i : ℕ) → i < 256 → mark_at (marks_of marked) i ≡ marked i
unfolding mark_at
mark_of marked i l =
    let place : 64 * (i / 64) + i % 64 ≡ i = omega arith in
    ap (λ (word : ℕ). bit_of word (i % 64)) (word_at marked (i / 64) (omega arith)) ∙
    (bit-of marked (i / 64) (i % 64) (omega arith) ∙ ap marked place)

-- ── The marks looked at ──

pub set-below-same : (n : ℕ) (f g : ℕ → Bool) → ((i : ℕ) → i < n → f i ≡ g i) → set_below n f ≡ set_below n g
unfolding set_below sum_over
set-below-same zero f g same = refl
set-below-same (suc n) f g same =
    rw (set-below-same n f g (λ i l. same i (omega arith)), same n (le_refl (suc n)))

pub count_of : (marked : ℕ → Bool) → set_below 256 (mark_at (marks_of marked)) ≡ set_below 256 marked
count_of marked = set-below-same 256 (mark_at (marks_of marked)) marked (mark_of marked)

-- ── Block by block ──

pub set-below-cat : (n m : ℕ) (marked : ℕ → Bool) → set_below (n + m) marked ≡ set_below n marked + set_below m (λ j. marked (n + j))
unfolding set_below sum_over
set-below-cat n zero marked = rw (add-zero n) (omega arith)
set-below-cat n (suc m) marked = rw (add-suc n m) (omega (arith, set-below-cat n m marked))

pub set-below-le : (n : ℕ) (marked : ℕ → Bool) → set_below n marked ≤ n
unfolding set_below
set-below-le n marked = sum_ones n marked

-- marks from n on that are not set change neither how many are set nor where
module _ (n : ℕ) (marked : ℕ → Bool) where
  set-below-further : (d : ℕ) → ((i : ℕ) → n ≤ i → i < n + d → marked i ≡ false) → set_below (n + d) marked ≡ set_below n marked
  unfolding set_below sum_over counted
  set-below-further zero none = rw (add-zero n)
  set-below-further (suc d) none =
      let last : marked (n + d) ≡ false = none (n + d) (omega arith) (omega arith) in
      let shorter : sum_over (n + d) marked (λ i. 1) ≡ sum_over n marked (λ i. 1) = set-below-further d (λ i l h. none i l (omega arith)) in
      rw (add-suc n d, last) (omega arith)

  places-below-further : (d : ℕ) → ((i : ℕ) → n ≤ i → i < n + d → marked i ≡ false) → places_below (n + d) marked ≡ places_below n marked
  unfolding places_below put
  places-below-further zero none = rw (add-zero n)
  places-below-further (suc d) none =
      let last : marked (n + d) ≡ false = none (n + d) (omega arith) (omega arith) in
      rw (add-suc n d, last) (append-nil (places_below (n + d) marked) ∙ places-below-further d (λ i l h. none i l (omega arith)))

  module _ (m : ℕ) (up : n ≤ m) (none : (i : ℕ) → n ≤ i → i < m → marked i ≡ false) where
    pub set-below-none : set_below m marked ≡ set_below n marked
    set-below-none =
        let whole : n + (m - n) ≡ m = omega arith in
        ap (λ (k : ℕ). set_below k marked) (sym whole) ∙ set-below-further (m - n) (λ i l h. none i l (omega arith))

    pub places-below-none : places_below m marked ≡ places_below n marked
    places-below-none =
        let whole : n + (m - n) ≡ m = omega arith in
        ap (λ (k : ℕ). places_below k marked) (sym whole) ∙ places-below-further (m - n) (λ i l h. none i l (omega arith))

pub set-below-past : (n m : ℕ) (marked : ℕ → Bool) → n ≤ m → ((i : ℕ) → n ≤ i → marked i ≡ false) → set_below m marked ≡ set_below n marked
set-below-past n m marked up none = set-below-none n marked m up (λ i l h. none i l)

-- ── Marks word by word ──

pub mark-in-word : (marks : Marks) (w j : ℕ) → j < 64 → mark_at marks (64 * w + j) ≡ bit_of (get_or marks.words w 0) j
unfolding mark_at
mark-in-word marks w j l =
    let word : (64 * w + j) / 64 ≡ w = omega arith in
    let bit : (64 * w + j) % 64 ≡ j = omega arith in
    rw (word, bit)

-- no mark is set up to a bit of a word, if none is set up to an earlier one and no bit of the word between
pub none-to-bit :
    (marks : Marks) (after w from bit : ℕ) → bit ≤ 64 → ((i : ℕ) → from ≤ i → i < bit → bit_of (get_or marks.words w 0) i ≡ false)
    → ((i : ℕ) → after ≤ i → i < 64 * w + from → mark_at marks i ≡ false) → (i : ℕ) → after ≤ i → i < 64 * w + bit → mark_at marks i ≡ false
none-to-bit marks after w from bit in-word between before i l h = go (order (64 * w + from) i)
  where
    go : (64 * w + from ≤ i) ⊎ (i < 64 * w + from) → mark_at marks i ≡ false
    go (inl k) =
        let j : ℕ = i - 64 * w in
        let place : i ≡ 64 * w + j = omega arith in
        ap (mark_at marks) place ∙ (mark-in-word marks w j (omega arith) ∙ between j (omega arith) (omega arith))
    go (inr k) = before i l k

word_count :
    (marks : Marks) (w : ℕ) → get_or marks.words w 0 < 2 ^ 64
    → set_below 64 (λ j. mark_at marks (64 * w + j)) ≡ ones (get_or marks.words w 0)
word_count marks w fits =
    let word : ℕ = get_or marks.words w 0 in
    set-below-same 64 (λ j. mark_at marks (64 * w + j)) (digit_at 64 word) (λ j l. mark-in-word marks w j l ∙ bit-digit word j l) ∙
    sym (ones-digits 64 word fits)

first_block : (marked : ℕ → Bool) → set_below 64 marked ≡ set_below 64 (λ j. marked (64 * 0 + j))
first_block marked = set-below-same 64 marked (λ j. marked (64 * 0 + j)) (λ j l. let same : j ≡ 64 * 0 + j = omega arith in ap marked same)

pub sum_four : (f : ℕ → ℕ) (xs : List ℕ) → length xs ≡ 4 → sum_by f xs ≡ f (get_or xs 0 0) + f (get_or xs 1 0) + f (get_or xs 2 0) + f (get_or xs 3 0)
sum_four f (a ∷ b ∷ c ∷ d ∷ []) four = omega arith
sum_four f [] four = absurd (omega arith)
sum_four f (a ∷ []) four = absurd (omega arith)
sum_four f (a ∷ b ∷ []) four = absurd (omega arith)
sum_four f (a ∷ b ∷ c ∷ []) four = absurd (omega arith)
sum_four f (a ∷ b ∷ c ∷ d ∷ e ∷ xs) four = absurd (omega arith)

-- the marks set are the ones of the four words
pub count-words :
    (marks : Marks) → length marks.words ≡ 4 → ((w : ℕ) → get_or marks.words w 0 < 2 ^ 64) → sum_by ones marks.words ≡ set_below 256 (mark_at marks)
count-words marks four-words fits =
    let all = mark_at marks in
    let four : set_below 256 all ≡ set_below 192 all + set_below 64 (λ j. all (64 * 3 + j)) = set-below-cat 192 64 all in
    let three : set_below 192 all ≡ set_below 128 all + set_below 64 (λ j. all (64 * 2 + j)) = set-below-cat 128 64 all in
    let two : set_below 128 all ≡ set_below 64 all + set_below 64 (λ j. all (64 * 1 + j)) = set-below-cat 64 64 all in
    omega (
      arith,
      sum_four ones marks.words four-words,
      first_block all,
      word_count marks 0 (fits 0),
      word_count marks 1 (fits 1),
      word_count marks 2 (fits 2),
      word_count marks 3 (fits 3),
    )
