-- Which places are listed, and that they ascend: by induction on the number of marks, since each mark set adds the largest place so far.
use mathlib.Core.Path.{◌≡◌, refl, sym, ap, ◌∙◌, subst}
use mathlib.Core.Logic.{◌⊎◌, inl, inr}
use mathlib.Core.Bool.{Bool, true, false}
use mathlib.Core.List.Memᴰ
use mathlib.Core.List.Memᴰ.{head as here}
use mathlib.Core.List.Memᴰ.{tail as there}
use mathlib.Core.List.{List, [], ◌∷◌, ◌++◌, Memᴰ}
use Prim.Native.Nat.{ℕ, zero, suc, ◌+◌, ◌-◌, ◌≤◌, ◌<◌}
use native.Mathlib.Nat.{not-suc-le-zero}
use native.Mathlib.Omega.{arith}
use lib.ListN.{length, get_or, length-append, get_or-append}
use lib.Seq.{get_or_at}
use Rattle.model.specs.Lists.{put}
use Rattle.model.proofs.Basics.{order}
use Rattle.marks.specs.Marks.{places_below}
use Rattle.marks.specs.Theorems.{MarksRead, PlacesAre, PlacesAscend, PlacesCounted}
use Rattle.marks.proofs.Laws.{mark_of}
use Rattle.marks.proofs.Listing.{length-places}

pub marks-read : MarksRead
marks-read = mark_of

pub places_counted : PlacesCounted
places_counted = length-places

-- ── Which places ──

either : (b : Bool) → (b ≡ true) ⊎ (b ≡ false)
either true = inl refl
either false = inr refl

put-set : {b : Bool} (x : ℕ) → b ≡ true → put b x [] ≡ x ∷ []
unfolding put
put-set x is = ap (λ (b : Bool). put b x []) is

put-unset : {b : Bool} (x : ℕ) → b ≡ false → put b x [] ≡ []
unfolding put
put-unset x is = ap (λ (b : Bool). put b x []) is

listed-set : (n : ℕ) (marked : ℕ → Bool) (p : ℕ) → Memᴰ p (places_below n marked) → (1 ≤ p) × (p ≤ n) × (marked (p - 1) ≡ true)
unfolding places_below
listed-set zero marked p m = absurd (Memᴰ.not-nil m)
listed-set (suc n) marked p m = go (Memᴰ.append_cases (places_below n marked) m) (listed-set n marked p) (either (marked n))
  where
    go : Memᴰ p (places_below n marked) ⊎ Memᴰ p (put (marked n) (suc n) []) →
        (Memᴰ p (places_below n marked) → (1 ≤ p) × (p ≤ n) × (marked (p - 1) ≡ true)) → (marked n ≡ true) ⊎ (marked n ≡ false) →
        (1 ≤ p) × (p ≤ suc n) × (marked (p - 1) ≡ true)
    go (inl m) earlier b = let h = earlier m in (h.0, omega (arith, h.1), h.2)
    go (inr m) earlier (inl is) =
        let same : p ≡ suc n = Memᴰ.eq_of_singleton (subst (λ (xs : List ℕ). Memᴰ p xs) (put-set (suc n) is) m) in
        let before : p - 1 ≡ n = omega arith in
        (omega arith, omega arith, ap marked before ∙ is)
    go (inr m) earlier (inr is) = absurd (Memᴰ.not-nil (subst (λ (xs : List ℕ). Memᴰ p xs) (put-unset (suc n) is) m))

set-listed : (n : ℕ) (marked : ℕ → Bool) (p : ℕ) → 1 ≤ p → p ≤ n → marked (p - 1) ≡ true → Memᴰ p (places_below n marked)
unfolding places_below
set-listed zero marked p low high is = absurd (omega arith)
set-listed (suc n) marked p low high is = go (order p n) (λ l. set-listed n marked p low l is)
  where
    go : (p ≤ n) ⊎ (n < p) → (p ≤ n → Memᴰ p (places_below n marked)) → Memᴰ p (places_below n marked ++ put (marked n) (suc n) [])
    go (inl l) earlier = Memᴰ.append_left (put (marked n) (suc n) []) (earlier l)
    go (inr l) earlier =
        let same : p ≡ suc n = omega arith in
        let before : n ≡ p - 1 = omega arith in
        Memᴰ.append_right (places_below n marked) (subst (λ (xs : List ℕ). Memᴰ p xs) (sym (put-set (suc n) (ap marked before ∙ is))) (here same))

pub places-are : PlacesAre
places-are n marked p = (listed-set n marked p, λ h. set-listed n marked p h.0 h.1 h.2)

-- ── Ascending ──

-- no listed place is above the number of marks
at_most : (n : ℕ) (marked : ℕ → Bool) (i : ℕ) → i < length (places_below n marked) → get_or (places_below n marked) i 0 ≤ n
at_most n marked i l = (listed-set n marked (get_or (places_below n marked) i 0) (getD-in (places_below n marked) i l)).1
  where
    getD-in : (xs : List ℕ) (i : ℕ) → i < length xs → Memᴰ (get_or xs i 0) xs
    getD-in [] i l = absurd (not-suc-le-zero l)
    getD-in (x ∷ xs) zero l = here refl
    getD-in (x ∷ xs) (suc i) l = there (getD-in xs i (omega arith))

pub places_ascend : PlacesAscend
unfolding places_below
places_ascend zero marked i j l below = absurd (not-suc-le-zero below)
places_ascend (suc n) marked i j l below =
    go (either (marked n)) (order (length (places_below n marked)) j) (λ k. places_ascend n marked i j l k)
  where
    long : length (places_below n marked ++ put (marked n) (suc n) []) ≡ length (places_below n marked) + length (put (marked n) (suc n) [])
    long = length-append (places_below n marked) (put (marked n) (suc n) [])

    go : (marked n ≡ true) ⊎ (marked n ≡ false) → (length (places_below n marked) ≤ j) ⊎ (j < length (places_below n marked)) →
        (j < length (places_below n marked) → get_or (places_below n marked) i 0 < get_or (places_below n marked) j 0) →
        get_or (places_below n marked ++ put (marked n) (suc n) []) i 0 < get_or (places_below n marked ++ put (marked n) (suc n) []) j 0
    go b (inr k) earlier =
        let one = get_or-append (places_below n marked) (put (marked n) (suc n) []) 0 i (omega arith) in
        let two = get_or-append (places_below n marked) (put (marked n) (suc n) []) 0 j k in
        omega (arith, one, two, earlier k)
    go (inl is) (inl k) earlier =
        let last : length (put (marked n) (suc n) []) ≡ 1 = ap length (put-set (suc n) is) in
        let end : length (places_below n marked) ≡ j = omega (arith, long, last, below) in
        let one = get_or-append (places_below n marked) (put (marked n) (suc n) []) 0 i (omega arith) in
        let two : get_or (places_below n marked ++ put (marked n) (suc n) []) j 0 ≡ suc n =
        ap (λ (ys : List ℕ). get_or (places_below n marked ++ ys) j 0) (put-set (suc n) is) ∙ get_or_at (places_below n marked) (suc n) [] 0 j end in
        omega (arith, one, two, at_most n marked i (omega arith))
    go (inr is) (inl k) earlier =
        let last : length (put (marked n) (suc n) []) ≡ 0 = ap length (put-unset (suc n) is) in
        absurd (omega (arith, long, last, below))
