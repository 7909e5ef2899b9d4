-- A list of the places found so far: its front holds the places of the first n marks set, the rest is 0. Marks not set keep it so, and the next mark set
-- goes to the front's end.
use mathlib.Core.Path.{◌≡◌, refl, sym, ap, ap₂, ◌∙◌, subst}
use mathlib.Core.Bool.{Bool, true, false}
use mathlib.Core.List.{List, [], ◌∷◌, ◌++◌}
use Prim.Native.Nat.{ℕ, zero, suc, ◌+◌, ◌-◌, ◌≤◌, ◌<◌}
use native.Mathlib.Omega.{arith}
use lib.ListN.{length, set, replicate, length-append}
use lib.Seq.{set_at, append_snoc}
use Rattle.model.specs.Lists.{put, counted, sum_over}
use Rattle.marks.specs.declared.Places.{Places}
use Rattle.marks.specs.Marks.{set_below, places_below, places_of}
use Rattle.marks.proofs.Laws.{set-below-le, set-below-none, places-below-none}

pub record Listed (marked : ℕ → Bool) (n : ℕ) (list : Places) : Type 0 where
  pub as_many : list.count ≡ set_below n marked
  pub places : list.place ≡ places_below n marked ++ replicate (256 - set_below n marked) 0

length-put : (b : Bool) (x : ℕ) → length (put b x []) ≡ counted b 1
unfolding put counted
length-put true x = refl
length-put false x = refl

pub length-places : (n : ℕ) (marked : ℕ → Bool) → length (places_below n marked) ≡ set_below n marked
unfolding places_below set_below sum_over
length-places zero marked = refl
length-places (suc n) marked = rw (length-append (places_below n marked), length-places n marked, length-put (marked n))

pub listed-none : (marked : ℕ → Bool) → Listed marked 0 (record { count = 0; place = replicate 256 0 })
unfolding set_below sum_over places_below
listed-none marked = record { as_many = refl; places = refl }

-- marks that are not set
pub listed-further :
    {marked : ℕ → Bool} {n : ℕ} {list : Places} (m : ℕ) → n ≤ m → ((i : ℕ) → n ≤ i → i < m → marked i ≡ false) → Listed marked n list → Listed marked m list
listed-further {marked} {n} {list} m up none done =
    let same : set_below m marked ≡ set_below n marked = set-below-none n marked m up none in
    record {
      as_many = done.as_many ∙ sym same;
      places = done.places ∙ ap₂ (λ (xs : List ℕ) (k : ℕ). xs ++ replicate (256 - k) 0) (sym (places-below-none n marked m up none)) (sym same);
    }

-- a mark that is set
set_more : (n : ℕ) (marked : ℕ → Bool) → marked n ≡ true → set_below (suc n) marked ≡ set_below n marked + 1
unfolding set_below sum_over counted
set_more n marked is = ap (λ (b : Bool). sum_over n marked (λ i. 1) + counted b 1) is

places-more : (n : ℕ) (marked : ℕ → Bool) → marked n ≡ true → places_below (suc n) marked ≡ places_below n marked ++ (suc n ∷ [])
unfolding places_below put
places-more n marked is = ap (λ (b : Bool). places_below n marked ++ put b (suc n) []) is

more-places : (n : ℕ) (marked : ℕ → Bool) → n < 256 → marked n ≡ true → (list more : List ℕ) (k : ℕ)
    → list ≡ places_below n marked ++ replicate (256 - set_below n marked) 0 → k ≡ set_below n marked → more ≡ set list k (suc n)
    → more ≡ places_below (suc n) marked ++ replicate (256 - set_below (suc n) marked) 0
more-places n marked room is list more k places as_many stored =
    let few : set_below n marked ≤ n = set-below-le n marked in
    let rest : ℕ = 255 - set_below n marked in
    let left : 256 - set_below n marked ≡ suc rest = omega arith in
    let same : 256 - set_below (suc n) marked ≡ rest = omega (arith, set_more n marked is) in
    let front = places_below n marked in
    stored ∙
    (ap₂ (λ (xs : List ℕ) (at : ℕ). set xs at (suc n)) (places ∙ ap (λ (j : ℕ). front ++ replicate j 0) left) as_many ∙
    (set_at front 0 (replicate rest 0) (suc n) (set_below n marked) (length-places n marked) ∙
    (sym (append_snoc front (suc n) (replicate rest 0)) ∙
    ap₂ (λ (xs : List ℕ) (j : ℕ). xs ++ replicate j 0) (sym (places-more n marked is)) (sym same))))

pub listed_more :
    {marked : ℕ → Bool} (n : ℕ) {list more : Places} {next : ℕ} → Listed marked n list → suc n ≡ next → next ≤ 256 → marked n ≡ true
    → more.count ≡ list.count + 1 → more.place ≡ set list.place list.count next → Listed marked next more
listed_more {marked} n {list} {more} {next} done follows room is one_more stored =
    let stored' : more.place ≡ set list.place list.count (suc n) = stored ∙ ap (set list.place list.count) (sym follows) in
    subst (λ (m : ℕ). Listed marked m more) follows (record {
      as_many = omega (arith, set_more n marked is, done.as_many);
      places = more-places n marked (omega arith) is list.place more.place list.count done.places done.as_many stored';
    })

pub listed-all : {marked : ℕ → Bool} {list : Places} → Listed marked 256 list → list ≡ places_of marked
unfolding places_of
listed-all done = ap₂ (λ (n : ℕ) (xs : List ℕ). record { count = n; place = xs }) done.as_many done.places
