-- Laws of the helper functions: tests, kept elements, the biggest of a list, sums over the numbers that pass a test.
use mathlib.Core.Path.{◌≡◌, refl, sym, ap, subst}
use mathlib.Core.Logic.{◌⊎◌, inl, inr}
use mathlib.Core.Bool.{Bool, true, false, not, ◌&&◌, ◌||◌}
use mathlib.Core.List.Memᴰ
use mathlib.Core.List.Memᴰ.{head as here}
use mathlib.Core.List.Memᴰ.{tail as there}
use mathlib.Core.List.{List, [], ◌∷◌, ◌++◌, Memᴰ}
use mathlib.Core.Option.{Option, none, some}
use Prim.Native.Nat.{ℕ, zero, suc, ◌+◌, ◌≤◌, ◌<◌, max}
use native.Mathlib.Nat.{le_refl, le_trans, le-max_left, le-max_right, max-le, not-suc-le-zero, eq-or-lt_of_le, add-zero, add-le-add}
use native.Mathlib.Omega.{arith}
use lib.Dec.{T, eqb, eqb_refl, leb, leb→le, nleb→lt}
use lib.ListN.{length, get_or}
use Rattle.model.specs.Lists.{put, keep, without, keep_places, tabulate, every, biggest, any_below, or_else, first_from, counted, sum_over}

-- ── Tests ──

pub cases : (b : Bool) → T b ⊎ T (not b)
cases true = inl tt
cases false = inr tt

pub is_true : (b : Bool) → T b → b ≡ true
is_true true t = refl
is_true false t = absurd t

pub is_false : (b : Bool) → T (not b) → b ≡ false
is_false true t = absurd t
is_false false t = refl

pub and_left : (a b : Bool) → T (a && b) → T a
and_left true b t = tt
and_left false b t = t

pub and_right : (a b : Bool) → T (a && b) → T b
and_right true b t = t
and_right false b t = absurd t

pub and_both : (a b : Bool) → T a → T b → T (a && b)
and_both true b s t = t
and_both false b s t = absurd s

or_cases : (a b : Bool) → T (a || b) → T a ⊎ T b
or_cases true b t = inl tt
or_cases false b t = inr t

or_left : (a b : Bool) → T a → T (a || b)
or_left true b t = tt
or_left false b t = absurd t

or_right : (a b : Bool) → T b → T (a || b)
or_right true b t = tt
or_right false b t = t

pub eq→eqb : {a b : ℕ} → a ≡ b → T (eqb a b)
eq→eqb {a} q = subst (λ (x : ℕ). T (eqb a x)) q (eqb_refl a)

pub order : (a b : ℕ) → (a ≤ b) ⊎ (b < a)
order a b = go (cases (leb a b))
  where
    go : T (leb a b) ⊎ T (not (leb a b)) → (a ≤ b) ⊎ (b < a)
    go (inl t) = inl (leb→le a b t)
    go (inr t) = inr (nleb→lt a b t)

-- a number below suc n is below n, or n
pub below_suc : {v n : ℕ} → v < suc n → (v < n) ⊎ (v ≡ n)
below_suc {v} {n} h = go (eq-or-lt_of_le h)
  where
    go : (suc v ≡ suc n) ⊎ (suc v < suc n) → (v < n) ⊎ (v ≡ n)
    go (inl e) = inr (omega arith)
    go (inr l) = inl (omega arith)

-- ── Kept elements ──

module _ {A : Type 0} where
  put-here : (b : Bool) {e x : A} (xs : List A) → e ≡ x → T b → Memᴰ e (put b x xs)
  unfolding put
  put-here true xs q t = here q
  put-here false xs q t = absurd t

  put-there : (b : Bool) {e : A} (x : A) {xs : List A} → Memᴰ e xs → Memᴰ e (put b x xs)
  unfolding put
  put-there true x m = there m
  put-there false x m = m

  pub put-out : (b : Bool) {e x : A} {xs : List A} → Memᴰ e (put b x xs) → ((e ≡ x) × T b) ⊎ Memᴰ e xs
  unfolding put
  put-out true (here q) = inl (q, tt)
  put-out true (there m) = inr m
  put-out false m = inr m

  pub keep-in : (t : A → Bool) {e : A} {xs : List A} → Memᴰ e xs → T (t e) → Memᴰ e (keep t xs)
  unfolding keep
  keep-in t (here {x = x} {xs = xs} q) h = put-here (t x) (keep t xs) q (subst (λ (y : A). T (t y)) q h)
  keep-in t (there {x = x} m) h = put-there (t x) x (keep-in t m h)

  pub keep_out : (t : A → Bool) {e : A} (xs : List A) → Memᴰ e (keep t xs) → Memᴰ e xs × T (t e)
  unfolding keep
  keep_out t [] m = absurd (elim m [ ])
  keep_out t {e} (x ∷ xs) m = go (λ m'. keep_out t xs m') (put-out (t x) m)
    where
      go : (Memᴰ e (keep t xs) → Memᴰ e xs × T (t e)) → ((e ≡ x) × T (t x)) ⊎ Memᴰ e (keep t xs) → Memᴰ e (x ∷ xs) × T (t e)
      go ih (inl h) = (here h.0, subst (λ (y : A). T (t y)) (sym h.0) h.1)
      go ih (inr m') = let r = ih m' in (there r.0, r.1)

  -- an element stands at some place
  pub member-place : {e : A} {xs : List A} (x₀ : A) → Memᴰ e xs → (i : ℕ) × (i < length xs) × (get_or xs i x₀ ≡ e)
  member-place x₀ (here q) = (0, omega arith, sym q)
  member-place x₀ (there m) = let r = member-place x₀ m in let l = r.1 in (suc r.0, omega arith, r.2)

  pub place-member : (xs : List A) (i : ℕ) (x₀ : A) → i < length xs → Memᴰ (get_or xs i x₀) xs
  place-member [] i x₀ h = absurd (not-suc-le-zero h)
  place-member (x ∷ xs) zero x₀ h = here refl
  place-member (x ∷ xs) (suc i) x₀ h = there (place-member xs i x₀ (omega arith))

  pub without-member : (i : ℕ) {e : A} (xs : List A) → Memᴰ e (without i xs) → Memᴰ e xs
  unfolding without
  without-member i [] m = m
  without-member zero (x ∷ xs) m = there m
  without-member (suc i) (x ∷ xs) (here q) = here q
  without-member (suc i) (x ∷ xs) (there m) = there (without-member i xs m)

  pub without_other : (i : ℕ) {e : A} (xs : List A) (x₀ : A) → (e ≡ get_or xs i x₀ → ⊥) → Memᴰ e xs → Memᴰ e (without i xs)
  unfolding without
  without_other i [] x₀ h m = m
  without_other zero (x ∷ xs) x₀ h (here q) = absurd (h q)
  without_other zero (x ∷ xs) x₀ h (there m) = m
  without_other (suc i) (x ∷ xs) x₀ h (here q) = here q
  without_other (suc i) (x ∷ xs) x₀ h (there m) = there (without_other i xs x₀ h m)

  pub places-in : (t : ℕ → Bool) (k : ℕ) (xs : List A) (i : ℕ) (x₀ : A) → i < length xs → T (t (k + i)) → Memᴰ (get_or xs i x₀) (keep_places t k xs)
  unfolding keep_places
  places-in t k [] i x₀ h p = absurd (not-suc-le-zero h)
  places-in t k (x ∷ xs) zero x₀ h p = put-here (t k) (keep_places t (suc k) xs) refl (subst (λ (y : ℕ). T (t y)) (add-zero k) p)
  places-in t k (x ∷ xs) (suc i) x₀ h p =
      put-there (t k) x (places-in t (suc k) xs i x₀ (omega arith) (subst (λ (y : ℕ). T (t y)) (omega arith) p))

  pub places-out : (t : ℕ → Bool) (k : ℕ) {e : A} (xs : List A) → Memᴰ e (keep_places t k xs) → Memᴰ e xs
  unfolding keep_places
  places-out t k [] m = m
  places-out t k {e} (x ∷ xs) m = go (λ m'. places-out t (suc k) xs m') (put-out (t k) m)
    where
      go : (Memᴰ e (keep_places t (suc k) xs) → Memᴰ e xs) → ((e ≡ x) × T (t k)) ⊎ Memᴰ e (keep_places t (suc k) xs) → Memᴰ e (x ∷ xs)
      go ih (inl h) = here h.0
      go ih (inr m') = there (ih m')

  -- ── Lists of f 0, f 1, .. ──

  pub tabulate-in : (f : ℕ → A) (n v : ℕ) → v < n → Memᴰ (f v) (tabulate n f)
  unfolding tabulate
  tabulate-in f zero v l = absurd (not-suc-le-zero l)
  tabulate-in f (suc n) v l = go (λ l'. tabulate-in f n v l') (below_suc l)
    where
      go : (v < n → Memᴰ (f v) (tabulate n f)) → (v < n) ⊎ (v ≡ n) → Memᴰ (f v) (tabulate n f ++ (f n ∷ []))
      go ih (inl l') = Memᴰ.append_left (f n ∷ []) (ih l')
      go ih (inr q) = Memᴰ.append_right (tabulate n f) (here (ap f q))

  pub tabulate-out : (f : ℕ → A) (n : ℕ) {x : A} → Memᴰ x (tabulate n f) → (v : ℕ) × (v < n) × (x ≡ f v)
  unfolding tabulate
  tabulate-out f zero m = absurd (Memᴰ.not-nil m)
  tabulate-out f (suc n) {x} m = go (λ m'. tabulate-out f n m') (Memᴰ.append_cases (tabulate n f) m)
    where
      go : (Memᴰ x (tabulate n f) → (v : ℕ) × (v < n) × (x ≡ f v)) → Memᴰ x (tabulate n f) ⊎ Memᴰ x (f n ∷ []) → (v : ℕ) × (v < suc n) × (x ≡ f v)
      go ih (inl m') = let r = ih m' in let l = r.1 in (r.0, omega arith, r.2)
      go ih (inr m') = (n, omega arith, Memᴰ.eq_of_singleton m')

  -- ── Every element passes a test ──

  pub every_in : (t : A → Bool) (xs : List A) → ((x : A) → Memᴰ x xs → T (t x)) → T (every t xs)
  unfolding every
  every_in t [] h = tt
  every_in t (x ∷ xs) h = and_both (t x) (every t xs) (h x (here refl)) (every_in t xs (λ y m. h y (there m)))

  pub every-out : (t : A → Bool) {x : A} {xs : List A} → T (every t xs) → Memᴰ x xs → T (t x)
  unfolding every
  every-out t h (here {x = y} {xs = ys} q) = subst (λ (z : A). T (t z)) (sym q) (and_left (t y) (every t ys) h)
  every-out t h (there {x = y} {xs = ys} m) = every-out t (and_right (t y) (every t ys) h) m

  -- ── The biggest of a list ──

  pub biggest-above : (f : A → ℕ) {e : A} {xs : List A} → Memᴰ e xs → f e ≤ biggest f xs
  unfolding biggest
  biggest-above f (here {x = x} {xs = xs} q) = subst (λ (y : A). f y ≤ max (f x) (biggest f xs)) (sym q) (le-max_left (f x) (biggest f xs))
  biggest-above f (there {x = x} {xs = xs} m) = le_trans (biggest-above f m) (le-max_right (f x) (biggest f xs))

  pub biggest-below : (f : A → ℕ) (xs : List A) {b : ℕ} → ((e : A) → Memᴰ e xs → f e ≤ b) → biggest f xs ≤ b
  unfolding biggest
  biggest-below f [] h = omega arith
  biggest-below f (x ∷ xs) h = max-le (h x (here refl)) (biggest-below f xs (λ e m. h e (there m)))

  -- the biggest is 0, or that of an element
  pub biggest-reached : (f : A → ℕ) (xs : List A) → (biggest f xs ≡ 0) ⊎ ((e : A) × Memᴰ e xs × (f e ≡ biggest f xs))
  unfolding biggest
  biggest-reached f [] = inl refl
  biggest-reached f (x ∷ xs) = go (biggest-reached f xs) (order (f x) (biggest f xs))
    where
      go : (biggest f xs ≡ 0) ⊎ ((e : A) × Memᴰ e xs × (f e ≡ biggest f xs)) → (f x ≤ biggest f xs) ⊎ (biggest f xs < f x) →
          (max (f x) (biggest f xs) ≡ 0) ⊎ ((e : A) × Memᴰ e (x ∷ xs) × (f e ≡ max (f x) (biggest f xs)))
      go (inl z) (inl l) = inl (omega arith)
      go (inr r) (inl l) = let q : f r.0 ≡ biggest f xs = r.2 in inr (r.0, there r.1, omega arith)
      go r (inr l) = inr (x, here refl, omega arith)

-- a test that each number below n is computed to pass
pub all-below : (n : ℕ) (t : ℕ → Bool) → T (every t (tabulate n (λ v. v))) → (v : ℕ) → v < n → T (t v)
all-below n t h v l = every-out t h (tabulate-in (λ v. v) n v l)

-- ── Some number below n passes a test ──

pub any-in : (n : ℕ) (t : ℕ → Bool) (v : ℕ) → v < n → T (t v) → T (any_below n t)
unfolding any_below
any-in zero t v l h = absurd (not-suc-le-zero l)
any-in (suc n) t v l h = go (λ l'. any-in n t v l' h) (below_suc l)
  where
    go : (v < n → T (any_below n t)) → (v < n) ⊎ (v ≡ n) → T (any_below n t || t n)
    go ih (inl l') = or_left (any_below n t) (t n) (ih l')
    go ih (inr q) = or_right (any_below n t) (t n) (subst (λ (u : ℕ). T (t u)) q h)

pub any_out : (n : ℕ) (t : ℕ → Bool) → T (any_below n t) → (v : ℕ) × (v < n) × T (t v)
unfolding any_below
any_out zero t h = absurd h
any_out (suc n) t h = go (λ h'. any_out n t h') (or_cases (any_below n t) (t n) h)
  where
    go : (T (any_below n t) → (v : ℕ) × (v < n) × T (t v)) → T (any_below n t) ⊎ T (t n) → (v : ℕ) × (v < suc n) × T (t v)
    go ih (inl h') = let r = ih h' in let l = r.1 in (r.0, omega arith, r.2)
    go ih (inr h') = (n, omega arith, h')

-- ── The first number that passes a test ──

-- what first_from answers: the first of v, .., v + f - 1 that passes, or that none does
pub data FirstFrom (t : ℕ → Bool) (v f : ℕ) : Option ℕ → Type 0 where
  found : {u : ℕ} → v ≤ u → u < v + f → T (t u) → ((w : ℕ) → v ≤ w → w < u → T (not (t w))) → FirstFrom t v f (some u)
  missing : ((w : ℕ) → v ≤ w → w < v + f → T (not (t w))) → FirstFrom t v f none

pub first-from : (t : ℕ → Bool) (v f : ℕ) → FirstFrom t v f (first_from t v f)
unfolding first_from
first-from t v zero = missing (λ w h l. absurd (omega arith))
first-from t v (suc f) = go (t v) refl (first-from t (suc v) f)
  where
    from_next : T (not (t v)) → (w : ℕ) → v ≤ w → (suc v ≤ w → T (not (t w))) → T (not (t w))
    from_next p w h k = pick (eq-or-lt_of_le h)
      where
        pick : (v ≡ w) ⊎ (v < w) → T (not (t w))
        pick (inl q) = subst (λ (u : ℕ). T (not (t u))) q p
        pick (inr l) = k l

    later : {o : Option ℕ} → T (not (t v)) → FirstFrom t (suc v) f o → FirstFrom t v (suc f) o
    later b (found {u = u} h l y no-earlier) =
        found {u = u} (omega arith) (omega arith) y (λ w h' l'. from_next b w h' (λ h''. no-earlier w h'' l'))
    later b (missing all) = missing (λ w h' l'. from_next b w h' (λ h''. all w h'' (omega arith)))

    go : (b : Bool) → t v ≡ b → {o : Option ℕ} → FirstFrom t (suc v) f o → FirstFrom t v (suc f) (or_else b v o)
    go true q r = found (le_refl v) (omega arith) (subst T (sym q) tt) (λ w h l. absurd (omega arith))
    go false q r = later (subst (λ (b : Bool). T (not b)) (sym q) tt) r

-- ── Sums over the numbers that pass a test ──

counted-mono : (a b : Bool) (w : ℕ) → (T a → T b) → counted a w ≤ counted b w
unfolding counted
counted-mono true true w k = le_refl w
counted-mono true false w k = absurd (k tt)
counted-mono false b w k = omega arith

counted-new : (a b : Bool) (w : ℕ) → T (not a) → T b → counted a w + w ≤ counted b w
unfolding counted
counted-new true b w s t = absurd s
counted-new false true w s t = omega arith
counted-new false false w s t = absurd t

-- g passes all that f passes
pub sum_mono : (n : ℕ) (f g : ℕ → Bool) (w : ℕ → ℕ) → ((u : ℕ) → u < n → T (f u) → T (g u)) → sum_over n f w ≤ sum_over n g w
unfolding sum_over
sum_mono zero f g w h = omega arith
sum_mono (suc n) f g w h = add-le-add (sum_mono n f g w (λ u l. h u (omega arith))) (counted-mono (f n) (g n) (w n) (h n (omega arith)))

-- g passes all that f passes, and x besides
pub sum_more : (n : ℕ) (f g : ℕ → Bool) (w : ℕ → ℕ) → ((u : ℕ) → u < n → T (f u) → T (g u)) → (x : ℕ) → x < n → T (not (f x)) → T (g x) →
    sum_over n f w + w x ≤ sum_over n g w
unfolding sum_over
sum_more zero f g w h x l a b = absurd (not-suc-le-zero l)
sum_more (suc n) f g w h x l a b = go (λ l'. sum_more n f g w (λ u l. h u (omega arith)) x l' a b) (below_suc l)
  where
    go : (x < n → sum_over n f w + w x ≤ sum_over n g w) → (x < n) ⊎ (x ≡ n) → sum_over n f w + counted (f n) (w n) + w x ≤ sum_over n g w + counted (g n) (w n)
    go ih (inl l') = let i = ih l' in let m = counted-mono (f n) (g n) (w n) (h n (omega arith)) in omega arith
    go ih (inr q) =
        let i = sum_mono n f g w (λ u l. h u (omega arith)) in
        let m = counted-new (f n) (g n) (w n) (subst (λ (y : ℕ). T (not (f y))) q a) (subst (λ (y : ℕ). T (g y)) q b) in
        let e = ap w q in
        omega arith

-- at most n numbers below n pass
pub sum_ones : (n : ℕ) (f : ℕ → Bool) → sum_over n f (λ v. 1) ≤ n
unfolding sum_over
sum_ones zero f = omega arith
sum_ones (suc n) f = go (f n) (sum_ones n f)
  where
    go : (b : Bool) → sum_over n f (λ v. 1) ≤ n → sum_over n f (λ v. 1) + counted b 1 ≤ suc n
    go true h = omega arith
    go false h = omega arith
