-- The best pair so far: pairs are looked at by source and then by sink, and the next one takes the place of the best if it is worth more.
use mathlib.Core.Path.{◌≡◌, refl, sym, ap, subst}
use mathlib.Core.Logic.{◌⊎◌, inl, inr}
use Rattle.std.specs.Prelude.{Option, None, Some}
use Prim.Native.Nat.{ℕ, zero, suc, ◌+◌, ◌≤◌, ◌<◌}
use native.Mathlib.Nat.{not-suc-le-zero}
use native.Mathlib.Numerals.{add-one}
use native.Mathlib.Omega.{arith}
use Rattle.model.proofs.Basics.{below_suc}
use Rattle.candidates.specs.declared.Pair.{Pair}
use Rattle.candidates.specs.Searches.{Earlier, BestBefore, BestSoFar, gain_of}

-- ── Which pairs come before ──

-- one pair more
earlier_more : {c d a b : ℕ} → Earlier c d a b → Earlier c d a (suc b)
earlier_more (inl l) = inl l
earlier_more (inr h) = let l = h.1 in inr (h.0, omega arith)

earlier-last : {c d a b : ℕ} → Earlier c d a (suc b) → Earlier c d a b ⊎ ((c ≡ a) × (d ≡ b))
earlier-last (inl l) = inl (inl l)
earlier-last {c} {d} {a} {b} (inr h) = go (below_suc h.1)
  where
    go : (d < b) ⊎ (d ≡ b) → Earlier c d a b ⊎ ((c ≡ a) × (d ≡ b))
    go (inl l) = inl (inr (h.0, l))
    go (inr q) = inr (h.0, q)

-- one row more
row-earlier : {c d a b : ℕ} → Earlier c d a b → Earlier c d (suc a) 0
row-earlier (inl l) = inl (omega arith)
row-earlier (inr h) = let q = h.0 in inl (omega arith)

earlier-row : {c d a n : ℕ} → d < n → Earlier c d (suc a) 0 → Earlier c d a n
earlier-row {c} {d} {a} {n} k (inl l) = go (below_suc l)
  where
    go : (c < a) ⊎ (c ≡ a) → Earlier c d a n
    go (inl h) = inl h
    go (inr q) = inr (q, k)
earlier-row k (inr h) = absurd (not-suc-le-zero h.1)

-- ── The best of them ──

module _ {n : ℕ} {worth : ℕ → ℕ → ℕ} {a gain source sink : ℕ} where
  -- the next pair is worth no more
  pub best-passed : {b : ℕ} → BestBefore n worth a b gain source sink → worth a b ≤ gain → BestBefore n worth a (suc b) gain source sink
  best-passed {b} best less = record {
    most = λ c d l earlier. no_more c d l (earlier-last earlier);
    source_below = best.source_below;
    sink_below = best.sink_below;
    worth_is = best.worth_is;
    before = λ two. earlier_more (best.before two);
    first = λ two c d l earlier same. follows two c d l (earlier-last earlier) same (best.before two);
  }
    where
      no_more : (c d : ℕ) → d < n → Earlier c d a b ⊎ ((c ≡ a) × (d ≡ b)) → worth c d ≤ gain
      no_more c d l (inl h) = best.most c d l h
      no_more c d l (inr q) = omega (arith, ap (λ (x : ℕ). worth x d) q.0, ap (worth a) q.1)

      follows : 2 ≤ gain → (c d : ℕ) → d < n → Earlier c d a b ⊎ ((c ≡ a) × (d ≡ b)) → worth c d ≡ gain → Earlier source sink a b →
          (source < c) ⊎ ((source ≡ c) × (sink ≤ d))
      follows two c d l (inl h) same own = best.first two c d l h same
      follows two c d l (inr q) same (inl h) = let p = q.0 in inl (omega arith)
      follows two c d l (inr q) same (inr h) =
          let p = q.0 in
          let r = h.0 in
          inr (omega arith, omega (arith, q.1, h.1))

  -- the next pair is worth more
  pub best-taken :
      {b : ℕ} → BestBefore n worth a b gain source sink → a < n → b < n → gain < worth a b → BestBefore n worth a (suc b) (worth a b) a b
  best-taken {b} best l k more = record {
    most = λ c d h earlier. no_more c d h (earlier-last earlier);
    source_below = λ two. l;
    sink_below = λ two. k;
    worth_is = λ two. refl;
    before = λ two. inr (refl, omega arith);
    first = λ two c d h earlier same. alone c d h (earlier-last earlier) same;
  }
    where
      no_more : (c d : ℕ) → d < n → Earlier c d a b ⊎ ((c ≡ a) × (d ≡ b)) → worth c d ≤ worth a b
      no_more c d h (inl earlier) = omega (arith, best.most c d h earlier)
      no_more c d h (inr q) = omega (arith, ap (λ (x : ℕ). worth x d) q.0, ap (worth a) q.1)

      alone : (c d : ℕ) → d < n → Earlier c d a b ⊎ ((c ≡ a) × (d ≡ b)) → worth c d ≡ worth a b → (a < c) ⊎ ((a ≡ c) × (b ≤ d))
      alone c d h (inl earlier) same = absurd (omega (arith, best.most c d h earlier))
      alone c d h (inr q) same = inr (sym q.0, omega (arith, q.1))

  taken :
      {b : ℕ} → BestBefore n worth a b gain source sink → a < n → b < n → {more : ℕ} → worth a b ≡ more → gain < more → BestBefore n worth a (b + 1) more a b
  taken {b} best l k {more} is above =
      rw add-one (subst (λ (g : ℕ). BestBefore n worth a (suc b) g a b) is (best-taken best l k (omega arith)))

  -- all pairs out of a are looked at
  pub best-row : BestBefore n worth a n gain source sink → BestBefore n worth (suc a) 0 gain source sink
  best-row best = record {
    most = λ c d l earlier. best.most c d l (earlier-row l earlier);
    source_below = best.source_below;
    sink_below = best.sink_below;
    worth_is = best.worth_is;
    before = λ two. row-earlier (best.before two);
    first = λ two c d l earlier. best.first two c d l (earlier-row l earlier);
  }

  -- none of them is worth more
  pub best-skipped :
      BestBefore n worth a 0 gain source sink → ((d : ℕ) → d < n → worth a d ≤ gain) → BestBefore n worth (suc a) 0 gain source sink
  best-skipped best less = best-row (passed n less)
    where
      passed : (k : ℕ) → ((d : ℕ) → d < k → worth a d ≤ gain) → BestBefore n worth a k gain source sink
      passed zero less = best
      passed (suc k) less = best-passed (passed k (λ d l. less d (omega arith))) (less k (omega arith))

-- ── As the code holds it ──

module _ (n : ℕ) (worth : ℕ → ℕ → ℕ) (a : ℕ) where
  pub so-far-passed : (b : ℕ) (best : Option Pair) → BestSoFar n worth a b best → worth a b ≤ gain_of best → BestSoFar n worth a (b + 1) best
  so-far-passed b None so_far less = rw add-one (best-passed so_far less)
  so-far-passed b (Some pair) so_far less = (so_far.0, rw add-one (best-passed so_far.1 less))

  pub so-far-taken :
      (b : ℕ) (best : Option Pair) → BestSoFar n worth a b best → a < n → b < n → {gain : ℕ} → worth a b ≡ gain → gain_of best < gain
      → BestSoFar n worth a (b + 1) (Some (record { gain = gain; source = a; sink = b }))
  so-far-taken b None so_far l k {gain} is more = (more, taken so_far l k is more)
  so-far-taken b (Some pair) so_far l k {gain} is more = (omega (arith, so_far.0), taken so_far.1 l k is more)

  pub so-far-row : (best : Option Pair) → BestSoFar n worth a n best → BestSoFar n worth (a + 1) 0 best
  so-far-row None so_far = rw add-one (best-row so_far)
  so-far-row (Some pair) so_far = (so_far.0, rw add-one (best-row so_far.1))

  pub so-far-skipped :
      (best : Option Pair) → BestSoFar n worth a 0 best → ((d : ℕ) → d < n → worth a d ≤ gain_of best) → BestSoFar n worth (a + 1) 0 best
  so-far-skipped None so_far less = rw add-one (best-skipped so_far less)
  so-far-skipped (Some pair) so_far less = (so_far.0, rw add-one (best-skipped so_far.1 less))
