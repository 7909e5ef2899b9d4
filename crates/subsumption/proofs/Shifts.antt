-- Counts of pairs, shifted one after the other: what an edge added is taken off and what it adds is put on.
use mathlib.Core.Path.{◌≡◌, refl, sym, ap, ◌∙◌, subst}
use mathlib.Core.Logic.{◌⊎◌, inl, inr, ⊎_elim}
use mathlib.Core.Bool.{Bool, true, false}
use mathlib.Core.List.{List}
use Prim.Native.Nat.{ℕ, ◌+◌, ◌-◌, ◌*◌, ◌≤◌, ◌<◌}
use native.Mathlib.Nat.{not-suc-le-zero, le_refl}
use native.Mathlib.Omega.{arith}
use lib.Dec.{leb}
use lib.ListN.{length, set, length-set, replicate, length-replicate, get_or-replicate}
use lib.Seq.{get_or-set_same, get_or-set_other}
use borrow.Author.Tests.{le-leb, lt-leb}
use Rattle.model.specs.Lists.{counted}
use Rattle.model.proofs.Basics.{order}
use Rattle.records.specs.Columns.{at}
use Rattle.updates.proofs.Rows.{stored_more}
use Rattle.subsumption.specs.Subsumption.{share, Still, LeftRow, BelowRow, RowShifted, EdgeShifted, Covered, SameTests}

pub counted-few : (b : Bool) (w : ℕ) → counted b w ≤ w
unfolding counted
counted-few true w = le_refl w
counted-few false w = omega arith

-- ── One row ──

module _ {delays : List ℕ} {limit : ℕ} where
  pub left-more :
      {k : ℕ} {left : List ℕ} (v : ℕ) → LeftRow delays limit k left → k < 64 → v ≡ limit - at delays k → LeftRow delays limit (k + 1) (set left k v)
  left-more {k} {left} v done few is = record {
    size = length-set left k v ∙ done.size;
    each = stored_more (λ a x. x ≡ limit - at delays a) left v (omega (arith, done.size)) done.each is;
  }

  pub below_more :
      {k : ℕ} {row : List ℕ} (v : ℕ) → BelowRow delays limit k row → k < 64 → v ≡ counted (leb (at delays k + 1) limit) 1
      → BelowRow delays limit (k + 1) (set row k v)
  below_more {k} {row} v done few is = record {
    size = length-set row k v ∙ done.size;
    each = stored_more (λ b x. x ≡ counted (leb (at delays b + 1) limit) 1) row v (omega (arith, done.size)) done.each is;
  }

  pub below-few : {row : List ℕ} → BelowRow delays limit 64 row → (b : ℕ) → b < 64 → at row b ≤ 1
  below-few tests b l = omega (arith, tests.each b l, counted-few (leb (at delays b + 1) limit) 1)

-- zeros are the tests by a limit of 0
pub below-zero : (delays : List ℕ) → BelowRow delays 0 64 (replicate 64 0)
unfolding at counted
below-zero delays = record {
  size = length-replicate {A = ℕ} 64 0;
  each = λ b l.
      get_or-replicate {A = ℕ} 64 b 0 0 l ∙ sym (ap (λ (x : Bool). counted x 1) (lt-leb (at delays b + 1) 0 (omega arith)));
}

module _ {less more : ℕ → ℕ} {place : ℕ} where
  pub row_more :
      {k : ℕ} {before after : List ℕ} (v : ℕ) → RowShifted less more place k before after → place + k < length after
      → v + less k ≡ at after (place + k) + more k → RowShifted less more place (k + 1) before (set after (place + k) v)
  unfolding at
  row_more {k} {before} {after} v done inside is-now = record {
    size = length-set after (place + k) v ∙ done.size;
    inside = λ b l. next b l (order k b);
    outside = λ i out.
        get_or-set_other after (place + k) i v 0 (⊎_elim (λ l q. omega arith) (λ l q. omega arith) out) ∙
        done.outside i (⊎_elim (λ l. inl l) (λ l. inr (omega arith)) out);
  }
    where
      next : (b : ℕ) → b < k + 1 → (k ≤ b) ⊎ (b < k) → at (set after (place + k) v) (place + b) + less b ≡ at before (place + b) + more b
      next b l (inl h) =
          let same : b ≡ k = omega arith in
          subst (λ (x : ℕ). at (set after (place + k) v) (place + x) + less x ≡ at before (place + x) + more x) (sym same)
          (omega (arith, get_or-set_same after (place + k) v 0 inside, done.outside (place + k) (inr (omega arith)), is-now))
      next b l (inr h) = omega (arith, get_or-set_other after (place + k) (place + b) v 0 (λ q. omega arith), done.inside b h)

-- ── One edge ──

-- a sum is below a limit exactly if one of its numbers is below what the other leaves of it
left-test : (x y limit : ℕ) → leb (y + 1) (limit - x) ≡ leb (x + y + 1) limit
left-test x y limit = go (order (y + 1) (limit - x))
  where
    go : (y + 1 ≤ limit - x) ⊎ (limit - x < y + 1) → leb (y + 1) (limit - x) ≡ leb (x + y + 1) limit
    go (inl l) = le-leb (y + 1) (limit - x) l ∙ sym (le-leb (x + y + 1) limit (omega arith))
    go (inr l) = lt-leb (y + 1) (limit - x) l ∙ sym (lt-leb (x + y + 1) limit (omega arith))

-- an edge's share by what its limit leaves
share-left : (before after limit : ℕ) {left : ℕ} → left ≡ limit - before → counted (leb (after + 1) left) 1 ≡ share before after limit
unfolding share
share-left before after limit is =
    ap (λ (l : ℕ). counted (leb (after + 1) l) 1) is ∙ ap (λ (x : Bool). counted x 1) (left-test before after limit)

module _ {from to from' to' : ℕ → ℕ} {limit limit' : ℕ} where
  pub edge_none : (before : List ℕ) → EdgeShifted from to from' to' limit limit' 0 before before
  edge_none before = record { size = refl; inside = λ a b l. absurd (not-suc-le-zero l); outside = λ i out. refl }

  module _ {a : ℕ} {before now : List ℕ} (done : EdgeShifted from to from' to' limit limit' a before now) where
    -- the row that is next has the edge's share
    pub edge-covered :
        {tasks old : ℕ} → Covered from to limit tasks before → a < tasks → old ≡ limit - from a → (b : ℕ) → b < 64
        → (counted (leb (to b + 1) old) 1 ≤ at now (a * 64 + b)) × (at now (a * 64 + b) ≤ 256)
    edge-covered covered below is b l =
        let here = done.outside (a * 64 + b) (omega arith) in
        let enough = covered a b below l in
        (omega (arith, here, enough.0, share-left (from a) (to b) limit is), omega (arith, here, enough.1))

    -- the next row, by what happens to it
    next_row :
        {after : List ℕ} → length after ≡ length now → ((i : ℕ) → (i < a * 64) ⊎ (a * 64 + 64 ≤ i) → at after i ≡ at now i)
        → ((b : ℕ) → b < 64 → at after (a * 64 + b) + share (from a) (to b) limit ≡ at now (a * 64 + b) + share (from' a) (to' b) limit')
        → EdgeShifted from to from' to' limit limit' (a + 1) before after
    next_row {after} size outside row = record {
      size = size ∙ done.size;
      inside = λ c b l m. go c b l m (order a c);
      outside = λ i l. outside i (inr (omega arith)) ∙ done.outside i (omega arith);
    }
      where
        go : (c b : ℕ) → c < a + 1 → b < 64 → (a ≤ c) ⊎ (c < a)
            → at after (c * 64 + b) + share (from c) (to b) limit ≡ at before (c * 64 + b) + share (from' c) (to' b) limit'
        go c b l m (inl h) =
            let same : c ≡ a = omega arith in
            subst (λ (x : ℕ). at after (x * 64 + b) + share (from x) (to b) limit ≡ at before (x * 64 + b) + share (from' x) (to' b) limit') (sym same)
            (omega (arith, row b m, done.outside (a * 64 + b) (omega arith)))
        go c b l m (inr h) = omega (arith, outside (c * 64 + b) (inl (omega arith)), done.inside c b h m)

    pub edge_moved :
        {old new : ℕ} {less more : ℕ → ℕ} {after : List ℕ} → old ≡ limit - from a → new ≡ limit' - from' a
        → ((b : ℕ) → b < 64 → less b ≡ counted (leb (to b + 1) old) 1) → ((b : ℕ) → b < 64 → more b ≡ counted (leb (to' b + 1) new) 1)
        → RowShifted less more (a * 64) 64 now after → EdgeShifted from to from' to' limit limit' (a + 1) before after
    edge_moved was is lost gained row =
        next_row row.size (λ i out. row.outside i out)
        (λ b l.
        omega (arith, row.inside b l, lost b l, gained b l, share-left (from a) (to b) limit was, share-left (from' a) (to' b) limit' is))

    pub edge-passed :
        {old new fell : ℕ} → old ≡ limit - from a → new ≡ limit' - from' a → SameTests to to' fell → Still fell old new
        → EdgeShifted from to from' to' limit limit' (a + 1) before now
    edge-passed {old} {new} was is tests still =
        next_row refl (λ i out. refl)
        (λ b l.
        let passed : counted (leb (to b + 1) old) 1 ≡ counted (leb (to' b + 1) new) 1
        = ap (λ (x : ℕ). counted (leb (to b + 1) x) 1) still.0 ∙ ap (λ (x : Bool). counted x 1) (tests b new l still.1) in
        omega (arith, passed, share-left (from a) (to b) limit was, share-left (from' a) (to' b) limit' is))

-- by the same delays and limits, otherwise given
pub edge-as :
    {from to from' to' f t f' t' : ℕ → ℕ} {limit limit' l' tasks : ℕ} {before after : List ℕ} → tasks ≤ 64 → limit' ≡ l'
    → ((a : ℕ) → a < 64 → from a ≡ f a) → ((b : ℕ) → b < 64 → to b ≡ t b) → ((a : ℕ) → a < 64 → from' a ≡ f' a) → ((b : ℕ) → b < 64 → to' b ≡ t' b)
    → EdgeShifted from to from' to' limit limit' tasks before after → EdgeShifted f t f' t' limit l' tasks before after
edge-as {limit = limit} {before = before} {after} few limits sources sinks next-sources next-sinks shifted = record {
  size = shifted.size;
  inside = λ a b l m.
      let la : a < 64 = omega (arith, few, l) in
      coe 0 1
      (i.
      at after (a * 64 + b) + share (sources a la i) (sinks b m i) limit ≡
      at before (a * 64 + b) + share (next-sources a la i) (next-sinks b m i) (limits i))
      (shifted.inside a b l m);
  outside = shifted.outside;
}
