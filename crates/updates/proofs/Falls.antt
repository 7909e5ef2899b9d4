-- Rows of 64 numbers fall one after the other, and each number by number: what is lowered stays, since each store goes past it, and the least of the
-- numbers that fell is kept.
use mathlib.Core.Path.{◌≡◌, refl, sym, ap, ◌∙◌, subst}
use mathlib.Core.Logic.{◌⊎◌, inl, inr, ⊎_elim}
use mathlib.Core.List.{List}
use Prim.Native.Nat.{ℕ, ◌+◌, ◌-◌, ◌*◌, ◌≤◌, ◌<◌, min}
use native.Mathlib.Nat.{not-suc-le-zero, zero-add}
use native.Mathlib.Omega.{arith}
use lib.ListN.{length, get_or, set}
use lib.Seq.{get_or-set_same, get_or-set_other}
use Rattle.model.proofs.Basics.{order}
use Rattle.records.specs.Columns.{at}
use Rattle.records.proofs.Rows.{place-within}
use Rattle.delays.specs.Rows.{RowCopied}
use Rattle.delays.proofs.Parts.{PartDone, part-more}
use Rattle.updates.specs.Updates.{Small, RowFell, lower_at, RowLowered, RowsJoined}
use Rattle.updates.proofs.Rows.{row_of, row-at}

-- ── One row ──

-- a number lowered to v either is as it was, or the least of those that fell counts it
pub fall-counted :
    (old v counts least : ℕ) {lower : ℕ} → v ≤ old → (v < old → counts ≡ v) → lower ≡ min least counts → (old ≡ v) ⊎ (lower ≤ v)
fall-counted old v counts least {lower} low fell is = go (order old v)
  where
    go : (old ≤ v) ⊎ (v < old) → (old ≡ v) ⊎ (lower ≤ v)
    go (inl h) = inl (omega arith)
    go (inr h) = inr (omega (arith, fell h))

-- what is counted of it is below 32,768, as a signed test asks
pub fall-small : {old v counts : ℕ} → old ≤ 32767 → (old ≤ v → counts ≡ 32767) → (v < old → counts ≡ v) → counts ≤ 32767
fall-small {old} {v} {counts} small same fell = ⊎_elim (λ h. omega (arith, same h)) (λ h. omega (arith, fell h)) (order old v)

module _ (way : ℕ) (onward : List ℕ) (start : ℕ) where
  pub row_none : (before : List ℕ) (least : ℕ) → RowFell way onward start 0 before before least
  row_none before least = record {
    size = refl;
    inside = λ y l. absurd (not-suc-le-zero l);
    outside = λ i out. refl;
    fell = λ y l. absurd (not-suc-le-zero l);
  }

  pub row_more :
      {k least : ℕ} {before after : List ℕ} (v lower : ℕ) → RowFell way onward start k before after least → start + k < length after
      → v ≡ min (at after (start + k)) (way + at onward k) → lower ≤ least → (at after (start + k) ≡ v) ⊎ (lower ≤ v)
      → RowFell way onward start (k + 1) before (set after (start + k) v) lower
  unfolding at
  row_more {k} {least} {before} {after} v lower done inside is falls this =
      let next = part-more part (start + k) v refl inside (is ∙ ap (λ (x : ℕ). min x (way + at onward k)) still) in
      record { size = next.size; inside = next.done; outside = next.rest; fell = λ y l. go y l (order k y) }
    where
      part : PartDone start k (λ i. min (at before (start + i)) (way + at onward i)) before after
      part = record { size = done.size; done = done.inside; rest = done.outside }

      still : at after (start + k) ≡ at before (start + k)
      still = done.outside (start + k) (inr (omega arith))

      go : (y : ℕ) → y < k + 1 → (k ≤ y) ⊎ (y < k)
          → (get_or (set after (start + k) v) (start + y) 0 ≡ get_or before (start + y) 0) ⊎ (lower ≤ get_or (set after (start + k) v) (start + y) 0)
      go y l (inl h) =
          let same : y ≡ k = omega arith in
          let new : get_or (set after (start + k) v) (start + y) 0 ≡ v =
          ap (λ (x : ℕ). get_or (set after (start + k) v) (start + x) 0) same ∙ get_or-set_same after (start + k) v 0 inside in
          let old : get_or before (start + y) 0 ≡ get_or after (start + k) 0 = ap (λ (x : ℕ). get_or before (start + x) 0) same ∙ sym still in
          ⊎_elim (λ q. inl (omega arith)) (λ q. inr (omega arith)) this
      go y l (inr h) =
          let new : get_or (set after (start + k) v) (start + y) 0 ≡ get_or after (start + y) 0 =
          get_or-set_other after (start + k) (start + y) v 0 (λ q. omega arith) in
          ⊎_elim (λ q. inl (omega arith)) (λ q. inr (omega arith)) (done.fell y h)

  -- a way as long as no path lowers nothing
  pub row-still : (rows : List ℕ) (least : ℕ) → way ≡ 16383 → Small rows → RowFell way onward start 64 rows rows least
  row-still rows least far small = record {
    size = refl;
    inside = λ y l. omega (arith, small (start + y));
    outside = λ i out. refl;
    fell = λ y l. inl refl;
  }

-- ── A row of its own ──

pub row-lowered :
    {near far x least : ℕ} {rows row after : List ℕ} → far * 64 + 64 ≤ length rows → RowCopied rows (x * 64) row
    → RowFell (at rows (x * 64 + near)) (row_of far rows) 0 64 row after least → RowLowered near far rows x after least
unfolding at
row-lowered {near} {far} {x} {least} {rows} {row} {after} room copied next = record {
  size = next.size ∙ copied.size;
  each = λ y l.
      new y ∙ (next.inside y l ∙ (λ i. min ((old y ∙ copied.each y l) i) (at rows (x * 64 + near) + row-at far rows room y l i)));
  fell = λ y l.
      ⊎_elim (λ q. inl (omega (arith, new y, q, old y, copied.each y l))) (λ q. inr (omega (arith, new y, q))) (next.fell y l);
}
  where
    new : (y : ℕ) → at after y ≡ at after (0 + y)
    new y = ap (at after) (sym (zero-add y))

    old : (y : ℕ) → at row (0 + y) ≡ at row y
    old y = ap (at row) (zero-add y)

-- ── All of them ──

-- the first `many` rows are lowered, the others are as before
pub record JoinedSoFar (near far many : ℕ) (before after : List ℕ) : Type 0 where
  pub joined : RowsJoined near far many before after
  pub rest : (i : ℕ) → many * 64 ≤ i → at after i ≡ at before i

pub joined-none : (near far : ℕ) {before : List ℕ} → Small before → JoinedSoFar near far 0 before before
joined-none near far small = record {
  joined = record { size = refl; small = small; inside = λ x y l k. absurd (not-suc-le-zero l) };
  rest = λ i l. refl;
}

pub joined-more :
    {near far x way least : ℕ} {onward before rows after : List ℕ} → JoinedSoFar near far x before rows → RowCopied before (far * 64) onward
    → way ≡ at rows (x * 64 + near) → RowFell way onward (x * 64) 64 rows after least → JoinedSoFar near far (x + 1) before after
unfolding at
joined-more {near} {far} {x} {way} {least} {onward} {before} {rows} {after} done copied way-is next = record {
  joined = record {
    size = next.size ∙ done.joined.size;
    small = λ i. low i (order (x * 64) i) (order (x * 64 + 64) i);
    inside = λ a y l k. go a y l k (order x a);
  };
  rest = λ i l. next.outside i (inr (omega arith)) ∙ done.rest i (omega arith);
}
  where
    -- the row was as it was at first
    first : (y : ℕ) → at rows (x * 64 + y) ≡ at before (x * 64 + y)
    first y = done.rest (x * 64 + y) (omega arith)

    low : (i : ℕ) → (x * 64 ≤ i) ⊎ (i < x * 64) → (x * 64 + 64 ≤ i) ⊎ (i < x * 64 + 64) → at after i ≤ 16383
    low i (inr h) past = omega (arith, next.outside i (inl h), done.joined.small i)
    low i (inl h) (inl past) = omega (arith, next.outside i (inr past), done.joined.small i)
    low i (inl h) (inr within) =
        let y = i - x * 64 in
        let place : x * 64 + y ≡ i = omega arith in
        let new = next.inside y (omega arith) in
        omega (arith, ap (at after) place, new, done.joined.small (x * 64 + y))

    go : (a y : ℕ) → a < x + 1 → y < 64 → (x ≤ a) ⊎ (a < x) → at after (a * 64 + y) ≡ lower_at near far before a y
    go a y l k (inl h) =
        let same : x ≡ a = omega arith in
        subst (λ (c : ℕ). at after (c * 64 + y) ≡ lower_at near far before c y) same
        (next.inside y k ∙ (λ i. min (first y i) ((way-is ∙ first near) i + copied.each y k i)))
    go a y l k (inr h) = next.outside (a * 64 + y) (inl (place-within 64 x a y h k)) ∙ done.joined.inside a y h k
