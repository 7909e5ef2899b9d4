-- A row lowered by scans. An entry that is lowered is the delay of a path, since it is that of a way and what is known after it; where none has fallen that
-- was not scanned no edge betters an entry, and so no path does, by induction along it. What was seen falls with each scan.
use mathlib.Core.Path.{◌≡◌, sym, ap, ◌∙◌, subst}
use mathlib.Core.Logic.{◌⊎◌, inl, inr}
use mathlib.Core.Bool.{Bool, true, cond}
use mathlib.Core.List.{List, [], ◌∷◌}
use mathlib.Core.Option.{Option, none, some}
use Prim.Native.Nat.{ℕ, zero, suc, ◌+◌, ◌-◌, ◌*◌, ◌≤◌, ◌<◌, min}
use native.Mathlib.Nat.{not-suc-le-zero}
use native.Mathlib.Omega.{arith}
use lib.ListN.{length, get_or, set, replicate, length-set, length-replicate, get_or-replicate, get_or-eq_default}
use Rattle.std.proofs.Common.{take, drop, length-take, length-drop, get_or-take, get_or-drop}
use lib.Seq.{get_or-set_same, get_or-set_other, ext_get_or}
use Rattle.model.specs.Tasks.{Edge, ◌∈◌}
use Rattle.model.specs.Paths.{total, Walk, stop, step, Path, Least, smallest, no-path}
use Rattle.model.specs.Compute.{least_delay}
use Rattle.model.proofs.Basics.{order}
use Rattle.model.proofs.Tests.{decided, eqb-decides, decides-yes, decides-no}
use Rattle.model.proofs.Theorems.{least-delay-is, least-bound}
use Rattle.model.proofs.Walks.{path-append, path-delay}
use Rattle.reach.specs.Reach.{bit}
use Rattle.delays.specs.Delays.{entry, delay_row}
use Rattle.delays.specs.Rows.{row_at, sum, PathDelay, LeastEntry, Known, RowCopied, Low, Relaxed, Seen, Scanned, widened}
use Rattle.delays.proofs.Table.{row-length, row-at}

-- ── Delays of paths ──

pub held-is : {es : List Edge} {a b x y : ℕ} → x ≡ y → PathDelay es a b y → PathDelay es a b x
held-is {es} {a} {b} same held = subst (λ (z : ℕ). PathDelay es a b z) (sym same) held

-- the smaller of two delays that paths have
pub held-lesser : {es : List Edge} {a b x y : ℕ} → PathDelay es a b x → (y < 16383 → Path es a b y) → PathDelay es a b (min x y)
held-lesser {es} {a} {b} {x} {y} held path = go (order x y)
  where
    go : (x ≤ y) ⊎ (y < x) → PathDelay es a b (min x y)
    go (inl low) = held-is (omega arith) held
    go (inr high) = let small = held.small in record { small = omega arith; path = λ l. path-delay (omega arith) (path (omega arith)) }

-- ── What was seen falls ──

sum_low : (xs ys : List ℕ) → length xs ≡ length ys → ((i : ℕ) → get_or xs i 0 ≤ get_or ys i 0) → sum xs ≤ sum ys
unfolding sum
sum_low [] ys size low = omega arith
sum_low (x ∷ xs) [] size low = absurd (omega arith)
sum_low (x ∷ xs) (y ∷ ys) size low =
    let first : x ≤ y = low 0 in
    let rest = sum_low xs ys (omega arith) (λ i. low (suc i)) in
    omega arith

sum_less :
    (xs ys : List ℕ) → length xs ≡ length ys → ((i : ℕ) → get_or xs i 0 ≤ get_or ys i 0) → (k : ℕ) → k < length ys → get_or xs k 0 < get_or ys k 0
    → sum xs < sum ys
unfolding sum
sum_less [] ys size low k inside smaller = absurd (omega arith)
sum_less (x ∷ xs) [] size low k inside smaller = absurd (not-suc-le-zero inside)
sum_less (x ∷ xs) (y ∷ ys) size low zero inside smaller =
    let rest = sum_low xs ys (omega arith) (λ i. low (suc i)) in
    let first : x < y = smaller in
    omega arith
sum_less (x ∷ xs) (y ∷ ys) size low (suc k) inside smaller =
    let first : x ≤ y = low 0 in
    let rest = sum_less xs ys (omega arith) (λ i. low (suc i)) k (omega arith) smaller in
    omega arith

-- no entry is larger if one is set to a smaller value
pub set-less : (row : List ℕ) (u way : ℕ) → u < length row → way ≤ get_or row u 0 → (i : ℕ) → get_or (set row u way) i 0 ≤ get_or row i 0
set-less row u way inside less i = go (decided (eqb-decides i u))
  where
    go : (i ≡ u) ⊎ (i ≡ u → ⊥) → get_or (set row u way) i 0 ≤ get_or row i 0
    go (inl same) =
        let here = get_or-set_same row u way 0 inside in
        subst (λ (x : ℕ). get_or (set row u way) x 0 ≤ get_or row x 0) (sym same) (omega arith)
    go (inr other) = let kept = get_or-set_other row u i way 0 other in omega arith

pub far-low : Low (replicate 64 16383)
far-low = record {
  size = length-replicate {A = ℕ} 64 16383;
  each = λ b l. let far = get_or-replicate {A = ℕ} 64 b 16383 0 l in omega arith;
}

-- ── A scan ──

module _ {row seen : List ℕ} {u : ℕ} (inner : u < 64) (row_low : Low row) (seen_low : Low seen) (fell : get_or row u 0 < get_or seen u 0) where
  abbrev way : ℕ
  way = get_or row u 0

  inside : u < length seen
  inside = omega (arith, seen_low.size)

  here : get_or (set seen u way) u 0 ≡ way
  here = get_or-set_same seen u way 0 inside

  pub set-low : Low (set seen u way)
  set-low = record {
    size = length-set seen u way ∙ seen_low.size;
    each = λ b l. let less = set-less seen u way inside (omega arith) b in omega (arith, less, seen_low.each b l);
  }

  falls : {after : List ℕ} → Low after → ((i : ℕ) → get_or after i 0 ≤ get_or (set seen u way) i 0) → sum after < sum seen
  falls {after} low below =
      sum_less after seen (low.size ∙ sym seen_low.size) (λ i. omega (arith, below i, set-less seen u way inside (omega arith) i)) u inside
      (omega (arith, below u, here))

  module _ {known next : List ℕ} (relaxed : Relaxed known (u * 64) way row next) where
    seen_more : {n done : ℕ} {es : List Edge} {a : ℕ} → Known n es done known → Seen es a row seen → Seen es a next (set seen u way)
    seen_more {n} {done} {es} {a} square old = record {
      held = λ b l.
          held-is (relaxed.each b l)
          (held-lesser (old.held b l) (λ less. path-append ((old.held u inner).path (omega arith)) ((square.held u b inner l).path (omega arith))));
      direct = λ e m own. omega (arith, relaxed.each e.sink (to e m), old.direct e m own);
      onward = λ e m. go e m (decided (eqb-decides e.source u));
    }
      where
        to : (e : Edge) → e ∈ es → e.sink < 64
        to e m = omega (arith, (square.fit.ends e m).1, square.few)

        go : (e : Edge) → e ∈ es → (e.source ≡ u) ⊎ (e.source ≡ u → ⊥) → get_or next e.sink 0 ≤ get_or (set seen u way) e.source 0 + e.delay
        go e m (inl same) =
            let short : row_at known u e.sink ≤ e.delay = subst (λ (x : ℕ). row_at known x e.sink ≤ e.delay) same (square.direct e m) in
            subst (λ (x : ℕ). get_or next e.sink 0 ≤ get_or (set seen u way) x 0 + e.delay) (sym same)
            (omega (arith, here, short, relaxed.each e.sink (to e m)))
        go e m (inr other) =
            let kept = get_or-set_other seen u e.source way 0 other in
            omega (arith, kept, relaxed.each e.sink (to e m), old.onward e m)

    pub scanned-once : {done : ℕ} → Scanned known done u row seen next (set seen u way)
    scanned-once = record {
      row_low = relaxed.low;
      seen_low = set-low;
      less = falls set-low (λ i. omega arith);
      ways = λ n es a below square old. seen_more square old;
    }

    -- if its row is finished, whatever it has lowered was seen
    pub scanned-finished :
        {done : ℕ} {after : List ℕ} → bit done u ≡ true → Relaxed known (u * 64) way (set seen u way) after → Scanned known done u row seen next after
    scanned-finished {done} {after} finished also = record {
      row_low = relaxed.low;
      seen_low = also.low;
      less = falls also.low below;
      ways = λ n es a inner' square old.
          let more = seen_more square old in
          record {
            held = more.held;
            direct = more.direct;
            onward = λ e m.
                let ends = square.fit.ends e m in
                let few : n ≤ 64 = square.few in
                omega (arith, also.each e.source (omega arith), relaxed.each e.sink (omega arith), more.onward e m, square.closed u inner' finished e m);
          };
    }
      where
        below : (i : ℕ) → get_or after i 0 ≤ get_or (set seen u way) i 0
        below i = go (order 64 i)
          where
            go : (64 ≤ i) ⊎ (i < 64) → get_or after i 0 ≤ get_or (set seen u way) i 0
            go (inl past) = let none = get_or-eq_default after 0 {n = i} (omega (arith, also.low.size)) in omega arith
            go (inr l) = omega (arith, also.each i l)

-- numbers that no edge betters, neither one out of a task nor one after the number of its source, are at most the delays of paths out of that task
module _
    {es : List Edge} {a : ℕ} (f : ℕ → ℕ) (direct : (e : Edge) → e ∈ es → e.source ≡ a → f e.sink ≤ e.delay)
    (idle : (e : Edge) → e ∈ es → f e.sink ≤ f e.source + e.delay)
  where
    along : {c b : ℕ} {p : List Edge} → Walk es c p b → f b ≤ f c + total p
    unfolding total
    along {c} {b} (stop q) = let same = ap f q in omega arith
    along {c} {b} (step {e = e} {p = p} m from w) =
        let rest = along w in
        let first = idle e m in
        let same = ap f from in
        omega arith

    pub none-less : {b d : ℕ} → Path es a b d → f b ≤ d
    unfolding total
    none-less {b} {d} path = subst (λ (x : ℕ). f b ≤ x) path.sum (go path.walk)
      where
        go : {e : Edge} {p : List Edge} → Walk es a (e ∷ p) b → f b ≤ total (e ∷ p)
        go (step {e = e} {p = p} m from w) =
            let rest = along w in
            let first = direct e m from in
            omega arith

-- ── A row ──

-- a part of 64 numbers, in a list of its own
pub row-copied : {rows row : List ℕ} {start : ℕ} → start + 64 ≤ length rows → row ≡ take (start + 64 - start) (drop start rows) → RowCopied rows start row
row-copied {rows} {row} {start} room same = record {
  size = ap length same ∙ simp (length-take, length-drop) (omega arith);
  each = λ b l. ap (λ (xs : List ℕ). get_or xs b 0) same ∙ (let below : b < start + 64 - start = omega arith in rw (get_or-take, get_or-drop));
}

module _ {n done a : ℕ} {es : List Edge} {known : List ℕ} (square : Known n es done known) (inner : a < n) where
  -- what is known out of the task itself
  module _ {row : List ℕ} (copied : RowCopied known (a * 64) row) where
    pub start-low : Low row
    start-low = record { size = copied.size; each = λ b l. omega (arith, copied.each b l, (square.held a b (omega (arith, square.few)) l).small) }

    pub seen_start : Seen es a row (replicate 64 16383)
    seen_start = record {
      held = λ b l. held-is (copied.each b l) (square.held a b (omega (arith, square.few)) l);
      direct = λ e m own.
          let same = copied.each e.sink (omega (arith, (square.fit.ends e m).1, square.few)) in
          let short : row_at known a e.sink ≤ e.delay = subst (λ (x : ℕ). row_at known x e.sink ≤ e.delay) own (square.direct e m) in
          omega arith;
      onward = λ e m.
          let ends = square.fit.ends e m in
          let few : n ≤ 64 = square.few in
          let far = get_or-replicate {A = ℕ} 64 e.source 16383 0 (omega arith) in
          let same = copied.each e.sink (omega arith) in
          let small = (square.held a e.sink (omega arith) (omega arith)).small in
          omega (arith, far, same, small);
    }

  module _ {row seen : List ℕ} (old : Seen es a row seen) (level : (u : ℕ) → u < n → get_or seen u 0 ≤ get_or row u 0) where
    entries-least : (b : ℕ) → b < 64 → LeastEntry es a b (get_or row b 0)
    entries-least b l = record {
      held = old.held b l;
      least = λ d path. none-less (λ x. get_or row x 0) old.direct (λ e m. omega (arith, old.onward e m, level e.source (square.fit.ends e m).0)) path;
    }

    pub row_is : {out : List ℕ} → length out ≡ n → ((b : ℕ) → b < n → get_or out b 0 ≡ widened (get_or row b 0)) → out ≡ delay_row n es a
    unfolding entry widened
    row_is {out} size each =
        ext_get_or 0 out (delay_row n es a) (size ∙ sym (row-length n es a))
        (λ b l.
        let within : b < n = omega (arith, size) in
        each b within ∙ (wide b (least_delay n es a b) (least-delay-is n es square.fit.ends a b) (entries-least b (omega (arith, square.few))) ∙ sym (row-at n es a b within)))
      where
        wide : (b : ℕ) (o : Option ℕ) → Least es a b o → LeastEntry es a b (get_or row b 0) → widened (get_or row b 0) ≡ entry o
        wide b (some d) (smallest r below) lowest =
            let x = get_or row b 0 in
            let bound : d ≤ 255 * n = least-bound n 255 es square.fit.ends square.fit.delays a b d (smallest r below) in
            let low = lowest.least d r in
            let short : x < 16383 = omega (arith, low, bound, square.few) in
            let high = below x (lowest.held.path short) in
            let same : x ≡ d = omega (arith, low, high) in
            ap (λ (y : Bool). cond y 65535 x) (decides-no (eqb-decides x 16383) (λ q. omega (arith, short, q))) ∙ same
        wide b none (no-path h) lowest = ap (λ (y : Bool). cond y 65535 (get_or row b 0)) (decides-yes (eqb-decides (get_or row b 0) 16383) (go (order 16383 (get_or row b 0)) lowest.held.small))
          where
            go : (16383 ≤ get_or row b 0) ⊎ (get_or row b 0 < 16383) → get_or row b 0 ≤ 16383 → get_or row b 0 ≡ 16383
            go (inl l) small = omega arith
            go (inr l) small = absurd (h (get_or row b 0) (lowest.held.path l))
