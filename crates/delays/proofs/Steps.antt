-- The edges of a list taken into a square, one after the other: an entry is as it was, or it is the edge's delay. The square is then what is known before
-- any row is finished.
use mathlib.Core.Path.{◌≡◌, refl, sym, ap, ◌∙◌, subst}
use mathlib.Core.Logic.{◌⊎◌, inl, inr}
use mathlib.Core.Bool.{true≢false}
use mathlib.Core.List.{List}
use Prim.Native.Nat.{ℕ, ◌+◌, ◌*◌, ◌≤◌, ◌<◌, min}
use native.Mathlib.Nat.{not-suc-le-zero}
use native.Mathlib.Omega.{arith}
use lib.ListN.{length, get_or, set, replicate, length-set, length-replicate, get_or-replicate}
use lib.Seq.{get_or-set_same, get_or-set_other}
use Rattle.model.specs.Tasks.{Edge, ◌∈◌}
use Rattle.model.proofs.Basics.{order}
use Rattle.model.proofs.Tests.{decided, eqb-decides}
use Rattle.model.proofs.Walks.{path-edge, path-ends, path-delay}
use Rattle.layout.specs.declared.EdgeRecord.{EdgeRecord}
use Rattle.records.specs.Columns.{edge_of, edges_in, no_record}
use Rattle.records.proofs.EdgesIn.{record-in, record-out}
use Rattle.reach.proofs.Bits.{bit-zero}
use Rattle.delays.specs.Delays.{Fit}
use Rattle.delays.specs.Rows.{row_at, StepsOf, Known}
use Rattle.delays.proofs.Rows.{set-less}

-- ends and delay of an edge of a list
pub fit_at :
    (rs : List EdgeRecord) {n : ℕ} (j : ℕ) → Fit n (edges_in rs) → j < length rs
    → ((get_or rs j no_record).source < n) × ((get_or rs j no_record).sink < n) × ((get_or rs j no_record).delay ≤ 255)
unfolding edge_of
fit_at rs j fit l =
    let m = record-in rs j l in
    let ends = fit.ends (edge_of (get_or rs j no_record)) m in
    (ends.0, ends.1, fit.delays (edge_of (get_or rs j no_record)) m)

-- of no more tasks than a square has rows
pub fit_wide : {n : ℕ} {es : List Edge} → n ≤ 64 → Fit n es → Fit 64 es
fit_wide few fit = record { ends = λ e m. (omega (arith, (fit.ends e m).0), omega (arith, (fit.ends e m).1)); delays = fit.delays }

-- The first edges of a list, so many, are taken into a square: an entry below 16,383 is the delay of an edge with these ends, and none of the edges
-- taken has less than the entry of its ends.
pub record StepsTaken (rs : List EdgeRecord) (count : ℕ) (square : List ℕ) : Type 0 where
  pub size : length square ≡ 4096
  pub small : (i : ℕ) → i < 4096 → get_or square i 0 ≤ 16383
  pub held :
      (a b : ℕ) → a < 64 → b < 64 → row_at square a b < 16383
      → (e : Edge) × e ∈ edges_in rs × (e.source ≡ a) × (e.sink ≡ b) × (e.delay ≡ row_at square a b)
  pub least : (j : ℕ) → j < count → row_at square ((get_or rs j no_record).source) ((get_or rs j no_record).sink) ≤ (get_or rs j no_record).delay

module _ (rs : List EdgeRecord) where
  pub none-taken : {square : List ℕ} → square ≡ replicate 4096 16383 → StepsTaken rs 0 square
  none-taken {square} blank = record {
    size = ap length blank ∙ length-replicate {A = ℕ} 4096 16383;
    small = λ i l. let is = far i l in omega arith;
    held = λ a b k l short. let is = far (a * 64 + b) (omega arith) in absurd (omega arith);
    least = λ j l. absurd (not-suc-le-zero l);
  }
    where
      far : (i : ℕ) → i < 4096 → get_or square i 0 ≡ 16383
      far i l = ap (λ (xs : List ℕ). get_or xs i 0) blank ∙ get_or-replicate {A = ℕ} 4096 i 16383 0 l

  -- the entry of one edge's ends more lowered to its delay
  pub one-taken :
      {j v : ℕ} {square : List ℕ} → Fit 64 (edges_in rs) → j < length rs → StepsTaken rs j square
      → v ≡ min (row_at square ((get_or rs j no_record).source) ((get_or rs j no_record).sink)) ((get_or rs j no_record).delay)
      → StepsTaken rs (j + 1) (set square ((get_or rs j no_record).source * 64 + (get_or rs j no_record).sink) v)
  unfolding edge_of
  one-taken {j} {v} {square} fit below taken value = record {
    size = length-set square place v ∙ taken.size;
    small = λ i l. omega (arith, lower i, taken.small i l);
    held = λ a b k l short. go a b k l short (decided (eqb-decides (a * 64 + b) place));
    least = λ i l. low i l (order j i);
  }
    where
      place : ℕ
      place = (get_or rs j no_record).source * 64 + (get_or rs j no_record).sink

      ends : ((get_or rs j no_record).source < 64) × ((get_or rs j no_record).sink < 64) × ((get_or rs j no_record).delay ≤ 255)
      ends = fit_at rs j fit below

      inside : place < length square
      inside = omega (arith, ends.0, ends.1, taken.size)

      here : get_or (set square place v) place 0 ≡ v
      here = get_or-set_same square place v 0 inside

      lower : (i : ℕ) → get_or (set square place v) i 0 ≤ get_or square i 0
      lower i = set-less square place v inside (omega (arith, value)) i

      -- the entry is as it was, or it is the edge's delay
      own :
          v < 16383 → (get_or square place 0 ≤ (get_or rs j no_record).delay) ⊎ ((get_or rs j no_record).delay < get_or square place 0)
          → (e : Edge) × e ∈ edges_in rs × (e.source ≡ (get_or rs j no_record).source) × (e.sink ≡ (get_or rs j no_record).sink) × (e.delay ≡ v)
      own short (inl kept) =
          let old = taken.held ((get_or rs j no_record).source) ((get_or rs j no_record).sink) ends.0 ends.1 (omega arith) in
          (old.0, old.1, old.2, old.3, omega (arith, old.4))
      own short (inr less) = (edge_of (get_or rs j no_record), record-in rs j below, refl, refl, omega arith)

      entry : (a b : ℕ) → a * 64 + b ≡ place → get_or (set square place v) (a * 64 + b) 0 ≡ v
      entry a b same = ap (λ (i : ℕ). get_or (set square place v) i 0) same ∙ here

      moved : (a b : ℕ) → a < 64 → b < 64 → a * 64 + b ≡ place
          → ((e : Edge) × e ∈ edges_in rs × (e.source ≡ (get_or rs j no_record).source) × (e.sink ≡ (get_or rs j no_record).sink) × (e.delay ≡ v))
          → (e : Edge) × e ∈ edges_in rs × (e.source ≡ a) × (e.sink ≡ b) × (e.delay ≡ get_or (set square place v) (a * 64 + b) 0)
      moved a b k l same (e, m, from, to, turns) =
          let row : a ≡ (get_or rs j no_record).source = omega (arith, same, ends.1, l) in
          let column : b ≡ (get_or rs j no_record).sink = omega (arith, same, ends.1, l) in
          (e, m, from ∙ sym row, to ∙ sym column, turns ∙ sym (entry a b same))

      go : (a b : ℕ) → a < 64 → b < 64 → get_or (set square place v) (a * 64 + b) 0 < 16383 → (a * 64 + b ≡ place) ⊎ (a * 64 + b ≡ place → ⊥)
          → (e : Edge) × e ∈ edges_in rs × (e.source ≡ a) × (e.sink ≡ b) × (e.delay ≡ get_or (set square place v) (a * 64 + b) 0)
      go a b k l short (inl same) = moved a b k l same (own (omega (arith, entry a b same)) (order (get_or square place 0) ((get_or rs j no_record).delay)))
      go a b k l short (inr other) =
          let kept : get_or (set square place v) (a * 64 + b) 0 ≡ get_or square (a * 64 + b) 0 = get_or-set_other square place (a * 64 + b) v 0 other in
          let old = taken.held a b k l (omega arith) in
          (old.0, old.1, old.2, old.3, old.4 ∙ sym kept)

      low : (i : ℕ) → i < j + 1 → (j ≤ i) ⊎ (i < j) → row_at (set square place v) ((get_or rs i no_record).source) ((get_or rs i no_record).sink) ≤ (get_or rs i no_record).delay
      low i l (inr earlier) = omega (arith, lower ((get_or rs i no_record).source * 64 + (get_or rs i no_record).sink), taken.least i earlier)
      low i l (inl last) =
          let same : j ≡ i = omega arith in
          subst (λ (x : ℕ). row_at (set square place v) ((get_or rs x no_record).source) ((get_or rs x no_record).sink) ≤ (get_or rs x no_record).delay) same (omega (arith, here, value))

  pub all-taken :
      {count : ℕ} {square : List ℕ} → length rs ≤ count → StepsTaken rs count square → StepsOf (edges_in rs) square
  unfolding edge_of
  all-taken {count} {square} whole taken = record {
    size = taken.size;
    small = λ a b k l. taken.small (a * 64 + b) (omega arith);
    held = taken.held;
    least = λ e m.
        let found = record-out rs e m in
        subst (λ (f : Edge). row_at square f.source f.sink ≤ f.delay) (sym found.2) (taken.least found.0 (omega (arith, found.1)));
  }

-- steps are paths of one edge
pub steps-known : {n : ℕ} {es : List Edge} {square : List ℕ} → n ≤ 64 → Fit n es → StepsOf es square → Known n es 0 square
steps-known few fit steps = record {
  few = few;
  fit = fit;
  size = steps.size;
  held = λ u b k l. record {
    small = steps.small u b k l;
    path = λ short. let found = steps.held u b k l short in path-delay found.4 (path-ends found.2 found.3 (path-edge found.1));
  };
  direct = steps.least;
  closed = λ u l on. absurd (true≢false (sym on ∙ bit-zero u));
}
