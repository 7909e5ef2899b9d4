-- The counts of a stage's edges, edge by edge: each share is that of one edge more, and a delay that did not fall to an edge's own changes no share of it.
use mathlib.Core.Path.{◌≡◌, refl, sym, ap, ◌∙◌, subst}
use mathlib.Core.Logic.{◌⊎◌, inl, inr}
use mathlib.Core.Bool.{Bool, true, false}
use mathlib.Core.List.Memᴰ.{head as here}
use mathlib.Core.List.Memᴰ.{tail as there}
use mathlib.Core.List.{List, [], ◌∷◌, ◌++◌}
use Prim.Native.Nat.{ℕ, ◌+◌, ◌*◌, ◌≤◌, ◌<◌}
use native.Mathlib.Nat.{zero-add}
use native.Mathlib.Numerals.{add-one}
use native.Mathlib.Omega.{arith}
use lib.Dec.{leb}
use lib.ListN.{length, get_or, take, drop}
use lib.Seq.{take-length}
use Rattle.std.proofs.lemmas.List.{map_more, map-append, take-append-drop, length-map, length-drop, length-take-le}
use borrow.Author.Tests.{le-leb, lt-leb}
use Rattle.model.specs.Lists.{put, keep, counted}
use Rattle.model.specs.Tasks.{Edge, ◌∈◌, edge}
use Rattle.model.proofs.Basics.{order}
use Rattle.model.proofs.Plans.{length-keep}
use Rattle.layout.specs.declared.EdgeRecord.{EdgeRecord}
use Rattle.records.specs.Columns.{at, edge_of, edges_in, no_record}
use Rattle.subsumption.specs.Subsumption.{subsumes_by, row_at, share, CountsOf, SameTests, Covered, EdgeShifted}

-- ── One element more ──

kept_by : {A : Type 0} (b : Bool) (x : A) (xs : List A) → length (put b x xs) ≡ length xs + counted b 1
unfolding put counted
kept_by true x xs = sym (add-one (length xs))
kept_by false x xs = omega arith

-- of two lists
kept-append : {A : Type 0} (t : A → Bool) (xs ys : List A) → length (keep t (xs ++ ys)) ≡ length (keep t xs) + length (keep t ys)
unfolding keep
kept-append t [] ys = sym (zero-add (length (keep t ys)))
kept-append t (x ∷ xs) ys = omega (arith, kept_by (t x) x (keep t (xs ++ ys)), kept_by (t x) x (keep t xs), kept-append t xs ys)

-- at the end of a list, one that passes or does not
kept_more : {A : Type 0} (t : A → Bool) (xs : List A) (x : A) → length (keep t (xs ++ (x ∷ []))) ≡ length (keep t xs) + counted (t x) 1
unfolding keep
kept_more t xs x = omega (arith, kept-append t xs (x ∷ []), kept_by (t x) x [])

keep_append : {A : Type 0} (t : A → Bool) (xs : List A) (x : A) → keep t (xs ++ (x ∷ [])) ≡ keep t xs ++ put (t x) x []
unfolding keep put
keep_append t [] x = refl
keep_append {A} t (y ∷ ys) x = go (t y) (keep_append t ys x)
  where
    go : (b : Bool) → keep t (ys ++ (x ∷ [])) ≡ keep t ys ++ put (t x) x [] → put b y (keep t (ys ++ (x ∷ []))) ≡ put b y (keep t ys) ++ put (t x) x []
    go true rest = ap (λ (zs : List A). y ∷ zs) rest
    go false rest = rest

-- of those that pass one test, those that pass another
twice-more : (t u : Edge → Bool) (xs : List Edge) (x : Edge)
    → length (keep t (keep u (xs ++ (x ∷ [])))) ≡ length (keep t (keep u xs)) + counted (u x) (counted (t x) 1)
unfolding counted put
twice-more t u xs x = ap (λ (ys : List Edge). length (keep t ys)) (keep_append u xs x) ∙ go (u x)
  where
    nil : (ys : List Edge) → ys ++ [] ≡ ys
    nil [] = refl
    nil (y ∷ ys) = ap (λ (zs : List Edge). y ∷ zs) (nil ys)

    go : (b : Bool) → length (keep t (keep u xs ++ put b x [])) ≡ length (keep t (keep u xs)) + counted b (counted (t x) 1)
    go true = kept_more t (keep u xs) x
    go false = ap (λ (ys : List Edge). length (keep t ys)) (nil (keep u xs)) ∙ omega arith

-- lists of what passes tests that agree on all elements
pub keep-equal : (t s : Edge → Bool) (xs : List Edge) → ((e : Edge) → e ∈ xs → t e ≡ s e) → keep t xs ≡ keep s xs
unfolding keep
keep-equal t s [] same = refl
keep-equal t s (x ∷ xs) same = λ i. put (same x (here refl) i) x (keep-equal t s xs (λ e m. same e (there m)) i)

-- ── Shares ──

-- one above, as tests
more_test : (sum d : ℕ) → leb (sum + 1) (d + 1) ≡ leb sum d
more_test sum d = go (order sum d)
  where
    go : (sum ≤ d) ⊎ (d < sum) → leb (sum + 1) (d + 1) ≡ leb sum d
    go (inl l) = le-leb (sum + 1) (d + 1) (omega arith) ∙ sym (le-leb sum d l)
    go (inr l) = lt-leb (sum + 1) (d + 1) (omega arith) ∙ sym (lt-leb sum d l)

-- an edge's share by its limit is whether the pair subsumes it
share-is : (from to : List ℕ) (s t d a b : ℕ) → share (row_at from s a) (row_at to t b) (d + 1) ≡ counted (subsumes_by from to a b (edge s t d)) 1
unfolding share subsumes_by
share-is from to s t d a b = ap (λ (x : Bool). counted x 1) (more_test (row_at from s a + row_at to t b) d)

-- there is none where the delays reach the limit
share-none : (x y limit : ℕ) → limit ≤ x + y → share x y limit ≡ 0
unfolding share counted
share-none x y limit reached = ap (λ (z : Bool). counted z 1) (lt-leb (x + y + 1) limit (omega arith))

share-zero : (x y : ℕ) → share x y 0 ≡ 0
share-zero x y = share-none x y 0 (omega arith)

-- the share of an edge that stays if a test says so
share-if : (from to : List ℕ) (s t d a b : ℕ) (stays : Bool)
    → share (row_at from s a) (row_at to t b) (counted stays (d + 1)) ≡ counted stays (counted (subsumes_by from to a b (edge s t d)) 1)
unfolding counted
share-if from to s t d a b true = share-is from to s t d a b
share-if from to s t d a b false = share-zero (row_at from s a) (row_at to t b)

-- ── Delays that did not fall to an edge's own ──

-- numbers only fell, and each that did is at least `least`
abbrev pub FellTo : ℕ → (ℕ → ℕ) → (ℕ → ℕ) → Type 0
FellTo least row row' = (y : ℕ) → y < 64 → (row' y ≤ row y) × ((row' y ≡ row y) ⊎ (least ≤ row' y))

-- by limits up to the least of its numbers that fell, a row passes the same tests as before
pub same_tests : {to to' : ℕ → ℕ} {least : ℕ} → FellTo least to to' → SameTests to to' least
same_tests {to} {to'} {least} fell b l below limit = go (fell b below).1
  where
    go : (to' b ≡ to b) ⊎ (least ≤ to' b) → leb (to b + 1) l ≡ leb (to' b + 1) l
    go (inl same) = ap (λ (x : ℕ). leb (x + 1) l) (sym same)
    go (inr far) = lt-leb (to b + 1) l (omega (arith, (fell b below).0)) ∙ sym (lt-leb (to' b + 1) l (omega arith))

module _ {from to from' to' : ℕ → ℕ} (d : ℕ) (fell-from : FellTo (d + 1) from from') (fell-to : FellTo (d + 1) to to') where
  same-share : (a b : ℕ) → a < 64 → b < 64 → share (from a) (to b) (d + 1) ≡ share (from' a) (to' b) (d + 1)
  same-share a b la lb = go (fell-from a la).1 (fell-to b lb).1
    where
      none : d + 1 ≤ from' a + to' b → share (from a) (to b) (d + 1) ≡ share (from' a) (to' b) (d + 1)
      none reached =
          share-none (from a) (to b) (d + 1) (omega (arith, (fell-from a la).0, (fell-to b lb).0)) ∙ sym (share-none (from' a) (to' b) (d + 1) reached)

      go : (from' a ≡ from a) ⊎ (d + 1 ≤ from' a) → (to' b ≡ to b) ⊎ (d + 1 ≤ to' b) → share (from a) (to b) (d + 1) ≡ share (from' a) (to' b) (d + 1)
      go (inl same) (inl same') = λ i. share (sym same i) (sym same' i) (d + 1)
      go (inr far) any = none (omega arith)
      go (inl same) (inr far) = none (omega arith)

  -- nothing changes for an edge that stays
  pub edge-still :
      {limit tasks : ℕ} (counts : List ℕ) → tasks ≤ 64 → limit ≡ d + 1 → EdgeShifted from to from' to' (d + 1) limit tasks counts counts
  edge-still counts few is = record {
    size = refl;
    inside = λ a b l m.
        ap (λ (x : ℕ). at counts (a * 64 + b) + x) (same-share a b (omega (arith, few, l)) m ∙ ap (share (from' a) (to' b)) (sym is));
    outside = λ i l. refl;
  }

-- a limit that is not 0 is that of an edge that stays
pub limit-stays : (stays : Bool) {limit w : ℕ} → limit ≡ counted stays w → (limit ≡ 0 → ⊥) → limit ≡ w
unfolding counted
limit-stays true is some = is
limit-stays false is some = absurd (some is)

-- ── All edges ──

module _ {tasks : ℕ} {from to : List ℕ} {es : List Edge} {counts : List ℕ} (held : CountsOf tasks from to es counts) where
  -- an edge that is not counted yet may be
  pub counts-covered : length es ≤ 256 → (s t : ℕ) → Covered (row_at from s) (row_at to t) 0 tasks counts
  counts-covered few s t a b l m =
      (omega (arith, share-zero (row_at from s a) (row_at to t b)), omega (arith, held.each a b l m, length-keep (subsumes_by from to a b) es))

  pub counts-more :
      {after : List ℕ} (s t d : ℕ) → EdgeShifted (row_at from s) (row_at to t) (row_at from s) (row_at to t) 0 (d + 1) tasks counts after
      → CountsOf tasks from to (es ++ (edge s t d ∷ [])) after
  counts-more s t d shifted = record {
    size = omega (arith, shifted.size, held.size);
    each = λ a b l m.
        omega (
          arith,
          shifted.inside a b l m,
          share-zero (row_at from s a) (row_at to t b),
          share-is from to s t d a b,
          held.each a b l m,
          kept_more (subsumes_by from to a b) es (edge s t d),
        );
  }

module _ (rs : List EdgeRecord) where
  abbrev first : ℕ → List Edge
  first j = edges_in (take j rs)

  abbrev r : ℕ → EdgeRecord
  r j = get_or rs j no_record

  first_more : (u : Edge → Bool) (j : ℕ) → j < length rs → length (keep u (first (j + 1))) ≡ length (keep u (first j)) + counted (u (edge_of (r j))) 1
  first_more u j l = ap (λ (es : List Edge). length (keep u es)) (map_more edge_of rs j no_record l) ∙ kept_more u (first j) (edge_of (r j))

  -- so many of the first j edges and of those behind them
  first-rest : (u : Edge → Bool) (j : ℕ) → length (keep u (edges_in rs)) ≡ length (keep u (first j)) + length (keep u (edges_in (drop j rs)))
  first-rest u j =
      ap (λ (xs : List EdgeRecord). length (keep u (edges_in xs))) (sym (take-append-drop j rs)) ∙
      (ap (λ (es : List Edge). length (keep u es)) (map-append edge_of (take j rs) (drop j rs)) ∙ kept-append u (first j) (edges_in (drop j rs)))

  module _ (tasks : ℕ) (from to : List ℕ) where
    pub first-none : {counts : List ℕ} → tasks * 64 ≤ length counts → ((i : ℕ) → at counts i ≡ 0) → CountsOf tasks from to (first 0) counts
    unfolding keep
    first-none size zeros = record { size = size; each = λ a b l m. zeros (a * 64 + b) }

    pub first_counted :
        (j : ℕ) {counts after : List ℕ} → j < length rs → CountsOf tasks from to (first j) counts
        → EdgeShifted (row_at from (r j).source) (row_at to (r j).sink) (row_at from (r j).source) (row_at to (r j).sink) 0 ((r j).delay + 1) tasks counts after
        → CountsOf tasks from to (first (j + 1)) after
    unfolding edge_of
    first_counted j {counts} {after} l held shifted =
        subst (λ (es : List Edge). CountsOf tasks from to es after) (sym (map_more edge_of rs j no_record l))
        (counts-more held (r j).source (r j).sink (r j).delay shifted)

  -- ── The counts of one stage, changed to those of the next ──

  module _ (tasks : ℕ) (from to from' to' : List ℕ) (stays : Edge → Bool) where
    -- the first j edges are counted anew
    pub record Changed (j : ℕ) (counts : List ℕ) : Type 0 where
      pub size : tasks * 64 ≤ length counts
      pub each : (a b : ℕ) → a < tasks → b < 64 →
          at counts (a * 64 + b) + length (keep (subsumes_by from to a b) (first j)) ≡
          length (keep (subsumes_by from to a b) (edges_in rs)) + length (keep (subsumes_by from' to' a b) (keep stays (first j)))

    pub changed-none : {counts : List ℕ} → CountsOf tasks from to (edges_in rs) counts → Changed 0 counts
    unfolding keep
    changed-none held = record { size = held.size; each = λ a b l m. omega (arith, held.each a b l m) }

    module _ {j : ℕ} {counts : List ℕ} (below : j < length rs) (held : Changed j counts) where
      pub changed-covered : length rs ≤ 256 → Covered (row_at from (r j).source) (row_at to (r j).sink) ((r j).delay + 1) tasks counts
      unfolding edge_of
      changed-covered few a b l m = (enough, small)
        where
          u : Edge → Bool
          u = subsumes_by from to a b

          enough : share (row_at from (r j).source a) (row_at to (r j).sink b) ((r j).delay + 1) ≤ at counts (a * 64 + b)
          enough =
              omega (arith, share-is from to (r j).source (r j).sink (r j).delay a b, first_more u j below, first-rest u (j + 1), held.each a b l m)

          small : at counts (a * 64 + b) ≤ 256
          small =
              let rest = length-keep u (edges_in (drop j rs)) in
              let kept = length-keep (subsumes_by from' to' a b) (keep stays (first j)) in
              let stayed = length-keep stays (first j) in
              omega (
                arith,
                held.each a b l m,
                first-rest u j,
                rest,
                length-map (drop j rs) edge_of,
                length-drop j rs,
                kept,
                stayed,
                length-map (take j rs) edge_of,
                length-take-le j rs (omega arith),
              )

      pub changed-more : {after : List ℕ}
          → EdgeShifted (row_at from (r j).source) (row_at to (r j).sink) (row_at from' (r j).source) (row_at to' (r j).sink) ((r j).delay + 1)
          (counted (stays (edge_of (r j))) ((r j).delay + 1)) tasks counts after
          → Changed (j + 1) after
      unfolding edge_of
      changed-more {after} shifted = record { size = omega (arith, shifted.size, held.size); each = next }
        where
          twice : (a b : ℕ) →
              length (keep (subsumes_by from' to' a b) (keep stays (first (j + 1)))) ≡
              length (keep (subsumes_by from' to' a b) (keep stays (first j))) +
              counted (stays (edge_of (r j))) (counted (subsumes_by from' to' a b (edge_of (r j))) 1)
          twice a b =
              ap (λ (es : List Edge). length (keep (subsumes_by from' to' a b) (keep stays es))) (map_more edge_of rs j no_record below) ∙
              twice-more (subsumes_by from' to' a b) stays (first j) (edge_of (r j))

          next : (a b : ℕ) → a < tasks → b < 64 →
              at after (a * 64 + b) + length (keep (subsumes_by from to a b) (first (j + 1))) ≡
              length (keep (subsumes_by from to a b) (edges_in rs)) + length (keep (subsumes_by from' to' a b) (keep stays (first (j + 1))))
          next a b l m =
              omega (
                arith,
                shifted.inside a b l m,
                held.each a b l m,
                share-is from to (r j).source (r j).sink (r j).delay a b,
                share-if from' to' (r j).source (r j).sink (r j).delay a b (stays (edge_of (r j))),
                first_more (subsumes_by from to a b) j below,
                twice a b,
              )

    pub changed-all : {counts : List ℕ} → Changed (length rs) counts → CountsOf tasks from' to' (keep stays (edges_in rs)) counts
    changed-all held = record {
      size = held.size;
      each = λ a b l m.
          omega (
            arith,
            held.each a b l m,
            ap (λ (xs : List EdgeRecord). length (keep (subsumes_by from to a b) (edges_in xs))) (take-length rs),
            ap (λ (xs : List EdgeRecord). length (keep (subsumes_by from' to' a b) (keep stays (edges_in xs)))) (take-length rs),
          );
    }
