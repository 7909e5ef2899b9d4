-- The rows of an edge's source and sink, before a pair is added and after it: as they are lent, and as they fall.
use mathlib.Core.Path.{◌≡◌, sym, ap, ◌∙◌}
use mathlib.Core.Logic.{◌⊎◌, inl, inr, ⊎_elim}
use mathlib.Core.Bool.{Bool, not}
use mathlib.Core.List.{List}
use Prim.Native.Nat.{ℕ, ◌+◌, ◌*◌, ◌≤◌, ◌<◌}
use native.Mathlib.Omega.{arith}
use lib.ListN.{length}
use borrow.Author.Tests.{lt-leb}
use Rattle.model.specs.Tasks.{edge}
use Rattle.model.specs.Lists.{counted, tabulate}
use Rattle.model.proofs.Basics.{order}
use Rattle.records.specs.Columns.{at, rows}
use Rattle.records.proofs.Fill.{length-tabulate, get_d_tabulate}
use Rattle.records.proofs.Rows.{rows_at}
use Rattle.updates.specs.Updates.{Small, lower_at, RowLowered, Lowers}
use Rattle.updates.proofs.Rows.{row_of, small_row, row-at}
use Rattle.subsumption.specs.Subsumption.{subsumes_by, row_at, share, SameTests, Covered}
use Rattle.subsumption.proofs.Totals.{FellTo, same_tests}

-- ── As they are lent ──

module _ (from to : List ℕ) (s t : ℕ) (from-room : s * 64 + 64 ≤ length from) (to_room : t * 64 + 64 ≤ length to) where
  pub lent-covered :
      (limit : ℕ) {tasks : ℕ} (counts : List ℕ) → tasks ≤ 64 → Covered (row_at from s) (row_at to t) limit tasks counts
      → Covered (at (row_of s from)) (at (row_of t to)) limit tasks counts
  lent-covered limit counts few covered a b l m =
      let enough = covered a b l m in
      let before = sym (row-at s from from-room a (omega (arith, few, l))) in
      let after = sym (row-at t to to_room b m) in
      (coe 0 1 (i. share (before i) (after i) limit ≤ at counts (a * 64 + b)) enough.0, enough.1)

-- ── As they fall ──

lowered-below : (near far : ℕ) (xs : List ℕ) (x y : ℕ) → lower_at near far xs x y ≤ row_at xs x y
lowered-below near far xs x y = omega arith

-- by a way above a number no number falls to it
pub far-fell : (near far : ℕ) (xs : List ℕ) (x : ℕ) {d : ℕ} → d < row_at xs x near → FellTo (d + 1) (row_at xs x) (lower_at near far xs x)
far-fell near far xs x {d} above y l = (lowered-below near far xs x y, go (order (row_at xs x y) (row_at xs x near + row_at xs far y)))
  where
    go : (row_at xs x y ≤ row_at xs x near + row_at xs far y) ⊎ (row_at xs x near + row_at xs far y < row_at xs x y)
        → (lower_at near far xs x y ≡ row_at xs x y) ⊎ (d + 1 ≤ lower_at near far xs x y)
    go (inl h) = inl (omega arith)
    go (inr h) = inr (omega arith)

module _ {near far : ℕ} {xs : List ℕ} {x : ℕ} {row : List ℕ} {least : ℕ} (lowered : RowLowered near far xs x row least) where
  -- nor does one by what the least of those that fell says
  pub lowered-fell : {d : ℕ} → d < least → FellTo (d + 1) (row_at xs x) (lower_at near far xs x)
  lowered-fell above y l = (
    lowered-below near far xs x y,
    ⊎_elim (λ q. inl (omega (arith, q, lowered.each y l))) (λ q. inr (omega (arith, q, lowered.each y l))) (lowered.fell y l),
  )

  pub lowered-small : Small xs → Small row
  lowered-small small = small_row row lowered.size (λ y l. omega (arith, lowered.each y l, lowered-below near far xs x y, small (x * 64 + y)))

  pub lowered-tests : x * 64 + 64 ≤ length xs → SameTests (at (row_of x xs)) (at row) least
  lowered-tests room =
      same_tests
      (λ y l. (
        omega (arith, row-at x xs room y l, lowered.each y l, lowered-below near far xs x y),
        ⊎_elim (λ q. inl (omega (arith, q, row-at x xs room y l))) (λ q. inr q) (lowered.fell y l),
      ))

-- an edge that the pair's ways are too long for stays
pub limit-far : (from to : List ℕ) (a b s t d : ℕ) → d < row_at from s a → counted (not (subsumes_by from to a b (edge s t d))) (d + 1) ≡ d + 1
unfolding subsumes_by counted
limit-far from to a b s t d above =
    ap (λ (x : Bool). counted (not x) (d + 1)) (lt-leb (row_at from s a + row_at to t b) d (omega arith))

-- ── Rows as they are after the pair is added ──

module _ (near far tasks : ℕ) (xs : List ℕ) where
  pub lowered-rows : List ℕ
  lowered-rows = rows tasks (λ x. tabulate 64 (lower_at near far xs x))

  pub lowers-rows : Lowers near far tasks xs lowered-rows
  unfolding at lowered-rows
  lowers-rows x y lx ly =
      rows_at 64 (λ z. tabulate 64 (lower_at near far xs z)) (λ z. length-tabulate 64 (lower_at near far xs z)) tasks x y lx ly ∙
      get_d_tabulate 64 (lower_at near far xs x) 0 y ly
