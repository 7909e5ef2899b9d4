-- Which edges of a list are redundant, by the table of their least delays and the square of their last steps: those with a smaller entry between their
-- ends than their delay, and those with a sum within it.
use mathlib.Core.Path.{◌≡◌, refl, sym, ap, ◌∙◌, subst}
use mathlib.Core.Logic.{◌⊎◌, ◌↔◌, inl, inr}
use mathlib.Core.Bool.{Bool, true, false, ◌&&◌}
use mathlib.Core.List.{List}
use Prim.Native.Nat.{ℕ, suc, ◌+◌, ◌*◌, ◌≤◌, ◌<◌, min}
use native.Mathlib.Nat.{mul-le-mul_right, suc-mul}
use native.Mathlib.Omega.{arith}
use lib.Dec.{leb, leb→le, le→leb}
use lib.ListN.{length, get_or, length-map}
use Rattle.layout.specs.declared.EdgeRecord.{EdgeRecord}
use Rattle.model.specs.Lists.{without}
use Rattle.model.specs.Tasks.{Edge, Ends, no_edge}
use Rattle.model.specs.Paths.{OrderHeld}
use Rattle.model.specs.Compute.{order_holds}
use Rattle.model.specs.Theorems.{Decides}
use Rattle.model.proofs.Theorems.{least-delay-is}
use Rattle.model.proofs.Walks.{path-ends}
use Rattle.model.proofs.Basics.{order}
use Rattle.model.proofs.Tests.{decides-iff, decides-yes, decides-no, decides_and, ltb-decides, order-holds}
use Rattle.records.specs.Columns.{edge_of, edges_in, no_record}
use Rattle.records.proofs.EdgesIn.{record-out, edge-in-at}
use Rattle.records.proofs.Rows.{product_small}
use Rattle.delays.specs.Rows.{LeastEntry}
use Rattle.delays.proofs.Kept.{cut-least}
use Rattle.delays.proofs.Steps.{fit_at}
use Rattle.delays.proofs.Table.{table-length, table_at}
use Rattle.redundancy.specs.Redundancy.{redundant_in, turned, Tabled, LeastSum}
use Rattle.redundancy.proofs.Between.{Between, ends-without, held-between}
use Rattle.redundancy.proofs.Turned.{turned-in, turned-step}

-- the test decides redundancy
redundant-decides : {n : ℕ} {es : List Edge} → Ends n es → (i : ℕ) →
    Decides (redundant_in n es i) ((n + i < length es) × OrderHeld (without (n + i) es) (get_or es (n + i) no_edge))
unfolding redundant_in
redundant-decides {n} {es} ends i = decides_and (ltb-decides (n + i) (length es)) (order-holds (ends-without ends (n + i)) (get_or es (n + i) no_edge))

module _ {n : ℕ} {rs : List EdgeRecord} {table last : List ℕ} (tabled : Tabled n rs table last) where
  ends : (j : ℕ) → j < length rs → ((get_or rs j no_record).source < n) × ((get_or rs j no_record).sink < n) × ((get_or rs j no_record).delay ≤ 255)
  ends j l = fit_at rs j tabled.fit l

  -- what is read for an edge stands in the lists, at small places
  pub places : (j : ℕ) → j < length rs →
      ((get_or rs j no_record).source * n + (get_or rs j no_record).sink < length table) × ((get_or rs j no_record).source * n + n ≤ length table) × ((get_or rs j no_record).sink * 64 + n ≤ length last)
      × (length table ≤ 4096) × ((get_or rs j no_record).sink < 64)
  places j l =
      let at = ends j l in
      let row : suc ((get_or rs j no_record).source) * n ≤ n * n = mul-le-mul_right n (omega (arith, at.0)) in
      let after-row = suc-mul ((get_or rs j no_record).source) n in
      let size : length table ≡ n * n = ap (λ (xs : List ℕ). length xs) tabled.least ∙ table-length n (edges_in rs) in
      let few = product_small n n tabled.few tabled.few in
      (omega (arith, at.1), omega arith, omega (arith, at.1, tabled.few, tabled.steps.size), omega arith, omega (arith, at.1, tabled.few))

  -- last steps are small
  pub small : (j : ℕ) → j < length rs → (u : ℕ) → u < n → get_or last ((get_or rs j no_record).sink * 64 + u) 0 ≤ 16383
  small j l u below = tabled.steps.small ((get_or rs j no_record).sink) u (omega (arith, (ends j l).1, tabled.few)) (omega (arith, below, tabled.few))

  lowest : (a b : ℕ) → a < n → b < n → LeastEntry (edges_in rs) a b (min (get_or table (a * n + b) 0) 16383)
  lowest a b l k =
      let es = edges_in rs in
      cut-least (least-delay-is n es tabled.fit.ends a b) (ap (λ (xs : List ℕ). get_or xs (a * n + b) 0) tabled.least ∙ table_at n es a b l k)

  module _ (own : ℕ) (l : own < length rs) where
    abbrev s : ℕ
    s = (get_or rs own no_record).source

    abbrev t : ℕ
    t = (get_or rs own no_record).sink

    -- a smaller entry than the edge's delay is a path's
    shorter : get_or table (s * n + t) 0 < (get_or rs own no_record).delay → Between (edges_in rs) (edge_of (get_or rs own no_record))
    unfolding edge_of turned
    shorter less =
        let at = ends own l in
        inl (min (get_or table (s * n + t) 0) 16383, (lowest s t at.0 at.1).held.path (omega (arith, less, at.2)), omega (arith, less))

    module _ (r : ℕ) (sum : LeastSum table (s * n) last (t * 64) n r) where
      -- so is a sum within it
      within : r ≤ (get_or rs own no_record).delay → Between (edges_in rs) (edge_of (get_or rs own no_record))
      unfolding edge_of turned
      within few =
          let at = ends own l in
          let found = sum.reached (omega (arith, few, at.2)) in
          let u = found.0 in
          let is = found.2 in
          let step = tabled.steps.held t u (omega (arith, at.1, tabled.few)) (omega (arith, found.1, tabled.few)) (omega (arith, is, few, at.2)) in
          let last-edge = turned-step rs step.0 step.1 step.2 step.3 step.4 in
          inr (
            last-edge.0,
            last-edge.1,
            last-edge.2,
            min (get_or table (s * n + u) 0) 16383,
            path-ends {b' = last-edge.0.source} refl last-edge.3 ((lowest s u at.0 found.1).held.path (omega (arith, is, few, at.2))),
            omega (arith, is, few, last-edge.4),
          )

      -- what comes in between shows in one of them
      shown : Between (edges_in rs) (edge_of (get_or rs own no_record)) → (get_or table (s * n + t) 0 < (get_or rs own no_record).delay) ⊎ (r ≤ (get_or rs own no_record).delay)
      unfolding edge_of turned
      shown (inl (d, path, less)) = let at = ends own l in inl (omega (arith, (lowest s t at.0 at.1).least d path, less, at.2))
      shown (inr (f, m, meets, a, path, few)) =
          let edge = record-out rs f m in
          let u : f.source ≡ (get_or rs edge.0 no_record).source = ap {B = ℕ} (λ (x : Edge). x.source) edge.2 in
          let to : t ≡ (get_or rs edge.0 no_record).sink = sym meets ∙ ap {B = ℕ} (λ (x : Edge). x.sink) edge.2 in
          let late : f.delay ≡ (get_or rs edge.0 no_record).delay = ap {B = ℕ} (λ (x : Edge). x.delay) edge.2 in
          let task : f.source < n = omega (arith, u, (ends edge.0 edge.1).0) in
          let direct : get_or last (t * 64 + f.source) 0 ≤ (get_or rs edge.0 no_record).delay =
          subst (λ (p : ℕ). get_or last p 0 ≤ (get_or rs edge.0 no_record).delay) (λ i. sym to i * 64 + sym u i)
          (tabled.steps.least (edge_of (turned (get_or rs edge.0 no_record))) (turned-in rs edge.0 edge.1)) in
          inr (omega (arith, sum.low f.source task, (lowest s f.source (ends own l).0 task).least a path, direct, late, few))

    module _ (i : ℕ) (is : own ≡ n + i) where
      below : n + i < length (edges_in rs)
      below = omega (arith, l, is, length-map rs edge_of)

      own_is : edge_of (get_or rs own no_record) ≡ get_or (edges_in rs) (n + i) no_edge
      own_is = sym (edge-in-at rs own) ∙ ap (λ (k : ℕ). get_or (edges_in rs) k no_edge) is

      between : OrderHeld (without (n + i) (edges_in rs)) (get_or (edges_in rs) (n + i) no_edge) ↔
          Between (edges_in rs) (get_or (edges_in rs) (n + i) no_edge)
      between = held-between tabled.fit.ends tabled.apart.no_zero_cycle (n + i) (tabled.apart.once i below)

      marked : Between (edges_in rs) (edge_of (get_or rs own no_record)) → redundant_in n (edges_in rs) i ≡ true
      marked found =
          decides-yes (redundant-decides tabled.fit.ends i)
          (below, between.1 (subst (λ (e : Edge). Between (edges_in rs) e) own_is found))

      pub marked-by-path : get_or table (s * n + t) 0 < (get_or rs own no_record).delay → redundant_in n (edges_in rs) i ≡ true
      marked-by-path less = marked (shorter less)

      -- else the least sum tells
      pub marked-by-sum :
          (r : ℕ) → LeastSum table (s * n) last (t * 64) n r → (get_or rs own no_record).delay ≤ get_or table (s * n + t) 0
          → leb r ((get_or rs own no_record).delay) ≡ redundant_in n (edges_in rs) i
      marked-by-sum r sum longer = go (order r d)
        where
          d : ℕ
          d = (get_or rs own no_record).delay

          test : Decides (leb r d) (r ≤ d)
          test = decides-iff (leb→le r d) (le→leb r d)

          none : d < r → (get_or table (s * n + t) 0 < d) ⊎ (r ≤ d) → ⊥
          none more (inl less) = omega arith
          none more (inr few) = omega arith

          go : (r ≤ d) ⊎ (d < r) → leb r d ≡ redundant_in n (edges_in rs) i
          go (inl few) = decides-yes test few ∙ sym (marked (within r sum few))
          go (inr more) =
              decides-no test (λ few. none more (inr few)) ∙
              sym
              (decides-no (redundant-decides tabled.fit.ends i)
              (λ redundant. none more (shown r sum (subst (λ (e : Edge). Between (edges_in rs) e) (sym own_is) (between.0 redundant.1)))))

-- a place past the list's end is no edge's
pub past_end : (n : ℕ) (rs : List EdgeRecord) (i : ℕ) → length rs ≤ n + i → redundant_in n (edges_in rs) i ≡ false
unfolding redundant_in
past_end n rs i l =
    let es = edges_in rs in
    ap (λ (b : Bool). b && order_holds n (without (n + i) es) (get_or es (n + i) no_edge))
    (decides-no (ltb-decides (n + i) (length es)) (λ below. omega (arith, below, l, length-map rs edge_of)))
