-- What is known of delays between tasks says of an order: where the entry is at most the delay a path holds it, and where the entry of a finished row is above
-- it none does, 16,383 standing for no path.
use mathlib.Core.Path.{◌≡◌, sym, ap, ◌∙◌, subst}
use mathlib.Core.Bool.{Bool, true, false, not}
use mathlib.Core.List.{List}
use Prim.Native.Nat.{ℕ, suc, ◌+◌, ◌-◌, ◌*◌, ◌≤◌, ◌<◌}
use native.Mathlib.Omega.{arith}
use lib.ListN.{length, get_or, take, drop, length-drop, length-map}
use lib.Seq.{length-take-le, get_or-take, get_or-drop}
use Rattle.model.specs.Tasks.{Edge}
use Rattle.model.specs.Compute.{order_holds}
use Rattle.model.proofs.Tests.{decides-yes, decides-no, held-path, path-held}
use Rattle.model.proofs.Theorems.{order-holds-is}
use Rattle.files.specs.Files.{edge_in}
use Rattle.files.specs.Refusals.{not_refused}
use Rattle.files.proofs.First.{found_first, found_nowhere}
use Rattle.layout.specs.declared.EdgeRecord.{EdgeRecord}
use Rattle.records.specs.Columns.{edge_of, edges_in, no_record}
use Rattle.records.proofs.EdgesIn.{edge-in-at}
use Rattle.reach.specs.Reach.{bit}
use Rattle.delays.specs.Delays.{Fit}
use Rattle.delays.specs.Rows.{row_at, Known}
use Rattle.delays.proofs.Steps.{fit_at}
use Rattle.delays.proofs.Kept.{finished-least}
use Rattle.judgement.specs.Searches.{lost_from}

-- where two ways of the code meet
pub moved :
    {n : ℕ} {rs : List Edge} {done done' : ℕ} {known known' : List ℕ} (place most : ℕ) → known' ≡ known → done' ≡ done → Known n rs done known
    → get_or known place 0 ≤ most → Known n rs done' known' × (get_or known' place 0 ≤ most)
moved {n} {rs} {done} {known' = known'} place most same finished square within = (
  subst (λ (k : ℕ). Known n rs k known') (sym finished) (subst (λ (xs : List ℕ). Known n rs done xs) (sym same) square),
  subst (λ (xs : List ℕ). get_or xs place 0 ≤ most) (sym same) within,
)

module _ {n : ℕ} (es : List EdgeRecord) (rs : List Edge) (fit : Fit n (edges_in es)) where
  abbrev pub held : ℕ → Bool
  held i = order_holds n rs (edge_in (edges_in es) (n + i))

  -- the records from entry n on, and the one at a place
  abbrev pub rest : List EdgeRecord
  rest = take (length es - n) (drop n es)

  abbrev pub behind : ℕ → EdgeRecord
  behind i = get_or rest i no_record

  abbrev ends_of : EdgeRecord → Type 0
  ends_of r = (r.source < n) × (r.sink < n) × (r.delay ≤ 255)

  many : length rest ≡ length es - n
  many = length-take-le (length es - n) (drop n es) (omega (arith, length-drop n es))

  behind-is : (i : ℕ) → i < length rest → behind i ≡ get_or es (n + i) no_record
  behind-is i below = get_or-take (length es - n) (drop n es) i no_record (omega (arith, below, many)) ∙ get_or-drop n es i no_record

  at : (i : ℕ) → i < length rest → ends_of (behind i)
  at i below = subst ends_of (sym (behind-is i below)) (fit_at es (n + i) fit (omega (arith, below, many)))

  edge-behind : (i : ℕ) → i < length rest → edge_in (edges_in es) (n + i) ≡ edge_of (behind i)
  unfolding edge_in
  edge-behind i below = edge-in-at es (n + i) ∙ ap edge_of (sym (behind-is i below))

  -- the places of an edge's ends, and its delay
  pub place : (i : ℕ) → n ≤ 64 → i < length rest → ((behind i).source < n) × ((behind i).source * 64 + (behind i).sink < 4096) × ((behind i).delay ≤ 255)
  place i few below = let ends = at i below in (ends.0, omega (arith, ends.0, ends.1, few), ends.2)

  module _ {done : ℕ} (i : ℕ) {known : List ℕ} (square : Known n rs done known) (below : i < length rest) where
    ends : ends_of (behind i)
    ends = at i below

    few : n ≤ 64
    few = square.few

    pub order-held : row_at known (behind i).source (behind i).sink ≤ (behind i).delay → held i ≡ true
    unfolding edge_of
    order-held within =
        let e = edge_of (behind i) in
        let path = (square.held e.source e.sink (omega (arith, ends.0, few)) (omega (arith, ends.1, few))).path (omega (arith, ends.2, within)) in
        ap (order_holds n rs) (edge-behind i below) ∙ decides-yes (order-holds-is n rs square.fit.ends e) (path-held square.fit.ends e path within)

    pub order_lost :
        bit done (behind i).source ≡ true → (behind i).delay < row_at known (behind i).source (behind i).sink → held i ≡ false
    unfolding edge_of
    order_lost finished beyond =
        let e = edge_of (behind i) in
        let lowest = finished-least square e.source e.sink ends.0 (omega (arith, ends.1, few)) finished in
        ap (order_holds n rs) (edge-behind i below) ∙
        decides-no (order-holds-is n rs square.fit.ends e) (λ h. let found = held-path h in omega (arith, lowest.least found.0 found.1, found.2, beyond))

  -- ── The first order lost ──

  as-many : length (edges_in es) - n ≡ length rest
  as-many = ap (λ (k : ℕ). k - n) (length-map es edge_of) ∙ sym many

  pub first-lost :
      (j : ℕ) → j < length rest → ((i : ℕ) → i < j → held i ≡ true) → held j ≡ false
      → record { number = 14; place = suc j } ≡ lost_from n rs (edges_in es)
  unfolding lost_from
  first-lost j below kept lost =
      sym (found_first (length (edges_in es) - n) 14 (λ i. not (held i)) (λ z. omega arith) j (subst (λ (k : ℕ). j < k) (sym as-many) below)
      (λ i earlier. ap not (kept i earlier)) (ap not lost))

  pub none-lost : ((i : ℕ) → i < length rest → held i ≡ true) → not_refused ≡ lost_from n rs (edges_in es)
  unfolding lost_from
  none-lost kept =
      sym (found_nowhere (length (edges_in es) - n) 14 (λ i. not (held i)) (λ i earlier. ap not (kept i (subst (λ (k : ℕ). i < k) as-many earlier))))
