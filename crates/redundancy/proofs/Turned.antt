-- Edges turned round, place by place: they lie between the same tasks, and the steps of the turned edges are taken into a square one after the other.
use mathlib.Core.Path.{◌≡◌, sym, ◌∙◌, ap, subst}
use mathlib.Core.List.{List}
use Prim.Native.Nat.{ℕ, ◌+◌, ◌*◌, ◌≤◌, ◌<◌, min}
use native.Mathlib.Omega.{arith}
use lib.ListN.{length, get_or, set, length-map, get_or-map}
use Rattle.std.specs.Prelude.{map}
use Rattle.layout.specs.declared.EdgeRecord.{EdgeRecord}
use Rattle.model.specs.Tasks.{Edge, ◌∈◌}
use Rattle.records.specs.Columns.{edge_of, edges_in, no_record}
use Rattle.records.proofs.EdgesIn.{record-in, record-out}
use Rattle.delays.specs.Delays.{Fit}
use Rattle.delays.specs.Rows.{row_at}
use Rattle.delays.proofs.Steps.{StepsTaken, fit_at, one-taken}
use Rattle.redundancy.specs.Redundancy.{turned}

module _ (rs : List EdgeRecord) where
  turned-at : (j : ℕ) → get_or (map turned rs) j no_record ≡ turned (get_or rs j no_record)
  unfolding turned
  turned-at j = get_or-map turned rs j no_record

  pub turned-in : (j : ℕ) → j < length rs → edge_of (turned (get_or rs j no_record)) ∈ edges_in (map turned rs)
  turned-in j l =
      subst (λ (r : EdgeRecord). edge_of r ∈ edges_in (map turned rs)) (turned-at j) (record-in (map turned rs) j (omega (arith, l, length-map rs turned)))

  pub turned-out : (e : Edge) → e ∈ edges_in (map turned rs) → (j : ℕ) × (j < length rs) × (e ≡ edge_of (turned (get_or rs j no_record)))
  turned-out e m =
      let found = record-out (map turned rs) e m in
      (found.0, omega (arith, found.1, length-map rs turned), found.2 ∙ ap edge_of (turned-at found.0))

  -- a turned edge's ends and delay are those of an edge
  pub turned-step :
      {t u d : ℕ} (e : Edge) → e ∈ edges_in (map turned rs) → e.source ≡ t → e.sink ≡ u → e.delay ≡ d
      → (f : Edge) × f ∈ edges_in rs × (f.sink ≡ t) × (u ≡ f.source) × (f.delay ≡ d)
  unfolding edge_of turned
  turned-step e m from to late =
      let at = turned-out e m in
      let is = at.2 in (
        edge_of (get_or rs at.0 no_record),
        record-in rs at.0 at.1,
        ap {B = ℕ} (λ (x : Edge). x.source) (sym is) ∙ from,
        sym to ∙ ap {B = ℕ} (λ (x : Edge). x.sink) is,
        ap {B = ℕ} (λ (x : Edge). x.delay) (sym is) ∙ late,
      )

  -- edges between n tasks turned round are edges between them
  pub fit-turned : {n : ℕ} → Fit n (edges_in rs) → Fit n (edges_in (map turned rs))
  unfolding edge_of turned
  fit-turned {n} fit = record {
    ends = λ e m. let at = turned-out e m in let ends = fit_at rs at.0 fit at.1 in subst (λ (f : Edge). (f.source < n) × (f.sink < n)) (sym at.2) (ends.1, ends.0);
    delays = λ e m. let at = turned-out e m in subst (λ (f : Edge). f.delay ≤ 255) (sym at.2) (fit_at rs at.0 fit at.1).2;
  }

  -- the entry of one turned edge's ends more lowered to its delay
  pub turned-taken :
      {j v : ℕ} {square : List ℕ} → Fit 64 (edges_in rs) → j < length rs → StepsTaken (map turned rs) j square
      → v ≡ min (row_at square ((get_or rs j no_record).sink) ((get_or rs j no_record).source)) ((get_or rs j no_record).delay)
      → StepsTaken (map turned rs) (j + 1) (set square ((get_or rs j no_record).sink * 64 + (get_or rs j no_record).source) v)
  unfolding turned
  turned-taken {j} {v} {square} fit l taken =
      subst
      (λ (r : EdgeRecord). v ≡ min (row_at square r.source r.sink) r.delay → StepsTaken (map turned rs) (j + 1) (set square (r.source * 64 + r.sink) v))
      (turned-at j) (one-taken (map turned rs) (fit-turned fit) (omega (arith, l, length-map rs turned)) taken)
