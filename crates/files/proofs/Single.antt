-- What the checks say of one task or edge: the lists hold its numbers, so a test of these is the test of the task, and a record is its edge.
use mathlib.Core.Path.{◌≡◌, refl, sym, ap, ◌∙◌, subst}
use mathlib.Core.Logic.{◌≢◌}
use mathlib.Core.Bool.{Bool, true, false, not, ◌||◌}
use mathlib.Core.List.{List, [], ◌∷◌}
use Prim.Native.Nat.{ℕ, suc, ◌+◌, ◌≤◌, ◌<◌}
use native.Mathlib.Numerals.{add-one}
use native.Mathlib.Omega.{arith}
use lib.Dec.{ltb}
use lib.ListN.{length, get_or}
use borrow.Author.Tests.{lt-ltb, le-ltb, eq-eqb, ne_eqb}
use Rattle.layout.specs.declared.EdgeRecord.{EdgeRecord}
use Rattle.model.specs.Tasks.{Task, Edge, processor_of}
use Rattle.model.specs.Graph.{Graph, time_of}
use Rattle.files.specs.declared.Refusal.{Refusal}
use Rattle.files.specs.Refusals.{not_refused, refuse}
use Rattle.files.specs.Files.{edge_in, end_outside, within_processor, time_refusal, ends_refusal, edge_refusal}
use Rattle.records.specs.Columns.{ProcessorsOf, TimesOf, edge_of, edges_in, no_record}
use Rattle.records.proofs.EdgesIn.{edge-in-at}
use Rattle.files.proofs.First.{refused, not-refused, passes, stops, number_same, check-passes, check-stops, no-checks}

abbrev pub refusal : ℕ → ℕ → Refusal
refusal n p = record { number = n; place = p }

-- ── 5 ──

module _ (g : Graph) {times : List ℕ} (of : TimesOf g.tasks times) (v : ℕ) (below : v < length times) where
  time-is : get_or times v 0 ≡ time_of g v
  unfolding time_of
  time-is = of.same v (subst (λ (n : ℕ). v < n) of.as_many below)

  pub time-passes : get_or times v 0 ≢ 0 → time_refusal g v ≡ not_refused
  unfolding time_refusal
  time-passes some = not-refused _ _ (ne_eqb (time_of g v) 0 (λ e. some (time-is ∙ e)))

  pub time-stops : get_or times v 0 ≡ 0 → time_refusal g v ≡ refusal 5 v
  unfolding time_refusal
  time-stops none = refused 5 v (eq-eqb (time_of g v) 0 (sym time-is ∙ none))

-- ── 6 ──

pub or-true : (a : Bool) {b : Bool} → b ≡ true → (a || b) ≡ true
or-true true e = refl
or-true false e = e

inside : (n : ℕ) (e : Edge) → e.source < n → e.sink < n → end_outside n e ≡ false
unfolding end_outside
inside n e s t = ap (λ (b : Bool). not b || not (ltb e.sink n)) (lt-ltb e.source n s) ∙ ap not (lt-ltb e.sink n t)

source-outside : (n : ℕ) (e : Edge) → n ≤ e.source → end_outside n e ≡ true
unfolding end_outside
source-outside n e s = ap (λ (b : Bool). not b || not (ltb e.sink n)) (le-ltb e.source n s)

sink-outside : (n : ℕ) (e : Edge) → n ≤ e.sink → end_outside n e ≡ true
unfolding end_outside
sink-outside n e t = or-true (not (ltb e.source n)) (ap not (le-ltb e.sink n t))

-- the edge at a record's place is the record's
pub edge-is : (rs : List EdgeRecord) (j : ℕ) → edge_in (edges_in rs) j ≡ edge_of (get_or rs j no_record)
unfolding edge_in
edge-is rs j = edge-in-at rs j

module _ (rs : List EdgeRecord) (j : ℕ) where
  abbrev e : EdgeRecord
  e = get_or rs j no_record

  outside : (n : ℕ) → end_outside n (edge_of e) ≡ true → ends_refusal n (edges_in rs) j ≡ refusal 6 (j + 1)
  unfolding ends_refusal
  outside n out = refused 6 (suc j) (ap (end_outside n) (edge-is rs j) ∙ out) ∙ ap (refusal 6) (sym (add-one j))

  pub ends-pass : (n : ℕ) → e.source < n → e.sink < n → ends_refusal n (edges_in rs) j ≡ not_refused
  unfolding ends_refusal edge_of
  ends-pass n s t = not-refused _ _ (ap (end_outside n) (edge-is rs j) ∙ inside n (edge_of e) s t)

  pub source-stops : (n : ℕ) → n ≤ e.source → ends_refusal n (edges_in rs) j ≡ refusal 6 (j + 1)
  unfolding edge_of
  source-stops n s = outside n (source-outside n (edge_of e) s)

  pub sink-stops : (n : ℕ) → n ≤ e.sink → ends_refusal n (edges_in rs) j ≡ refusal 6 (j + 1)
  unfolding edge_of
  sink-stops n t = outside n (sink-outside n (edge_of e) t)

  -- ── 6 then 7 ──

  module _ (ts : List Task) {processors : List ℕ} (on : ProcessorsOf ts processors) where
    abbrev second : List Refusal
    second = refuse (within_processor ts (edge_in (edges_in rs) j)) 7 (suc j) ∷ []

    pub outside-stops : ends_refusal (length ts) (edges_in rs) j ≡ refusal 6 (j + 1) → edge_refusal ts (edges_in rs) j ≡ refusal 6 (j + 1)
    unfolding edge_refusal
    outside-stops out =
        let not-zero : (ends_refusal (length ts) (edges_in rs) j).number ≢ 0
        = λ z. let bad : ◌≡◌ {A = ℕ} 6 0 = number_same (sym out) ∙ z in omega arith in
        stops (ends_refusal (length ts) (edges_in rs) j) second not-zero ∙ out

    module _ (s : e.source < length processors) (t : e.sink < length processors) where
      ends-inside : ends_refusal (length ts) (edges_in rs) j ≡ not_refused
      ends-inside =
          ends-pass (length ts) (subst (λ (n : ℕ). e.source < n) on.as_many s) (subst (λ (n : ℕ). e.sink < n) on.as_many t)

      processor-of : (v : ℕ) → v < length processors → get_or processors v 0 ≡ processor_of ts v
      unfolding processor_of
      processor-of v l = on.same v (subst (λ (n : ℕ). v < n) on.as_many l)

      pub within-stops : get_or processors e.source 0 ≡ get_or processors e.sink 0 → edge_refusal ts (edges_in rs) j ≡ refusal 7 (j + 1)
      unfolding edge_refusal within_processor edge_of
      within-stops same =
          let within : within_processor ts (edge_in (edges_in rs) j) ≡ true
          = ap (within_processor ts) (edge-is rs j) ∙
          eq-eqb (processor_of ts e.source) (processor_of ts e.sink) (sym (processor-of e.source s) ∙ (same ∙ processor-of e.sink t)) in
          passes (ends_refusal (length ts) (edges_in rs) j) second (number_same ends-inside) ∙
          (check-stops 7 (suc j) [] (λ z. omega arith) within ∙ ap (refusal 7) (sym (add-one j)))

      pub between-passes : get_or processors e.source 0 ≢ get_or processors e.sink 0 → edge_refusal ts (edges_in rs) j ≡ not_refused
      unfolding edge_refusal within_processor edge_of
      between-passes differ =
          let between : within_processor ts (edge_in (edges_in rs) j) ≡ false
          = ap (within_processor ts) (edge-is rs j) ∙
          ne_eqb (processor_of ts e.source) (processor_of ts e.sink) (λ q. differ (processor-of e.source s ∙ (q ∙ sym (processor-of e.sink t)))) in
          passes (ends_refusal (length ts) (edges_in rs) j) second (number_same ends-inside) ∙
          (check-passes 7 (suc j) [] between ∙ no-checks)
