-- What is read of a file's front is what is read of the whole, if the front is longer than any file that is not refused by its length: a shorter file
-- is its own front, and of a longer one both are refused alike, so that neither graph nor edges are looked at.
use mathlib.Core.Path.{◌≡◌, refl, sym, ap, ◌∙◌, subst}
use mathlib.Core.Logic.{◌⊎◌, inl, inr, ◌≢◌}
use mathlib.Core.List.{List}
use Prim.Native.Nat.{ℕ, ◌≤◌, ◌<◌}
use native.Mathlib.Omega.{arith}
use lib.IntN.{pos}
use lib.ListN.{length, take}
use lib.Seq.{take_all}
use Rattle.model.specs.Compute.{is_redundant, latency_of}
use Rattle.model.proofs.Basics.{order}
use Rattle.layout.specs.Layout.{graph_header, proposal_header}
use Rattle.files.specs.declared.Refusal.{Refusal}
use Rattle.files.specs.Files.{graph_of, graph_refusal, proposal_refusal}
use Rattle.files.specs.Refusals.{if_passed}
use Rattle.files.proofs.First.{stops, passes, number_same, zero_or_not, if-refused}
use Rattle.marks.specs.Marks.{marks_of, set_below}
use Rattle.acceptance.specs.Acceptance.{acceptance_refusal}
use Rattle.acceptance.specs.Outcomes.{outcome, tasks_of}
use Rattle.acceptance.proofs.Accepting.{refused-before}
use Rattle.acceptance.proofs.Rooms.{up-to-12}
use Rattle.figures.specs.Figures.{figures_of}
use Rattle.redundant.specs.Redundant.{no_marks, redundant_of}
use Rattle.verdict.specs.declared.ProposalVerdict.{ProposalVerdict}
use Rattle.verdict.specs.Verdict.{verdict_refusal, verdict_of}
use Rattle.verdict.proofs.Answers.{refused-answer}
use Rattle.report.specs.Report.{printed, text_of, report_of}
use Rattle.report.specs.Theorems.{FiguresCut, RedundantCut, VerdictCut, ReportCut}
use Rattle.report.proofs.Long.{LongNumber, long-graph, long-graph-number, graph-front, long-proposal, long-proposal-number, proposal-front}

-- ── Graphs ──

record GraphFront (s : List ℕ) (n : ℕ) : Type 0 where
  number : LongNumber (acceptance_refusal s).number
  same : acceptance_refusal (take n s) ≡ acceptance_refusal s

graph_long : (s : List ℕ) (n : ℕ) → 807 < n → n < length s → GraphFront s n
graph_long s n h longer =
    let refused : LongNumber (graph_refusal s).number
    = subst (λ (r : Refusal). LongNumber r.number) (sym (long-graph s (omega arith))) (long-graph-number (graph_header s)) in
    let front : graph_refusal (take n s) ≡ graph_refusal s = graph-front s n h (omega arith) in
    let whole : acceptance_refusal s ≡ graph_refusal s = refused-before s refused.some in
    record {
      number = subst (λ (r : Refusal). LongNumber r.number) (sym whole) refused;
      same = refused-before (take n s) (λ z. refused.some (number_same (sym front) ∙ z)) ∙ (front ∙ sym whole);
    }

-- what a refused call hands over is the same, whatever it would have been
both-refused : {A : Type 0} (n m : ℕ) (given other refused : A) → n ≡ m → m ≢ 0 → if_passed n given refused ≡ if_passed m other refused
both-refused n m given other refused same some =
    if-refused n given refused (λ z. some (sym same ∙ z)) ∙ sym (if-refused m other refused some)

pub figures-cut : FiguresCut
unfolding figures_of
figures-cut s n h = go (order (length s) n)
  where
    go : (length s ≤ n) ⊎ (n < length s) → figures_of (take n s) ≡ figures_of s
    go (inl short) = ap figures_of (take_all n s short)
    go (inr longer) =
        let f = graph_long s n h longer in
        let same = f.same in
        let number = number_same same in
        let x = (acceptance_refusal (take n s)).number in
        let y = (acceptance_refusal s).number in
        λ i.
        record {
          outcome = outcome (same i);
          tasks = both-refused x y (tasks_of (take n s)) (tasks_of s) 0 number f.number.some i;
          edges = both-refused x y (length (graph_of (take n s)).syncs) (length (graph_of s).syncs) 0 number f.number.some i;
          latency = both-refused x y (latency_of (graph_of (take n s))) (latency_of (graph_of s)) 0 number f.number.some i;
        }

pub redundant-cut : RedundantCut
unfolding redundant_of
redundant-cut s n h = go (order (length s) n)
  where
    go : (length s ≤ n) ⊎ (n < length s) → redundant_of (take n s) ≡ redundant_of s
    go (inl short) = ap redundant_of (take_all n s short)
    go (inr longer) =
        let f = graph_long s n h longer in
        let same = f.same in
        let number = number_same same in
        let x = (acceptance_refusal (take n s)).number in
        let y = (acceptance_refusal s).number in
        λ i.
        record {
          outcome = outcome (same i);
          marks = both-refused x y (marks_of (is_redundant (graph_of (take n s)))) (marks_of (is_redundant (graph_of s))) no_marks number f.number.some i;
          count = both-refused x y (set_below 256 (is_redundant (graph_of (take n s)))) (set_below 256 (is_redundant (graph_of s))) 0 number f.number.some i;
        }

-- ── Verdicts ──

-- two pairs of files that are refused alike, by 1 to 12, with which nothing else is told
alike :
    (s p t q : List ℕ) (r : Refusal) → r.number ≢ 0 → r.number ≤ 12 → verdict_refusal s p ≡ r → verdict_refusal t q ≡ r → verdict_of s p ≡ verdict_of t q
alike s p t q r some low one other =
    let answer : ProposalVerdict = record { outcome = outcome r; latency = 0; margin = pos 0 } in
    let not_late : r.number ≢ 15 = λ z. omega (arith, low, z) in
    sym (refused-answer s p {r = answer} one some not_late (refl, refl, refl)) ∙ refused-answer t q {r = answer} other some not_late (refl, refl, refl)

-- a graph's refusal comes before all that the proposal gets
graph-first : (s p : List ℕ) → (acceptance_refusal s).number ≢ 0 → verdict_refusal s p ≡ acceptance_refusal s
unfolding verdict_refusal
graph-first s p some = stops (acceptance_refusal s) _ some

graph-side : (s p : List ℕ) (n : ℕ) → 807 < n → verdict_of (take n s) p ≡ verdict_of s p
graph-side s p n h = go (order (length s) n)
  where
    go : (length s ≤ n) ⊎ (n < length s) → verdict_of (take n s) p ≡ verdict_of s p
    go (inl short) = ap (λ (x : List ℕ). verdict_of x p) (take_all n s short)
    go (inr longer) =
        let f = graph_long s n h longer in
        let some = f.number.some in
        alike (take n s) p s p (acceptance_refusal s) some (up-to-12 s)
        (graph-first (take n s) p (λ z. some (number_same (sym f.same) ∙ z)) ∙ f.same)
        (graph-first s p some)

proposal-side : (s p : List ℕ) (n : ℕ) → 642 < n → verdict_of s (take n p) ≡ verdict_of s p
unfolding verdict_refusal
proposal-side s p n h = go (order (length p) n) (zero_or_not (acceptance_refusal s).number)
  where
    -- an accepted graph: the proposal's own refusal
    next : (q : List ℕ) → (acceptance_refusal s).number ≡ 0 → (proposal_refusal (tasks_of s) q).number ≢ 0 → verdict_refusal s q ≡ proposal_refusal (tasks_of s) q
    next q accepted some = passes (acceptance_refusal s) _ accepted ∙ stops (proposal_refusal (tasks_of s) q) _ some

    go :
        (length p ≤ n) ⊎ (n < length p) → ((acceptance_refusal s).number ≡ 0) ⊎ ((acceptance_refusal s).number ≢ 0) →
        verdict_of s (take n p) ≡ verdict_of s p
    go (inl short) either = ap (verdict_of s) (take_all n p short)
    go (inr longer) (inl accepted) =
        let long : LongNumber (proposal_refusal (tasks_of s) p).number
        = subst (λ (x : Refusal). LongNumber x.number) (sym (long-proposal (tasks_of s) p (omega arith))) (long-proposal-number (proposal_header p)) in
        let front : proposal_refusal (tasks_of s) (take n p) ≡ proposal_refusal (tasks_of s) p = proposal-front (tasks_of s) p n h (omega arith) in
        alike s (take n p) s p (proposal_refusal (tasks_of s) p) long.some (omega (arith, long.small))
        (next (take n p) accepted (λ z. long.some (number_same (sym front) ∙ z)) ∙ front)
        (next p accepted long.some)
    go (inr longer) (inr some) =
        alike s (take n p) s p (acceptance_refusal s) some (up-to-12 s) (graph-first s (take n p) some) (graph-first s p some)

pub verdict-cut : VerdictCut
verdict-cut s p n m h k = graph-side s (take m p) n h ∙ proposal-side s p m k

-- ── What is printed ──

pub report-cut : ReportCut
unfolding report_of
report-cut s p n m h k = λ i. text_of (printed (figures-cut s n h i) (redundant-cut s n h i) (verdict-cut s p n m h k i))
