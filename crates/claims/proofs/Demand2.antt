-- Demand 2, proved: each number is given by a function of the model whose meaning the model proves, in the place that the rows give it (the Meanings of the
-- calls' crates). Here those meanings are read off the answers themselves: numbers in lists, bits of words, and of a verdict its latency and margin.
use mathlib.Core.Path.{◌≡◌, refl, sym, ap, ◌∙◌, subst}
use mathlib.Core.Logic.{◌↔◌, ◌⊎◌, inl, inr, ◌≢◌}
use mathlib.Core.Bool.{Bool, cond, not}
use mathlib.Core.List.{List, Memᴰ}
use mathlib.Core.Option.{Option, none, some}
use Prim.Native.Nat.{ℕ, zero, suc, ◌+◌, ◌-◌, ◌/◌, ◌%◌, ◌^◌, ◌≤◌, ◌<◌}
use native.Mathlib.Nat.{not-suc-le-zero}
use native.Mathlib.Omega.{arith}
use lib.Dec.{eqb, eqb→eq}
use lib.IntN.{pos, negsuc, ◌-ℤ◌}
use lib.ListN.{length, get_or, take, get_or-append}
use lib.Seq.{take_at}
use borrow.Author.Tests.{lt-ltb, le-ltb}
use Rattle.model.specs.Lists.{keep, sum_over, sum_below, counted, always}
use Rattle.model.specs.Tasks.{Edge, ◌∈◌, Ends}
use Rattle.model.specs.Graph.{edges, time_of}
use Rattle.model.specs.Paths.{Least, Redundant, Latency, NoneOnCycle}
use Rattle.model.specs.Runs.{Times, Keeps, Earliest, estimates, MissesBound}
use Rattle.model.specs.Compute.{is_feedback}
use Rattle.model.specs.Proposals.{result}
use Rattle.model.specs.Theorems.{Decides}
use Rattle.model.specs.Plan.{present_edges, Plan, plan_of}
use Rattle.model.proofs.Theorems.{least-unique, result-misses}
use Rattle.model.proofs.Basics.{eq→eqb}
use Rattle.model.proofs.Tests.{decides-true, decides-yes, decides-no, decided, eqb-decides}
use Rattle.model.proofs.Graphs.{graph-ends}
use Rattle.model.proofs.Plans.{stage-shrinks, plan-is, plan-unique}
use Rattle.layout.specs.declared.EdgeRecord.{EdgeRecord}
use Rattle.files.specs.Files.{graph_of, proposal_of}
use Rattle.files.specs.Refusals.{if_passed}
use Rattle.files.proofs.First.{zero_or_not, if-passed, if-refused}
use Rattle.marks.specs.declared.Marks.{Marks}
use Rattle.marks.specs.Marks.{bit_of, mark_at, set_below, places_below, places_of}
use Rattle.marks.proofs.Listed.{places_counted, places_ascend}
use Rattle.delays.specs.Delays.{entry}
use Rattle.acceptance.specs.Outcomes.{outcome, tasks_of}
use Rattle.acceptance.specs.Theorems.{AcceptedFile}
use Rattle.figures.proofs.Meanings.{figures_given, figures-mean, figures-run}
use Rattle.least_delays.specs.LeastDelays.{delays_after}
use Rattle.least_delays.proofs.Lists.{delays_past}
use Rattle.least_delays.proofs.Meanings.{delays_given, delays-mean, delays-small}
use Rattle.redundant.specs.Redundant.{redundant_of}
use Rattle.redundant.proofs.Meanings.{redundant_given, redundant-mean, redundant-counted, redundant-listed}
use Rattle.timetable.specs.Timetable.{timetable_after}
use Rattle.timetable.proofs.Given.{timetable_given}
use Rattle.timetable.proofs.Lists.{timetable_past}
use Rattle.timetable.proofs.Meanings.{timetable-mean, timetable-runs}
use Rattle.judgement.specs.Theorems.{Sentenced, cycle_made, order_lost, late, accepted}
use Rattle.judgement.proofs.Meanings.{judged_latency}
use Rattle.verdict.specs.Verdict.{verdict_of, verdict_refusal, told_late, counted_margin, margin, result_latency}
use Rattle.stages.specs.Stages.{listed}
use Rattle.plan.specs.Plan.{plan_refusal, plan_answer_of, plan_after}
use Rattle.plan.proofs.Meanings.{plan_given, plan_refused, plan_past, plan-means}
use Rattle.claims.specs.Demand2.{Demand2, delay_in, mark_bit, start_in, plan_listed}
use Rattle.claims.specs.Demand3.{WellFormedFile}
use Rattle.claims.proofs.Answer.{number_is, only-judged, all-passed, edges-formed, sentenced}

-- ── Least delays ──

-- a number that stands for the least delay, where no least delay is 65,535
module _ (es : List Edge) (a b x : ℕ) (small : (d : ℕ) → Least es a b (some d) → d < 65535) where
  pub delay-read : (o : Option ℕ) → Least es a b o → x ≡ entry o → (d : ℕ) → Least es a b (some d) ↔ ((x ≡ d) × (d < 65535))
  unfolding entry
  delay-read o least is d = (λ other. (is ∙ ap entry (least-unique es a b o (some d) least other), small d other), λ h. back o least is h.0 h.1)
    where
      back : (o : Option ℕ) → Least es a b o → x ≡ entry o → x ≡ d → d < 65535 → Least es a b (some d)
      back (some y) least is same below = subst (λ (k : ℕ). Least es a b (some k)) (sym is ∙ same) least
      back none least is same below = absurd (omega (arith, is, same, below))

  pub none_read : (o : Option ℕ) → Least es a b o → x ≡ entry o → Least es a b none ↔ (x ≡ 65535)
  unfolding entry
  none_read o least is = (λ other. is ∙ ap entry (least-unique es a b o none least other), back o least is)
    where
      back : (o : Option ℕ) → Least es a b o → x ≡ entry o → x ≡ 65535 → Least es a b none
      back (some y) least is same = absurd (omega (arith, is, same, small y least))
      back none least is same = least

-- ── Marks ──

-- a mark is the bit 1 or not, and a bit that is not 1 is 0
module _ (x : ℕ) where
  bit-unset : (x % 2 ≡ 1 → ⊥) → x % 2 ≡ 0
  bit-unset unset = omega (arith, unset)

  counted-bit : counted (eqb (x % 2) 1) 1 ≡ x % 2
  unfolding counted
  counted-bit = go (decided (eqb-decides (x % 2) 1))
    where
      go : (x % 2 ≡ 1) ⊎ (x % 2 ≡ 1 → ⊥) → counted (eqb (x % 2) 1) 1 ≡ x % 2
      go (inl set) = ap (λ (t : Bool). counted t 1) (decides-yes (eqb-decides (x % 2) 1) set) ∙ sym set
      go (inr unset) = ap (λ (t : Bool). counted t 1) (decides-no (eqb-decides (x % 2) 1) unset) ∙ sym (bit-unset unset)

bits-summed : (n : ℕ) (f : ℕ → ℕ) → sum_over n (λ i. eqb (f i % 2) 1) (λ i. 1) ≡ sum_below n (λ i. f i % 2)
unfolding sum_over sum_below always counted
bits-summed zero f = refl
bits-summed (suc n) f = λ i. bits-summed n f i + counted-bit (f n) i

marks-summed : (marks : Marks) → set_below 256 (mark_at marks) ≡ sum_below 256 (mark_bit marks)
unfolding set_below mark_at bit_of
marks-summed marks = bits-summed 256 (λ i. get_or marks.words (i / 64) 0 / 2 ^ (63 - i % 64))

mark-decides : (s : List ℕ) → AcceptedFile s → (i : ℕ) → i < 256 → Decides (eqb (mark_bit (redundant_of s).marks i) 1) (Redundant (graph_of s) i)
unfolding mark_at bit_of
mark-decides s graph i below = redundant-mean s graph i below

listed-places : (marked : ℕ → Bool) → take (places_of marked).count (places_of marked).place ≡ places_below 256 marked
unfolding places_of
listed-places marked = take_at (places_below 256 marked) _ (set_below 256 marked) (places_counted 256 marked)

-- they stand first in their list, ascending
places-rise :
    (marked : ℕ → Bool) (i j : ℕ) → i < j → j < (places_of marked).count → get_or (places_of marked).place i 0 < get_or (places_of marked).place j 0
unfolding places_of
places-rise marked i j less within =
    let many = places_counted 256 marked in
    let here : j < length (places_below 256 marked) = omega (arith, within, many) in
    let before : i < length (places_below 256 marked) = omega (arith, less, here) in
    let one = get_or-append (places_below 256 marked) _ 0 i before in
    let two = get_or-append (places_below 256 marked) _ 0 j here in
    subst (λ (x : ℕ). x < get_or (places_of marked).place j 0) (sym one)
    (subst (λ (x : ℕ). get_or (places_below 256 marked) i 0 < x) (sym two) (places_ascend 256 marked i j less here))

places-as-many : (s : List ℕ) → (places_of (mark_at (redundant_of s).marks)).count ≡ (redundant_of s).count
unfolding places_of
places-as-many s = sym (redundant-counted s)

-- ── Starts ──

-- starts that are those of the earliest run, for all tasks and turns, are an earliest run
same-run :
    (n : ℕ) (es : List Edge) (K : ℕ) (start same dur : Times) → Ends n es → Earliest n es K start dur →
    ((v k : ℕ) → v < n → 1 ≤ k → k ≤ K → same v k ≡ start v k) → Earliest n es K same dur
same-run n es K start same dur between run is =
    record {
      allowed = record { positive = run.allowed.positive; keeps = keeps };
      least = λ other allowed v k below one most.
          subst (λ (x : ℕ). x ≤ other v k) (sym (is v k below one most)) (run.least other allowed v k below one most);
    }
  where
    keeps : (e : Edge) → e ∈ es → Keeps K same dur e
    keeps e m k after most =
        let back : 1 ≤ k - e.delay = omega (arith, after) in
        let before : k - e.delay ≤ K = omega (arith, most) in
        let one : 1 ≤ k = omega (arith, after) in
        let held = run.allowed.keeps e m k after most in
        let source = is e.source (k - e.delay) (between e m).0 back before in
        let sink = is e.sink k (between e m).1 one most in
        subst (λ (x : ℕ). x + dur e.source (k - e.delay) ≤ same e.sink k) (sym source)
        (subst (λ (x : ℕ). start e.source (k - e.delay) + dur e.source (k - e.delay) ≤ x) (sym sink) held)

-- ── Margins ──

margin-within : (bound latency : ℕ) → latency ≤ bound → pos bound -ℤ pos latency ≡ pos (bound - latency)
margin-within bound zero within = ap pos (omega arith)
margin-within bound (suc l) within =
    ap (λ (t : Bool). cond t (negsuc (suc l - suc bound)) (pos (bound - suc l))) (le-ltb bound (suc l) within)

pub margin-beyond : (bound latency : ℕ) → bound < latency → pos bound -ℤ pos latency ≡ negsuc (latency - bound - 1)
margin-beyond bound zero beyond = absurd (not-suc-le-zero beyond)
margin-beyond bound (suc l) beyond =
    ap (λ (t : Bool). cond t (negsuc (suc l - suc bound)) (pos (bound - suc l))) (lt-ltb bound (suc l) beyond) ∙ ap negsuc (omega arith)

-- ── The demand ──

module _ (s p : List ℕ) where
  -- what is told of an accepted proposal
  module _ (given : (verdict_of s p).outcome.number ≡ 0) where
    pub latency-told : (verdict_of s p).latency ≡ result_latency s p
    unfolding verdict_of
    latency-told = if-passed (verdict_refusal s p).number (result_latency s p) 0 (sym (number_is s p) ∙ given)

    margin-told : (verdict_of s p).margin ≡ pos (graph_of s).bound -ℤ pos (verdict_of s p).latency
    unfolding verdict_of margin
    margin-told =
        if-passed (verdict_refusal s p).number (margin (graph_of s).bound (result_latency s p)) (pos 0) (sym (number_is s p) ∙ given) ∙
        ap (λ (l : ℕ). pos (graph_of s).bound -ℤ pos l) (sym latency-told)

  -- what is told of a late one
  module _ (is : (verdict_of s p).outcome.number ≡ 15) where
    pub late-told : (verdict_of s p).outcome.latency ≡ result_latency s p
    unfolding verdict_of told_late counted
    late-told = ap (λ (n : ℕ). counted (eqb n 15) (result_latency s p)) (sym (number_is s p) ∙ is)

    pub late-margin-told : (verdict_of s p).outcome.margin ≡ pos (graph_of s).bound -ℤ pos (verdict_of s p).outcome.latency
    unfolding verdict_of told_late counted_margin margin
    late-margin-told =
        ap (λ (n : ℕ). counted_margin (eqb n 15) (margin (graph_of s).bound (result_latency s p))) (sym (number_is s p) ∙ is) ∙
        ap (λ (l : ℕ). pos (graph_of s).bound -ℤ pos l) (sym late-told)

  module _ (graph : AcceptedFile s) (formed : WellFormedFile s p) (off : NoneOnCycle (edges (result (graph_of s) (proposal_of p))) (proposal_of p)) where
    latency-meant : Latency (edges (result (graph_of s) (proposal_of p))) (time_of (graph_of s)) (graph_of s).output (result_latency s p)
    unfolding result_latency
    latency-meant = judged_latency (graph_of s) (proposal_of p) graph.1 (edges-formed s p graph formed) off

    misses-iff : MissesBound (result (graph_of s) (proposal_of p)) ↔ ((graph_of s).bound < result_latency s p)
    unfolding result_latency
    misses-iff =
        result-misses (graph_of s) (proposal_of p)
        (record {
          sync_ends = graph.1.formed.syncs_formed.ends;
          proposed_ends = (edges-formed s p graph formed).ends;
          no_zero_cycle = graph.1.no_zero_cycle;
          off_cycles = off;
        })
        (λ v l. (graph.1.formed.times v l).0) graph.1.formed.output_below

  accepted-told :
      (verdict_of s p).outcome.number ≡ 0 →
      Latency (edges (result (graph_of s) (proposal_of p))) (time_of (graph_of s)) (graph_of s).output (result_latency s p) × (result_latency s p ≤ (graph_of s).bound)
  accepted-told given =
      let h = all-passed s p given in
      go h.0 h.1 given ((sentenced s p h.0 h.1 (verdict_of s p).outcome.number).0 refl)
    where
      go : AcceptedFile s → WellFormedFile s p → {n : ℕ} → n ≡ 0 → Sentenced (graph_of s) (proposal_of p) n →
          Latency (edges (result (graph_of s) (proposal_of p))) (time_of (graph_of s)) (graph_of s).output (result_latency s p) × (result_latency s p ≤ (graph_of s).bound)
      go graph formed is (cycle_made because e m c) = absurd (omega (arith, is, because))
      go graph formed is (order_lost because off breaks) = absurd (omega (arith, is, because))
      go graph formed is (late because off runs misses) = absurd (omega (arith, is, because))
      go graph formed is (accepted because off runs meets) =
          let in_time : (graph_of s).bound < result_latency s p → ⊥ = λ high. meets ((misses-iff graph formed off).1 high) in
          (latency-meant graph formed off, omega (arith, in_time))

  pub late-meant :
      (verdict_of s p).outcome.number ≡ 15 →
      Latency (edges (result (graph_of s) (proposal_of p))) (time_of (graph_of s)) (graph_of s).output (result_latency s p) × ((graph_of s).bound < result_latency s p)
  late-meant fifteen =
      let high : 13 ≤ (verdict_of s p).outcome.number = omega (arith, fifteen) in
      let h = only-judged s p high in
      go h.0 h.1 fifteen ((sentenced s p h.0 h.1 (verdict_of s p).outcome.number).0 refl)
    where
      go : AcceptedFile s → WellFormedFile s p → {n : ℕ} → n ≡ 15 → Sentenced (graph_of s) (proposal_of p) n →
          Latency (edges (result (graph_of s) (proposal_of p))) (time_of (graph_of s)) (graph_of s).output (result_latency s p) × ((graph_of s).bound < result_latency s p)
      go graph formed is (cycle_made because e m c) = absurd (omega (arith, is, because))
      go graph formed is (order_lost because off breaks) = absurd (omega (arith, is, because))
      go graph formed is (late because off runs misses) = (latency-meant graph formed off, (misses-iff graph formed off).0 misses)
      go graph formed is (accepted because off runs meets) = absurd (omega (arith, is, because))

-- ── The plan ──

-- the outcome's number is the refusal's
pub plan-not-refused : (s : List ℕ) (room : ℕ) → (plan_answer_of s room).outcome.number ≡ 0 → (plan_refusal s room).number ≡ 0
unfolding plan_answer_of outcome
plan-not-refused s room passed = passed

plan-told : (s : List ℕ) (room : ℕ) → (plan_refusal s room).number ≡ 0 → (plan_answer_of s room).outcome.number ≡ 0
unfolding plan_answer_of outcome
plan-told s room passed = passed

-- there is one plan only
module _ (s : List ℕ) (list : List EdgeRecord) (passed : (plan_refusal s (length list)).number ≡ 0) (steps : ℕ) (es : List Edge) where
  the-plan : Plan (graph_of s) steps es ↔ (((plan_answer_of s (length list)).steps ≡ steps) × (plan_listed s list ≡ es))
  the-plan = (λ other. plan-unique (graph_of s) _ steps _ es own other, λ same. moved same.0 same.1)
    where
      own : Plan (graph_of s) (plan_answer_of s (length list)).steps (plan_listed s list)
      own = (plan-means s list passed).0

      moved : (plan_answer_of s (length list)).steps ≡ steps → plan_listed s list ≡ es → Plan (graph_of s) steps es
      moved p q = subst (λ (k : ℕ). Plan (graph_of s) k es) p (subst (λ (xs : List Edge). Plan (graph_of s) (plan_answer_of s (length list)).steps xs) q own)

plan-small : (s : List ℕ) (room : ℕ) →
    (plan_answer_of s room).length + (plan_answer_of s room).steps ≤ length (keep (λ e. not (is_feedback (graph_of s) e)) (graph_of s).syncs)
unfolding plan_answer_of
plan-small s room = go (zero_or_not (plan_refusal s room).number)
  where
    go : ((plan_refusal s room).number ≡ 0) ⊎ ((plan_refusal s room).number ≢ 0) →
        if_passed (plan_refusal s room).number (length (plan_of (graph_of s)).list) 0 + if_passed (plan_refusal s room).number (plan_of (graph_of s)).steps 0
        ≤ length (keep (λ e. not (is_feedback (graph_of s) e)) (graph_of s).syncs)
    go (inl passed) =
        let all = stage-shrinks (graph_of s) (plan_of (graph_of s)).steps (plan_of (graph_of s)).list
        (plan-is (graph_of s) ((plan_given s room).0 passed).0.1).stage in
        let length-is = if-passed (plan_refusal s room).number (length (plan_of (graph_of s)).list) 0 passed in
        let steps-is = if-passed (plan_refusal s room).number (plan_of (graph_of s)).steps 0 passed in
        omega (arith, all, length-is, steps-is)
    go (inr refused) =
        let length-is = if-refused (plan_refusal s room).number (length (plan_of (graph_of s)).list) 0 refused in
        let steps-is = if-refused (plan_refusal s room).number (plan_of (graph_of s)).steps 0 refused in
        omega (arith, length-is, steps-is)

plan-as-long : (s : List ℕ) (list : List EdgeRecord) → length (plan_listed s list) ≡ (plan_answer_of s (length list)).length
unfolding listed
plan-as-long s list = go (zero_or_not (plan_refusal s (length list)).number)
  where
    go : ((plan_refusal s (length list)).number ≡ 0) ⊎ ((plan_refusal s (length list)).number ≢ 0) →
        length (plan_listed s list) ≡ (plan_answer_of s (length list)).length
    go (inl passed) = (plan-means s list passed).1
    go (inr refused) =
        let z = (plan_refused s (length list) refused).0 in
        ap (λ (k : ℕ). length (listed k (plan_after s list))) z ∙ sym z

pub demand2-met : Demand2
unfolding outcome tasks_of present_edges
demand2-met =
    record {
      delays_given = λ s table. delays_given s (length table);
      delay_least = λ s table given a b l k.
          let graph = ((delays_given s (length table)).0 given).0 in
          let h = delays-mean s table given a b l k in
          delay-read (edges (graph_of s)) a b (delay_in (tasks_of s) (delays_after s table) a b) (delays-small s graph a b) h.0 h.1 h.2;
      delay_none = λ s table given a b l k.
          let graph = ((delays_given s (length table)).0 given).0 in
          let h = delays-mean s table given a b l k in
          none_read (edges (graph_of s)) a b (delay_in (tasks_of s) (delays_after s table) a b) (delays-small s graph a b) h.0 h.1 h.2;
      delays_past = delays_past;
      redundant_given = redundant_given;
      marked = λ s given i l.
          let d = mark-decides s ((redundant_given s).0 given) i l in
          (λ set. d.if_true (eq→eqb set), λ redundant. eqb→eq (mark_bit (redundant_of s).marks i) 1 (decides-true d redundant));
      not_marked = λ s given i l.
          let d = mark-decides s ((redundant_given s).0 given) i l in (
            λ unset redundant.
                let set : mark_bit (redundant_of s).marks i ≡ 1 = eqb→eq (mark_bit (redundant_of s).marks i) 1 (decides-true d redundant) in
                omega (arith, set, unset),
            λ needed. bit-unset _ (λ set. needed (d.if_true (eq→eqb set))),
          );
      marks_counted = λ s. redundant-counted s ∙ marks-summed (redundant_of s).marks;
      places_listed = λ s given place.
          subst (λ (xs : List ℕ). Memᴰ place xs ↔ ((1 ≤ place) × Redundant (graph_of s) (place - 1))) (sym (listed-places (mark_at (redundant_of s).marks)))
          (redundant-listed s ((redundant_given s).0 given) place);
      places_ascend = λ s. places-rise (mark_at (redundant_of s).marks);
      places_counted = places-as-many;
      figures_given = figures_given;
      tasks_counted = λ s given. (figures-mean s ((figures_given s).0 given)).0;
      edges_counted = λ s given. (figures-mean s ((figures_given s).0 given)).1;
      latency = λ s given. (figures-mean s ((figures_given s).0 given)).2;
      latency_run = λ s given. figures-run s ((figures_given s).0 given);
      timetable_given = λ s turns starts. timetable_given s turns (length starts);
      timetable_earliest = λ s turns starts given.
          let graph = ((timetable_given s turns (length starts)).0 given).2 in
          let run = timetable-runs s turns graph in
          same-run (tasks_of s) (edges (graph_of s)) turns run.0 (start_in (tasks_of s) (timetable_after s turns starts)) (estimates (time_of (graph_of s)))
          (graph-ends (graph_of s) graph.1.formed.syncs_formed.ends) run.1 (timetable-mean s turns starts given run.0 run.1);
      timetable_past = timetable_past;
      plan_given = λ s room.
          (λ passed. (plan_given s room).0 (plan-not-refused s room passed), λ ok. plan-told s room ((plan_given s room).1 ok));
      plan = λ s list passed. the-plan s list (plan-not-refused s (length list) passed);
      plan_length = plan-as-long;
      plan-latency = λ s list passed. (plan-means s list (plan-not-refused s (length list) passed)).2;
      plan_few = plan-small;
      plan_past = plan_past;
      judged_latency = λ s p given. subst (Latency _ _ _) (sym (latency-told s p given)) (accepted-told s p given).0;
      margin = margin-told;
      in_time = λ s p given.
          let low = subst (λ (l : ℕ). l ≤ (graph_of s).bound) (sym (latency-told s p given)) (accepted-told s p given).1 in
          (low, margin-told s p given ∙ margin-within (graph_of s).bound (verdict_of s p).latency low);
      late_latency = λ s p is. subst (Latency _ _ _) (sym (late-told s p is)) (late-meant s p is).0;
      late_margin = late-margin-told;
      late_by = λ s p is.
          let high = subst (λ (l : ℕ). (graph_of s).bound < l) (sym (late-told s p is)) (late-meant s p is).1 in
          (high, late-margin-told s p is ∙ margin-beyond (graph_of s).bound (verdict_of s p).outcome.latency high);
    }
