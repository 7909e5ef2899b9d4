-- The example desk's cases, by computation: what each file holds, that its checks pass, and what the numbers are, each as a small equation; the answers
-- are put together from these.
use mathlib.Core.Path.{◌≡◌, refl, sym, ap, ◌∙◌, subst}
use mathlib.Core.Bool.{Bool}
use mathlib.Core.List.Memᴰ.{head as here}
use mathlib.Core.List.Memᴰ.{tail as there}
use mathlib.Core.List.{List, [], ◌∷◌, ◌++◌, Memᴰ}
use Prim.Native.Nat.{ℕ, ◌*◌, ◌≤◌}
use native.Mathlib.Omega.{arith}
use lib.Dec.{ltb}
use lib.IntN.{pos, negsuc}
use lib.ListN.{length, drop, get_or}
use Rattle.model.specs.Lists.{tabulate, any_below, counted}
use Rattle.model.specs.Tasks.{Edge, processor_of, edge}
use Rattle.model.specs.Processors.{processor_edges}
use Rattle.model.specs.Graph.{Graph, count, edges, time_of}
use Rattle.model.specs.Paths.{sync_at}
use Rattle.model.specs.Compute.{least_delay, is_redundant, same_edge, zero_cycle, input_free, joined, earliest, latency, latency_of, on_cycle, order_holds}
use Rattle.model.specs.Proposals.{result}
use Rattle.model.specs.Plan.{Planned, plan_of, plan_latency}
use Rattle.model.specs.Example.{desk_bound, looped as looped_edges}
use Rattle.model.proofs.Example.{desk-plan, desk-plan-at-nine}
use Rattle.bits.specs.Bits.{bit_at, field}
use Rattle.layout.specs.Layout.{graph_header, proposal_header, task_at, edge_at, filling}
use Rattle.records.specs.Columns.{rows}
use Rattle.files.specs.declared.Refusal.{Refusal}
use Rattle.files.specs.Files.{edges_from, graph_of, proposal_of, edge_in, end_outside, within_processor, repeats_earlier, time_refusal, ends_refusal, edge_refusal, repeat_refusal, first_of, graph_bits, proposal_bits, graph_header_refusal, proposal_header_refusal, length_refusal, filling_refusal, zeros_refusal, header_ends_refusal, graph_frame_refusal, graph_records_refusal, graph_refusal, proposal_frame_refusal, proposed_edges_refusal, proposal_refusal}
use Rattle.files.specs.Refusals.{not_refused, refuse, choose, first, if_passed}
use Rattle.files.proofs.First.{number_same, if-passed}
use Rattle.marks.specs.Marks.{number, word_of, marks_of}
use Rattle.starts.specs.Starts.{turn_row, turn_rows}
use Rattle.delays.specs.Delays.{entry, delay_row, delay_table}
use Rattle.acceptance.specs.Acceptance.{schedule_checks, schedule_refusal, acceptance_refusal}
use Rattle.acceptance.specs.Outcomes.{outcome, tasks_of}
use Rattle.acceptance.specs.Theorems.{AcceptedFile}
use Rattle.acceptance.proofs.Judged.{accepted-iff-passed}
use Rattle.least_delays.specs.LeastDelays.{table_of, delays_refusal, delays_after}
use Rattle.least_delays.proofs.Meanings.{delays_given, delays-plain}
use Rattle.redundant.specs.Redundant.{no_marks, redundant_of}
use Rattle.timetable.specs.Timetable.{starts_of, timetable_refusal, timetable_after}
use Rattle.timetable.proofs.Given.{timetable_given, timetable-plain}
use Rattle.judgement.specs.Judgement.{cycle_refusal, lost_refusal, judged_refusal}
use Rattle.verdict.specs.declared.ProposalVerdict.{ProposalVerdict}
use Rattle.verdict.specs.Verdict.{verdict_of, verdict_refusal, told_late, counted_margin, margin, result_latency}
use Rattle.stages.specs.Stages.{written_into}
use Rattle.plan.specs.Plan.{plan_refusal, plan_answer_of, plan_after}
use Rattle.plan.proofs.Meanings.{plan_given, plan-plain}
use Rattle.claims.specs.Cases.{Case, delays, first_word, starts, plan, verdict, accepted, refused, Holds, desk_file, example_file, example_proposal, empty_proposal, first_only, delayed, looped_file, mixed_file, cases, AllHold}

-- ── The graph files ──

-- the desk, whatever bound its byte gives
desk-read : (byte : ℕ) {l : ℕ} → (graph_of (desk_file byte)).bound ≡ l → graph_of (desk_file byte) ≡ desk_bound l
unfolding graph_of edges_from graph_header task_at edge_at tabulate field bit_at
desk-read byte bound = ap desk_bound bound

bounds :
    ((graph_of (desk_file 12)).bound ≡ 12) × ((graph_of (desk_file 10)).bound ≡ 10) × ((graph_of (desk_file 9)).bound ≡ 9) × ((graph_of (desk_file 8)).bound ≡ 8)
unfolding graph_of graph_header field bit_at
bounds = (refl, refl, refl, refl)

desk-formed : (byte : ℕ) → graph_refusal (desk_file byte) ≡ not_refused
unfolding graph_refusal graph_frame_refusal graph_header_refusal length_refusal filling_refusal filling header_ends_refusal graph_records_refusal first_of first choose refuse
    time_refusal time_of edge_refusal ends_refusal end_outside within_processor processor_of repeat_refusal repeats_earlier any_below same_edge edge_in
    graph_bits graph_of edges_from graph_header task_at edge_at tabulate field bit_at
desk-formed byte = refl

-- its latency is 9, so 12 comes exactly for bounds below that
desk-judged : (l : ℕ) {late : Bool} → ltb l 9 ≡ late → schedule_refusal (desk_bound l) ≡ first (refuse late 12 0 ∷ [])
unfolding schedule_refusal schedule_checks first choose refuse zero_cycle input_free joined latency edges processor_edges time_of
desk-judged l is = ap (λ (b : Bool). first (refuse b 12 0 ∷ [])) is

module _ (byte : ℕ) {l : ℕ} (bound : (graph_of (desk_file byte)).bound ≡ l) where
  desk-checked : {late : Bool} → ltb l 9 ≡ late → acceptance_refusal (desk_file byte) ≡ first (not_refused ∷ first (refuse late 12 0 ∷ []) ∷ [])
  unfolding acceptance_refusal
  desk-checked is = λ i. first (desk-formed byte i ∷ (ap schedule_refusal (desk-read byte bound) ∙ desk-judged l is) i ∷ [])

-- the four desks
desk-is : graph_of example_file ≡ desk_bound 12
desk-is = desk-read 12 bounds.0

desk-10-is : graph_of (desk_file 10) ≡ desk_bound 10
desk-10-is = desk-read 10 bounds.1

desk-9-is : graph_of (desk_file 9) ≡ desk_bound 9
desk-9-is = desk-read 9 bounds.2

desk-passes : acceptance_refusal example_file ≡ not_refused
unfolding first choose refuse
desk-passes = desk-checked 12 bounds.0 refl

desk-10-passes : acceptance_refusal (desk_file 10) ≡ not_refused
unfolding first choose refuse
desk-10-passes = desk-checked 10 bounds.1 refl

desk-9-passes : acceptance_refusal (desk_file 9) ≡ not_refused
unfolding first choose refuse
desk-9-passes = desk-checked 9 bounds.2 refl

desk-8-refused : acceptance_refusal (desk_file 8) ≡ record { number = 12; place = 0 }
unfolding first choose refuse
desk-8-refused = desk-checked 8 bounds.3 refl

-- ── Least delays, marks and starts ──

desk-accepted : AcceptedFile example_file
desk-accepted = (accepted-iff-passed example_file).0 (number_same desk-passes)

four-tasks : tasks_of example_file ≡ 4
unfolding tasks_of
four-tasks = ap count desk-is

desk-table : table_of example_file ≡ 1 ∷ 0 ∷ 0 ∷ 0 ∷ 1 ∷ 1 ∷ 1 ∷ 0 ∷ 65535 ∷ 65535 ∷ 1 ∷ 0 ∷ 65535 ∷ 65535 ∷ 1 ∷ 1 ∷ []
unfolding table_of tasks_of delay_table delay_row entry rows tabulate edges processor_edges least_delay
desk-table = ap (λ (g : Graph). delay_table (count g) (edges g)) desk-is

desk-starts : starts_of example_file 2 ≡ 0 ∷ 2 ∷ 2 ∷ 5 ∷ 5 ∷ 7 ∷ 9 ∷ 10 ∷ []
unfolding starts_of tasks_of turn_rows turn_row rows tabulate edges processor_edges time_of earliest
desk-starts = ap (λ (g : Graph). turn_rows (count g) (edges g) (time_of g) 2) desk-is

delays-hold : Holds (delays example_file (1 ∷ 0 ∷ 0 ∷ 0 ∷ 1 ∷ 1 ∷ 1 ∷ 0 ∷ 65535 ∷ 65535 ∷ 1 ∷ 0 ∷ 65535 ∷ 65535 ∷ 1 ∷ 1 ∷ []))
unfolding outcome delays_after
delays-hold lent room =
    let none = (delays_given example_file (length lent)).1 (desk-accepted, subst (λ (n : ℕ). n * n ≤ length lent) (sym four-tasks) room) in (
      ap outcome (delays-plain example_file (length lent) none),
      if-passed (delays_refusal example_file (length lent)).number (table_of example_file ++ drop (tasks_of example_file * tasks_of example_file) lent) lent none ∙
          (λ i. desk-table i ++ drop (four-tasks i * four-tasks i) lent),
    )

starts-hold : Holds (starts example_file 2 (0 ∷ 2 ∷ 2 ∷ 5 ∷ 5 ∷ 7 ∷ 9 ∷ 10 ∷ []))
unfolding outcome timetable_after
starts-hold lent room =
    let enough : tasks_of example_file * 2 ≤ length lent = subst (λ (n : ℕ). n * 2 ≤ length lent) (sym four-tasks) room in
    let none = (timetable_given example_file 2 (length lent)).1 (omega arith, omega arith, desk-accepted, enough) in (
      ap outcome (timetable-plain example_file 2 (length lent) none),
      if-passed (timetable_refusal example_file 2 (length lent)).number (starts_of example_file 2 ++ drop (tasks_of example_file * 2) lent) lent none ∙
          (λ i. desk-starts i ++ drop (four-tasks i * 2) lent),
    )

marks-hold : Holds (first_word example_file 0x2000000000000000)
unfolding outcome redundant_of if_passed marks_of word_of number counted edges processor_edges is_redundant
marks-hold = (ap outcome desk-passes, λ i. get_or (if_passed (desk-passes i).number (marks_of (is_redundant (desk-is i))) no_marks).words 0 0)

-- ── The proposal files ──

-- 1→2; 0→2; 1→2 with delay 1; 0→2, 2→3, 1→3, and 0→1 with delay 1
abbrev example : List Edge
example = edge 1 2 0 ∷ []

abbrev only_first : List Edge
only_first = edge 0 2 0 ∷ []

abbrev with_delay : List Edge
with_delay = edge 1 2 1 ∷ []

abbrev mixed : List Edge
mixed = edge 0 2 0 ∷ edge 2 3 0 ∷ edge 1 3 0 ∷ edge 0 1 1 ∷ []

proposals-read :
    (proposal_of example_proposal ≡ example) × (proposal_of empty_proposal ≡ []) × (proposal_of first_only ≡ only_first) × (proposal_of delayed ≡ with_delay) ×
    (proposal_of looped_file ≡ looped_edges) × (proposal_of mixed_file ≡ mixed)
unfolding proposal_of edges_from proposal_header edge_at tabulate field bit_at
proposals-read = (refl, refl, refl, refl, refl, refl)

proposals-formed :
    (proposal_refusal 4 example_proposal ≡ not_refused) × (proposal_refusal 4 empty_proposal ≡ not_refused) × (proposal_refusal 4 first_only ≡ not_refused) ×
    (proposal_refusal 4 delayed ≡ not_refused) × (proposal_refusal 4 looped_file ≡ not_refused) × (proposal_refusal 4 mixed_file ≡ not_refused)
unfolding proposal_refusal proposal_frame_refusal proposal_header_refusal length_refusal zeros_refusal filling_refusal filling proposed_edges_refusal first_of first choose refuse
    ends_refusal end_outside repeat_refusal repeats_earlier any_below same_edge edge_in proposal_bits proposal_of edges_from proposal_header edge_at tabulate field bit_at
proposals-formed = (refl, refl, refl, refl, refl, refl)

-- what each gets of 13 to 15
example-judged :
    (judged_refusal (desk_bound 12) example ≡ not_refused) × (judged_refusal (desk_bound 10) example ≡ not_refused) ×
    (judged_refusal (desk_bound 9) example ≡ record { number = 15; place = 0 })
unfolding judged_refusal cycle_refusal lost_refusal first_of first choose refuse tabulate edge_in sync_at on_cycle order_holds latency_of result edges
    processor_edges time_of
example-judged = (refl, refl, refl)

example-latency :
    (latency_of (result (desk_bound 12) example) ≡ 10) × (latency_of (result (desk_bound 10) example) ≡ 10) × (latency_of (result (desk_bound 9) example) ≡ 10)
unfolding latency_of result edges processor_edges time_of
example-latency = (refl, refl, refl)

others-judged :
    (judged_refusal (desk_bound 12) [] ≡ record { number = 14; place = 1 }) ×
    (judged_refusal (desk_bound 12) only_first ≡ record { number = 14; place = 2 }) ×
    (judged_refusal (desk_bound 12) with_delay ≡ record { number = 14; place = 1 }) ×
    (judged_refusal (desk_bound 12) looped_edges ≡ record { number = 13; place = 1 }) ×
    (judged_refusal (desk_bound 12) mixed ≡ record { number = 13; place = 2 })
unfolding judged_refusal cycle_refusal lost_refusal first_of first choose refuse tabulate edge_in sync_at on_cycle order_holds latency_of result edges
    processor_edges time_of
others-judged = (refl, refl, refl, refl, refl)

-- ── Verdicts ──

-- the answer from what the checks give, bound and latency
unfoldable put : Refusal → Refusal → Refusal → ℕ → ℕ → ProposalVerdict
put graph proposal judged bound late =
    record {
      outcome = told_late (first (graph ∷ proposal ∷ judged ∷ [])) bound late;
      latency = if_passed (first (graph ∷ proposal ∷ judged ∷ [])).number late 0;
      margin = if_passed (first (graph ∷ proposal ∷ judged ∷ [])).number (margin bound late) (pos 0);
    }

verdict-put :
    (s p : List ℕ) →
    verdict_of s p ≡ put (acceptance_refusal s) (proposal_refusal (tasks_of s) p) (judged_refusal (graph_of s) (proposal_of p)) (graph_of s).bound (result_latency s p)
unfolding verdict_of verdict_refusal put
verdict-put s p = refl

-- the verdict on a well-formed proposal beside an accepted desk
desk-verdict :
    (s p : List ℕ) {l : ℕ} {es : List Edge} → graph_of s ≡ desk_bound l → acceptance_refusal s ≡ not_refused → proposal_of p ≡ es →
    proposal_refusal 4 p ≡ not_refused → {q : Refusal} → judged_refusal (desk_bound l) es ≡ q →
    verdict_of s p ≡ put not_refused not_refused q l (latency_of (result (desk_bound l) es))
unfolding tasks_of result_latency
desk-verdict s p read passes edges-read formed judged =
    verdict-put s p ∙
    (λ i.
    put (passes i) ((ap (λ (g : Graph). proposal_refusal (count g) p) read ∙ formed) i) (((λ j. judged_refusal (read j) (edges-read j)) ∙ judged) i)
    (read i).bound (latency_of (result (read i) (edges-read i))))

example-12 : Holds (verdict example_file example_proposal (accepted 10 (pos 2)))
unfolding put told_late first choose if_passed counted counted_margin margin
example-12 =
    desk-verdict example_file example_proposal desk-is desk-passes proposals-read.0 proposals-formed.0 example-judged.0 ∙
    ap (put not_refused not_refused not_refused 12) example-latency.0

example-10 : Holds (verdict (desk_file 10) example_proposal (accepted 10 (pos 0)))
unfolding put told_late first choose if_passed counted counted_margin margin
example-10 =
    desk-verdict (desk_file 10) example_proposal desk-10-is desk-10-passes proposals-read.0 proposals-formed.0 example-judged.1 ∙
    ap (put not_refused not_refused not_refused 10) example-latency.1

example-9 : Holds (verdict (desk_file 9) example_proposal (refused 15 0 10 (negsuc 0)))
unfolding put told_late first choose if_passed counted counted_margin margin
example-9 =
    desk-verdict (desk_file 9) example_proposal desk-9-is desk-9-passes proposals-read.0 proposals-formed.0 example-judged.2 ∙
    ap (put not_refused not_refused (record { number = 15; place = 0 }) 9) example-latency.2

example-8 : Holds (verdict (desk_file 8) example_proposal (refused 12 0 0 (pos 0)))
unfolding put told_late first choose if_passed counted counted_margin
example-8 =
    verdict-put (desk_file 8) example_proposal ∙
    ap (λ (a : Refusal).
    put a (proposal_refusal (tasks_of (desk_file 8)) example_proposal) (judged_refusal (graph_of (desk_file 8)) (proposal_of example_proposal))
    (graph_of (desk_file 8)).bound (result_latency (desk_file 8) example_proposal)) desk-8-refused

empty-loses : Holds (verdict example_file empty_proposal (refused 14 1 0 (pos 0)))
unfolding put told_late first choose if_passed counted counted_margin
empty-loses =
    desk-verdict example_file empty_proposal desk-is desk-passes proposals-read.1 proposals-formed.1 others-judged.0

first-loses : Holds (verdict example_file first_only (refused 14 2 0 (pos 0)))
unfolding put told_late first choose if_passed counted counted_margin
first-loses =
    desk-verdict example_file first_only desk-is desk-passes proposals-read.2 proposals-formed.2 others-judged.1

delayed-loses : Holds (verdict example_file delayed (refused 14 1 0 (pos 0)))
unfolding put told_late first choose if_passed counted counted_margin
delayed-loses =
    desk-verdict example_file delayed desk-is desk-passes proposals-read.3 proposals-formed.3 others-judged.2

looped-on-cycle : Holds (verdict example_file looped_file (refused 13 1 0 (pos 0)))
unfolding put told_late first choose if_passed counted counted_margin
looped-on-cycle =
    desk-verdict example_file looped_file desk-is desk-passes proposals-read.4 proposals-formed.4 others-judged.3

mixed-on-cycle : Holds (verdict example_file mixed_file (refused 13 2 0 (pos 0)))
unfolding put told_late first choose if_passed counted counted_margin
mixed-on-cycle =
    desk-verdict example_file mixed_file desk-is desk-passes proposals-read.5 proposals-formed.5 others-judged.4

-- ── Plans ──

-- the plan of a desk's file, from that of its graph
module _ (byte l : ℕ) (es : List Edge) (steps latency : ℕ) (is : graph_of (desk_file byte) ≡ desk_bound l) (accepted-file : AcceptedFile (desk_file byte))
    (plan-is : plan_of (desk_bound l) ≡ record { list = es; steps = steps }) (latency_is : plan_latency (desk_bound l) ≡ latency) where
  planned : plan_of (graph_of (desk_file byte)) ≡ record { list = es; steps = steps }
  planned = ap plan_of is ∙ plan-is

  plan-holds : Holds (plan (desk_file byte) es steps latency)
  unfolding outcome plan_answer_of plan_after
  plan-holds lent room = (
    λ i. record {
      outcome = outcome (plain i);
      length = (passed (length (plan_of (graph_of (desk_file byte))).list) 0 ∙ ap (λ (p : Planned). length p.list) planned) i;
      steps = (passed (plan_of (graph_of (desk_file byte))).steps 0 ∙ ap (λ (p : Planned). p.steps) planned) i;
      latency = (passed (plan_latency (graph_of (desk_file byte))) 0 ∙ (ap plan_latency is ∙ latency_is)) i;
    },
    if-passed number (written_into lent (plan_of (graph_of (desk_file byte))).list) lent none ∙ ap (λ (p : Planned). written_into lent p.list) planned,
  )
    where
      number : ℕ
      number = (plan_refusal (desk_file byte) (length lent)).number

      none : number ≡ 0
      none = (plan_given (desk_file byte) (length lent)).1 (accepted-file, room)

      plain : plan_refusal (desk_file byte) (length lent) ≡ not_refused
      plain = plan-plain (desk_file byte) (length lent) none

      passed : (given refused : ℕ) → if_passed number given refused ≡ given
      passed given refused = if-passed number given refused none

plan-at-12 : Holds (plan example_file (edge 1 2 0 ∷ []) 1 10)
plan-at-12 = plan-holds 12 12 (edge 1 2 0 ∷ []) 1 10 desk-is desk-accepted desk-plan.0 desk-plan.1

plan-at-9 : Holds (plan (desk_file 9) (edge 0 2 0 ∷ edge 1 3 0 ∷ []) 0 9)
plan-at-9 =
    plan-holds 9 9 (edge 0 2 0 ∷ edge 1 3 0 ∷ []) 0 9 desk-9-is ((accepted-iff-passed (desk_file 9)).0 (number_same desk-9-passes)) desk-plan-at-nine.0
    desk-plan-at-nine.1

-- ── All of them ──

-- a proof for each case of a list
infixr 5 ◌then◌
data Each : List Case → Type 0 where
  no_more : Each []
  ◌then◌ : {c : Case} {cs : List Case} → Holds c → Each cs → Each (c ∷ cs)

each_holds : (cs : List Case) → Each cs → (c : Case) → Memᴰ c cs → Holds c
each_holds [] _ c x3 = elim x3 [ ]
each_holds (x ∷ cs) (holds then rest) c (here is) = subst Holds (sym is) holds
each_holds (x ∷ cs) (holds then rest) c (there m) = each_holds cs rest c m

pub all_hold : AllHold
all_hold =
    each_holds cases
    (delays-hold
    then marks-hold
    then starts-hold
    then example-12
    then example-10
    then example-9
    then example-8
    then empty-loses
    then first-loses
    then delayed-loses
    then looped-on-cycle
    then mixed-on-cycle
    then plan-at-12
    then plan-at-9
    then no_more)
