-- Demand 2, for all bytes, numbers of turns and lists handed to the calls, and of their answers.
--
-- "Least delays, redundant waits, latency, earliest timetable and the tool's own plan are exactly those of the memorandum as document 01 reads it: a
-- wait is marked redundant if it is so by that definition, and otherwise not."
use Rattle.std.specs.Prelude.{◌≡◌, ◌↔◌, not, ℕ, ◌+◌, ◌-◌, ◌*◌, ◌/◌, ◌%◌, ◌^◌, ◌≤◌, ◌<◌, pos, negsuc, ◌-ℤ◌, length, get_or, take}
use mathlib.Core.List.{List, Memᴰ}
use Rattle.std.proofs.Math.Option.{none, some}
use Rattle.model.specs.Lists.{keep, sum_below}
use Rattle.model.specs.Tasks.{Edge}
use Rattle.model.specs.Graph.{edges, time_of}
use Rattle.model.specs.Paths.{Least, Redundant, Latency}
use Rattle.model.specs.Runs.{Times, ends, Earliest, estimates}
use Rattle.model.specs.Compute.{is_feedback}
use Rattle.model.specs.Proposals.{result}
use Rattle.model.specs.Plan.{Plan}
use Rattle.layout.specs.declared.EdgeRecord.{EdgeRecord}
use Rattle.files.specs.Files.{graph_of, proposal_of}
use Rattle.marks.specs.declared.Marks.{Marks}
use Rattle.marks.specs.Marks.{mark_at, places_of}
use Rattle.acceptance.specs.Outcomes.{outcome, tasks_of}
use Rattle.acceptance.specs.Theorems.{AcceptedFile}
use Rattle.figures.specs.Figures.{figures_of}
use Rattle.least_delays.specs.LeastDelays.{delays_refusal, delays_after}
use Rattle.redundant.specs.Redundant.{redundant_of}
use Rattle.timetable.specs.Timetable.{timetable_refusal, timetable_after}
use Rattle.verdict.specs.Verdict.{verdict_of}
use Rattle.stages.specs.Stages.{listed}
use Rattle.plan.specs.Plan.{plan_answer_of, plan_after}

-- "row by row": the number of tasks a and b in a delay table of n tasks
abbrev pub delay_in : ℕ → List ℕ → ℕ → ℕ → ℕ
delay_in n table a b = get_or table (a * n + b) 0

-- "256 marks in four 64-bit words, edge 1 the most significant bit of the first word": the bit, 0 or 1, of edge number i, which counts from 0
abbrev pub mark_bit : Marks → ℕ → ℕ
mark_bit marks i = get_or marks.words (i / 64) 0 / 2 ^ (63 - i % 64) % 2

-- "Each turn's starts fill the next part of the lent list, tasks in order": the start of task v in turn k, which counts from 1, of n tasks
abbrev pub start_in : ℕ → List ℕ → Times
start_in n starts v k = get_or starts ((k - 1) * n + v) 0

-- the edges that the plan call leaves at the front of a lent list
abbrev pub plan_listed : List ℕ → List EdgeRecord → List Edge
plan_listed s list = listed (plan_answer_of s (length list)).length (plan_after s list)

-- s and p are the bytes of a graph and of a proposal, `table`, `starts` and `list` the lent lists as they are handed over, r is an answer to the proposal.
-- What the calls answer and leave in the lists is named as in their contracts: `figures_of s` is the answer of `figures`, `delays_after s table` what
-- `least_delays` leaves in `table`.
pub record Demand2 : Type 0 where
  -- ── Least delays ──
  -- the table is given exactly for an accepted graph and a list of "tasks squared" numbers or more
  pub delays_given :
      (s table : List ℕ) → ((outcome (delays_refusal s (length table))).number ≡ 0) ↔ (AcceptedFile s × (tasks_of s * tasks_of s ≤ length table))
  -- "The least delay from a to b is the smallest sum of delays over paths of one or more edges": a number is it exactly if it stands in the table at a
  -- and b, and is not the number for none
  pub delay_least :
      (s table : List ℕ) → (outcome (delays_refusal s (length table))).number ≡ 0 → (a b : ℕ) → a < tasks_of s → b < tasks_of s →
      (d : ℕ) → Least (edges (graph_of s)) a b (some d) ↔ ((delay_in (tasks_of s) (delays_after s table) a b ≡ d) × (d < 65535))
  -- "or none if there is no path", "65,535 for none"
  pub delay_none :
      (s table : List ℕ) → (outcome (delays_refusal s (length table))).number ≡ 0 → (a b : ℕ) → a < tasks_of s → b < tasks_of s →
      Least (edges (graph_of s)) a b none ↔ (delay_in (tasks_of s) (delays_after s table) a b ≡ 65535)
  -- "After success, elements past the written part hold what they held", and the list is as long as it was
  pub delays_past :
      (s table : List ℕ) →
      (length (delays_after s table) ≡ length table) × ((i : ℕ) → tasks_of s * tasks_of s ≤ i → get_or (delays_after s table) i 0 ≡ get_or table i 0)
  -- ── Redundant waits ──
  -- they are marked exactly for an accepted graph
  pub redundant_given : (s : List ℕ) → ((redundant_of s).outcome.number ≡ 0) ↔ AcceptedFile s
  -- "A synchronization edge is redundant if, without it, the least delay between its ends is at most its own." "a wait is marked redundant if it is so by
  -- that definition"
  pub marked :
      (s : List ℕ) → (redundant_of s).outcome.number ≡ 0 → (i : ℕ) → i < 256 → (mark_bit (redundant_of s).marks i ≡ 1) ↔ Redundant (graph_of s) i
  -- "and otherwise not"
  pub not_marked :
      (s : List ℕ) → (redundant_of s).outcome.number ≡ 0 → (i : ℕ) → i < 256 → (mark_bit (redundant_of s).marks i ≡ 0) ↔ (Redundant (graph_of s) i → ⊥)
  -- "and the number of marks set"
  pub marks_counted : (s : List ℕ) → (redundant_of s).count ≡ sum_below 256 (mark_bit (redundant_of s).marks)
  -- "count of redundant edges and their places": `places` lists exactly those of the marks
  pub places_listed :
      (s : List ℕ) → (redundant_of s).outcome.number ≡ 0 → (place : ℕ) →
      Memᴰ place (take (places_of (mark_at (redundant_of s).marks)).count (places_of (mark_at (redundant_of s).marks)).place)
      ↔ ((1 ≤ place) × Redundant (graph_of s) (place - 1))
  -- "ascending"
  pub places_ascend :
      (s : List ℕ) (i j : ℕ) → i < j → j < (places_of (mark_at (redundant_of s).marks)).count →
      get_or (places_of (mark_at (redundant_of s).marks)).place i 0 < get_or (places_of (mark_at (redundant_of s).marks)).place j 0
  -- and as many as are counted
  pub places_counted : (s : List ℕ) → (places_of (mark_at (redundant_of s).marks)).count ≡ (redundant_of s).count
  -- ── Latency ──
  -- "Graph figures: tasks, edges, latency": they are given exactly for an accepted graph
  pub figures_given : (s : List ℕ) → ((figures_of s).outcome.number ≡ 0) ↔ AcceptedFile s
  pub tasks_counted : (s : List ℕ) → (figures_of s).outcome.number ≡ 0 → (figures_of s).tasks ≡ length (graph_of s).tasks
  pub edges_counted : (s : List ℕ) → (figures_of s).outcome.number ≡ 0 → (figures_of s).edges ≡ length (graph_of s).syncs
  -- "Latency is the largest sum of estimated times along a path of delay-0 edges that ends at the latency output, the output's time included. The path may
  -- begin at any task, and may be the output alone."
  pub latency :
      (s : List ℕ) → (figures_of s).outcome.number ≡ 0 →
      Latency (edges (graph_of s)) (time_of (graph_of s)) (graph_of s).output (figures_of s).latency
  -- "This is document 000's Theorem 2, counted from time zero": it is when the output's first turn ends if tasks start as early as allowed and take their
  -- estimated times, in however many turns
  pub latency_run :
      (s : List ℕ) → (figures_of s).outcome.number ≡ 0 → (K : ℕ) (start : Times) → 1 ≤ K →
      Earliest (tasks_of s) (edges (graph_of s)) K start (estimates (time_of (graph_of s))) →
      ends start (estimates (time_of (graph_of s))) (graph_of s).output 1 ≡ (figures_of s).latency
  -- ── Earliest timetable ──
  -- the timetable is given exactly for "1 to 64 turns", an accepted graph and a list of "tasks × turns" numbers or more
  pub timetable_given :
      (s : List ℕ) (turns : ℕ) (starts : List ℕ) →
      ((outcome (timetable_refusal s turns (length starts))).number ≡ 0)
      ↔ ((1 ≤ turns) × (turns ≤ 64) × AcceptedFile s × (tasks_of s * turns ≤ length starts))
  -- "the earliest start at the estimated times": the starts in the list, in every turn, are those of "the allowed run with these durations in which no turn
  -- of a task starts later than in any other such run"
  pub timetable_earliest :
      (s : List ℕ) (turns : ℕ) (starts : List ℕ) → (outcome (timetable_refusal s turns (length starts))).number ≡ 0 →
      Earliest (tasks_of s) (edges (graph_of s)) turns (start_in (tasks_of s) (timetable_after s turns starts)) (estimates (time_of (graph_of s)))
  -- "elements past the written part hold what they held"
  pub timetable_past :
      (s : List ℕ) (turns : ℕ) (starts : List ℕ) →
      (length (timetable_after s turns starts) ≡ length starts) ×
      ((i : ℕ) → tasks_of s * turns ≤ i → get_or (timetable_after s turns starts) i 0 ≡ get_or starts i 0)
  -- ── Plan ──
  -- it is given exactly for an accepted graph and a list of as many records as the file has edges, or more
  pub plan_given :
      (s : List ℕ) (room : ℕ) → ((plan_answer_of s room).outcome.number ≡ 0) ↔ (AcceptedFile s × (length (graph_of s).syncs ≤ room))
  -- "The plan follows Figure 10": list and steps are the plan's exactly if they are those that the call writes and tells. What the plan is, from candidates
  -- to steps in 01's words, is the model's `Plan`
  pub plan :
      (s : List ℕ) (list : List EdgeRecord) → (plan_answer_of s (length list)).outcome.number ≡ 0 → (steps : ℕ) (es : List Edge) →
      Plan (graph_of s) steps es ↔ (((plan_answer_of s (length list)).steps ≡ steps) × (plan_listed s list ≡ es))
  -- "the answer gives its length, its steps and its latency": the latency of the graph that it leads to
  pub plan_length :
      (s : List ℕ) (list : List EdgeRecord) → length (plan_listed s list) ≡ (plan_answer_of s (length list)).length
  pub plan-latency :
      (s : List ℕ) (list : List EdgeRecord) → (plan_answer_of s (length list)).outcome.number ≡ 0 →
      Latency (edges (result (graph_of s) (plan_listed s list))) (time_of (graph_of s)) (graph_of s).output (plan_answer_of s (length list)).latency
  -- never more edges than the graph has feedforward ones, and each step lowers their number; so "as many records as edges are needed at most"
  pub plan_few :
      (s : List ℕ) (room : ℕ) →
      (plan_answer_of s room).length + (plan_answer_of s room).steps ≤ length (keep (λ e. not (is_feedback (graph_of s) e)) (graph_of s).syncs)
  -- "elements past the written part hold what they held", and the list is as long as it was
  pub plan_past :
      (s : List ℕ) (list : List EdgeRecord) (missing : EdgeRecord) →
      (length (plan_after s list) ≡ length list) ×
      ((i : ℕ) → (plan_answer_of s (length list)).length ≤ i → get_or (plan_after s list) i missing ≡ get_or list i missing)
  -- ── Latency of the result of a proposal ──
  -- "Verdict: latency of the result": of a proposal that is accepted (by demand 3, exactly those that may be)
  pub judged_latency :
      (s p : List ℕ) → (verdict_of s p).outcome.number ≡ 0 →
      Latency (edges (result (graph_of s) (proposal_of p))) (time_of (graph_of s)) (graph_of s).output (verdict_of s p).latency
  -- "and margin, which is bound minus latency", here not negative
  pub margin : (s p : List ℕ) → (verdict_of s p).outcome.number ≡ 0 → (verdict_of s p).margin ≡ pos (graph_of s).bound -ℤ pos (verdict_of s p).latency
  pub in_time :
      (s p : List ℕ) → (verdict_of s p).outcome.number ≡ 0 →
      ((verdict_of s p).latency ≤ (graph_of s).bound) × ((verdict_of s p).margin ≡ pos ((graph_of s).bound - (verdict_of s p).latency))
  -- "15: late; latency and the negative margin are given"
  pub late_latency :
      (s p : List ℕ) → (verdict_of s p).outcome.number ≡ 15 →
      Latency (edges (result (graph_of s) (proposal_of p))) (time_of (graph_of s)) (graph_of s).output (verdict_of s p).outcome.latency
  pub late_margin :
      (s p : List ℕ) → (verdict_of s p).outcome.number ≡ 15 → (verdict_of s p).outcome.margin ≡ pos (graph_of s).bound -ℤ pos (verdict_of s p).outcome.latency
  -- negative: `negsuc n` is −(n + 1)
  pub late_by :
      (s p : List ℕ) → (verdict_of s p).outcome.number ≡ 15 →
      ((graph_of s).bound < (verdict_of s p).outcome.latency) × ((verdict_of s p).outcome.margin ≡ negsuc ((verdict_of s p).outcome.latency - (graph_of s).bound - 1))
