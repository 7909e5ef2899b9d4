-- The refusals of the calls follow the sequences of demand 1: group by group, as the chains are built, each test deciding its condition. From 9 on a
-- test decides its condition because nothing before it refuses.
use mathlib.Core.Path.{◌≡◌, refl, ◌∙◌, subst}
use mathlib.Core.Logic.{◌⊎◌, inl, inr, ◌≢◌}
use mathlib.Core.List.{List}
use Prim.Native.Nat.{ℕ, suc, ◌*◌, ◌≤◌, ◌<◌}
use native.Mathlib.Omega.{arith}
use lib.Dec.{ltb}
use lib.ListN.{length}
use Rattle.model.specs.Tasks.{Edge}
use Rattle.model.specs.Graph.{Graph, WellFormed, edges, time_of}
use Rattle.model.specs.Paths.{InputFree, Joined, Latency}
use Rattle.model.specs.Theorems.{Decides}
use Rattle.model.proofs.Theorems.{latency-unique}
use Rattle.model.proofs.Tests.{decided, eqb-decides, ltb-decides}
use Rattle.layout.specs.Layout.{graph_header, proposal_header, bytes_for}
use Rattle.files.specs.Files.{task_count, edge_count, graph_bits, proposal_bits, graph_of, proposal_of, edge_in, time_refusal, ends_refusal, edge_refusal, repeat_refusal, graph_header_refusal, proposal_header_refusal, length_refusal, filling_refusal, zeros_refusal, header_ends_refusal, graph_frame_refusal, graph_records_refusal, graph_refusal, proposal_frame_refusal, proposed_edges_refusal, proposal_refusal}
use Rattle.files.proofs.Repeats.{repeats-earlier-is}
use Rattle.readings.proofs.Accepted.{graph-formed}
use Rattle.readings.proofs.Whole.{task-count, sync-count, proposal-count}
use Rattle.acceptance.specs.Acceptance.{schedule_refusal, acceptance_refusal}
use Rattle.acceptance.specs.Outcomes.{room_refusal, tasks_of}
use Rattle.acceptance.specs.Theorems.{Judged, zero-cycle, input_waits, not_joined, bound_below, passes}
use Rattle.acceptance.proofs.Judged.{judged-iff, no_place}
use Rattle.least_delays.specs.LeastDelays.{delays_refusal}
use Rattle.timetable.specs.Timetable.{turns_refusal, timetable_refusal}
use Rattle.plan.specs.Plan.{plan_refusal}
use Rattle.claims.specs.Demand1.{Sequence, ◌at◌when◌, ◌when◌, ◌then◌, each, Outside, FillingBit, NotBelow, SameProcessor, SameAsEarlier, InputWaits, NotJoined, BoundBelow, graph_file_checks, nine_to_twelve, graph_checks, proposal_file_checks, delays_checks, timetable_checks, plan_checks}
use Rattle.claims.proofs.Conditions.{decides_or, differs, outside, not-below, end-outside, within-processor, filling-bit}
use Rattle.claims.proofs.Sequences.{Follows, passing, stopping, one, check-then, and_then, only, each-follows}

-- ── What both files have ──

module _ (s : List ℕ) (used : ℕ) where
  abbrev lengths : Sequence
  lengths = 1 when length s < bytes_for used then 4 when bytes_for used < length s

  lengths-follow : Follows lengths (length_refusal s used)
  unfolding length_refusal
  lengths-follow = check-then _ (ltb-decides _ _) (λ z. omega arith) (only (one (ltb-decides _ _) (λ z. omega arith)))

  filling-follows : Follows (4 when FillingBit s used) (filling_refusal s used)
  unfolding filling_refusal
  filling-follows = one (filling-bit s used) (λ z. omega arith)

ends-follow : {k n : ℕ} → k ≡ n → (es : List Edge) (j : ℕ) → Follows (6 at suc j when NotBelow n (edge_in es j)) (ends_refusal k es j)
unfolding ends_refusal
ends-follow same es j = one (end-outside same (edge_in es j)) (λ z. omega arith)

repeats-follow : (es : List Edge) (j : ℕ) → Follows (8 at suc j when SameAsEarlier es j) (repeat_refusal es j)
unfolding repeat_refusal
repeats-follow es j = one (repeats-earlier-is es j) (λ z. omega arith)

-- ── 1 to 8 of a graph file ──

module _ (s : List ℕ) where
  abbrev g : Graph
  g = graph_of s

  abbrev header : Sequence
  header = 1 when length s < 7 then 2 when (graph_header s).version ≢ 1 then 3 when (Outside 2 64 (task_count s) ⊎ (256 < edge_count s))

  header-follows : Follows header (graph_header_refusal s)
  unfolding graph_header_refusal
  header-follows =
      check-then _ (ltb-decides _ _) (λ z. omega arith)
      (check-then _ (differs _ _) (λ z. omega arith)
      (only (one (decides_or (outside 2 64 (task_count s)) (ltb-decides _ _)) (λ z. omega arith))))

  abbrev header-ends : Sequence
  header-ends = 6 when ((task_count s ≤ g.input) ⊎ (task_count s ≤ g.output))

  header-ends-follow : Follows header-ends (header_ends_refusal s)
  unfolding header_ends_refusal graph_of
  header-ends-follow = one (decides_or (not-below _ _) (not-below _ _)) (λ z. omega arith)

  frame-follows : Follows (header then lengths s (graph_bits s) then 4 when FillingBit s (graph_bits s) then header-ends) (graph_frame_refusal s)
  unfolding graph_frame_refusal
  frame-follows =
      and_then header (lengths s (graph_bits s) then 4 when FillingBit s (graph_bits s) then header-ends) _ header-follows
      (λ none.
      and_then (lengths s (graph_bits s)) (4 when FillingBit s (graph_bits s) then header-ends) _ (lengths-follow s (graph_bits s))
      (λ none. and_then (4 when FillingBit s (graph_bits s)) header-ends _ (filling-follows s (graph_bits s)) (λ none. only header-ends-follow)))

  abbrev times : ℕ → Sequence
  times v = 5 at v when time_of g v ≡ 0

  time-follows : (v : ℕ) → Follows (times v) (time_refusal g v)
  unfolding time_refusal
  time-follows v = one (eqb-decides _ _) (λ z. omega arith)

  abbrev edge : ℕ → Sequence
  edge j = 6 at suc j when NotBelow (task_count s) (edge_in g.syncs j) then 7 at suc j when SameProcessor g.tasks (edge_in g.syncs j)

  edge-follows : (j : ℕ) → Follows (edge j) (edge_refusal g.tasks g.syncs j)
  unfolding edge_refusal
  edge-follows j =
      and_then (6 at suc j when NotBelow (task_count s) (edge_in g.syncs j)) (7 at suc j when SameProcessor g.tasks (edge_in g.syncs j)) _
      (ends-follow (task-count s) g.syncs j)
      (λ none. only (one (within-processor g.tasks (edge_in g.syncs j)) (λ z. omega arith)))

  abbrev repeats : ℕ → Sequence
  repeats j = 8 at suc j when SameAsEarlier g.syncs j

  records-follow :
      Follows (each (task_count s) times then each (edge_count s) edge then each (edge_count s) repeats) (graph_records_refusal g)
  unfolding graph_records_refusal
  records-follow =
      and_then (each (task_count s) times) (each (edge_count s) edge then each (edge_count s) repeats) _
      (each-follows times (time_refusal g) (λ v below. time-follows v) (task-count s))
      (λ none.
      and_then (each (edge_count s) edge) (each (edge_count s) repeats) _
      (each-follows edge (edge_refusal g.tasks g.syncs) (λ j below. edge-follows j) (sync-count s))
      (λ none. only (each-follows repeats (repeat_refusal g.syncs) (λ j below. repeats-follow g.syncs j) (sync-count s))))

  pub graph-file-follows : Follows (graph_file_checks s) (graph_refusal s)
  unfolding graph_file_checks graph_refusal
  graph-file-follows =
      and_then (header then lengths s (graph_bits s) then 4 when FillingBit s (graph_bits s) then header-ends)
      (each (task_count s) times then each (edge_count s) edge then each (edge_count s) repeats) _ frame-follows (λ none. only records-follow)

-- ── 9 to 12 ──

-- a latency within the bound: there is one latency only
pub in_time : (g : Graph) (l : ℕ) → Latency (edges g) (time_of g) g.output l → l ≤ g.bound → BoundBelow g → ⊥
in_time g l latest within (k, other, below) =
    let same : l ≡ k = latency-unique (edges g) (time_of g) g.output l k latest other in
    omega (arith, within, below, same)

module _ (g : Graph) where
  none-waits : InputFree (edges g) g.input → InputWaits g → ⊥
  none-waits free (e, m, to, at_once) = free e m to at_once

  joined-so : Joined (edges g) g.input g.output → NotJoined g → ⊥
  joined-so joined (inl same) = joined.0 same
  joined-so joined (inr none) = none joined.1

  not-joined-so : (Joined (edges g) g.input g.output → ⊥) → NotJoined g
  not-joined-so apart = go (decided (eqb-decides g.input g.output))
    where
      go : (g.input ≡ g.output) ⊎ (g.input ≢ g.output) → NotJoined g
      go (inl same) = inl same
      go (inr other) = inr (λ path. apart (other, path))

  judged-follows : (m : ℕ) → (schedule_refusal g).number ≡ m → Judged g m → Follows (nine_to_twelve g) (schedule_refusal g)
  unfolding nine_to_twelve
  judged-follows m is (zero-cycle nine z) =
      let number : (schedule_refusal g).number ≡ 9 = is ∙ nine in
      stopping (λ none. omega arith) (inl (z, number, no_place g))
  judged-follows m is (input_waits ten a e here to at_once) =
      let number : (schedule_refusal g).number ≡ 10 = is ∙ ten in
      stopping (λ none. omega arith) (inr (a, inl ((e, here, to, at_once), number, no_place g)))
  judged-follows m is (not_joined eleven a free apart) =
      let number : (schedule_refusal g).number ≡ 11 = is ∙ eleven in
      stopping (λ none. omega arith) (inr (a, inr (none-waits free, inl (not-joined-so apart, number, no_place g))))
  judged-follows m is (bound_below twelve a free joined l latest below) =
      let number : (schedule_refusal g).number ≡ 12 = is ∙ twelve in
      stopping (λ none. omega arith)
      (inr (a, inr (none-waits free, inr (joined-so joined, inl ((l, latest, below), number, no_place g)))))
  judged-follows m is (passes none a free joined l latest within) =
      passing (is ∙ none) (a, (none-waits free, (joined-so joined, (in_time g l latest within, tt))))

  schedule-follows : WellFormed g → Follows (nine_to_twelve g) (schedule_refusal g)
  schedule-follows formed = judged-follows (schedule_refusal g).number refl ((judged-iff g formed (schedule_refusal g).number).0 refl)

pub graph-follows : (s : List ℕ) → Follows (graph_checks s) (acceptance_refusal s)
unfolding graph_checks acceptance_refusal
graph-follows s =
    and_then (graph_file_checks s) (nine_to_twelve (graph_of s)) _ (graph-file-follows s)
    (λ none. only (schedule-follows (graph_of s) (graph-formed s none)))

-- ── 16 and 17 ──

room-follows : {k n : ℕ} (room : ℕ) → k ≡ n → Follows (16 when room < n) (room_refusal k room)
unfolding room_refusal
room-follows {k} {n} room same =
    one (subst (λ (m : ℕ). Decides (ltb room k) (room < m)) same (ltb-decides room k)) (λ z. omega arith)

turns-follow : (turns : ℕ) → Follows (17 when Outside 1 64 turns) (turns_refusal turns)
unfolding turns_refusal
turns-follow turns = one (outside 1 64 turns) (λ z. omega arith)

pub delays-follow : (s : List ℕ) (room : ℕ) → Follows (delays_checks s room) (delays_refusal s room)
unfolding delays_checks delays_refusal tasks_of
delays-follow s room =
    and_then (graph_checks s) (16 when room < task_count s * task_count s) _ (graph-follows s)
    (λ none. only (room-follows room (λ i. task-count s i * task-count s i)))

pub timetable-follows : (s : List ℕ) (turns room : ℕ) → Follows (timetable_checks s turns room) (timetable_refusal s turns room)
unfolding timetable_checks timetable_refusal tasks_of
timetable-follows s turns room =
    and_then (17 when Outside 1 64 turns) (graph_checks s then 16 when room < task_count s * turns) _ (turns-follow turns)
    (λ none.
    and_then (graph_checks s) (16 when room < task_count s * turns) _ (graph-follows s)
    (λ none. only (room-follows room (λ i. task-count s i * turns))))

pub plan-follows : (s : List ℕ) (room : ℕ) → Follows (plan_checks s room) (plan_refusal s room)
unfolding plan_checks plan_refusal
plan-follows s room = and_then (graph_checks s) (16 when room < edge_count s) _ (graph-follows s) (λ none. only (room-follows room (sync-count s)))

-- ── 1 to 8 of a proposal file ──

module _ {k n : ℕ} (same : k ≡ n) (p : List ℕ) where
  abbrev proposal-header : Sequence
  proposal-header = 1 when length p < 2 then 2 when (proposal_header p).version ≢ 1 then 3 when 256 < (proposal_header p).edges

  proposal-header-follows : Follows proposal-header (proposal_header_refusal p)
  unfolding proposal_header_refusal
  proposal-header-follows =
      check-then _ (ltb-decides _ _) (λ z. omega arith)
      (check-then _ (differs _ _) (λ z. omega arith) (only (one (ltb-decides _ _) (λ z. omega arith))))

  abbrev zero_bits : Sequence
  zero_bits = 4 when (proposal_header p).zeros ≢ 0

  zero-bits-follow : Follows zero_bits (zeros_refusal p)
  unfolding zeros_refusal
  zero-bits-follow = one (differs _ _) (λ z. omega arith)

  abbrev fill : Sequence
  fill = 4 when FillingBit p (proposal_bits p)

  proposal-frame-follows : Follows (proposal-header then lengths p (proposal_bits p) then zero_bits then fill) (proposal_frame_refusal p)
  unfolding proposal_frame_refusal
  proposal-frame-follows =
      and_then proposal-header (lengths p (proposal_bits p) then zero_bits then fill) _ proposal-header-follows
      (λ none.
      and_then (lengths p (proposal_bits p)) (zero_bits then fill) _ (lengths-follow p (proposal_bits p))
      (λ none. and_then zero_bits fill _ zero-bits-follow (λ none. only (filling-follows p (proposal_bits p)))))

  abbrev proposed_ends : Sequence
  proposed_ends = each (proposal_header p).edges (λ j. 6 at suc j when NotBelow n (edge_in (proposal_of p) j))

  abbrev proposed-repeats : Sequence
  proposed-repeats = each (proposal_header p).edges (λ j. 8 at suc j when SameAsEarlier (proposal_of p) j)

  proposed-edges-follow : Follows (proposed_ends then proposed-repeats) (proposed_edges_refusal k (proposal_of p))
  unfolding proposed_edges_refusal
  proposed-edges-follow =
      and_then proposed_ends proposed-repeats _
      (each-follows (λ j. 6 at suc j when NotBelow n (edge_in (proposal_of p) j)) (ends_refusal k (proposal_of p)) (λ j below. ends-follow same (proposal_of p) j) (proposal-count p))
      (λ none.
      only
      (each-follows (λ j. 8 at suc j when SameAsEarlier (proposal_of p) j) (repeat_refusal (proposal_of p)) (λ j below. repeats-follow (proposal_of p) j) (proposal-count p)))

  pub proposal-file-follows : Follows (proposal_file_checks n p) (proposal_refusal k p)
  unfolding proposal_file_checks proposal_refusal
  proposal-file-follows =
      and_then (proposal-header then lengths p (proposal_bits p) then zero_bits then fill) (proposed_ends then proposed-repeats) _
      proposal-frame-follows (λ none. only proposed-edges-follow)
