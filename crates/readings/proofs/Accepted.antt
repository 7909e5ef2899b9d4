-- A file of which nothing is refused holds a well-formed graph, or well-formed proposed edges: each condition of a refusal fails, and fields are
-- below the powers of their widths.
use mathlib.Core.Path.{◌≡◌, refl, sym, ◌∙◌, subst}
use mathlib.Core.Logic.{◌⊎◌, inl, inr, ◌≢◌}
use mathlib.Core.Bool.{false, not, true≢false}
use mathlib.Core.List.{List, [], ◌∷◌, ◌++◌}
use Prim.Native.Nat.{ℕ, zero, suc, ◌≤◌, ◌<◌, ◌^◌}
use native.Mathlib.Nat.{not-suc-le-zero}
use native.Mathlib.Omega.{arith}
use lib.Dec.{eqb, ltb}
use lib.ListN.{length}
use borrow.Author.Tests.{ltb-true, eqb-false, not-false}
use Rattle.bits.proofs.Laws.{field_below}
use Rattle.model.specs.Lists.{tabulate}
use Rattle.model.specs.Tasks.{Task, Edge, ◌∈◌, Distinct, no_edge, processor_of}
use Rattle.model.specs.Graph.{Graph, time_of}
use Rattle.model.proofs.Basics.{below_suc, member-place}
use Rattle.layout.specs.Layout.{graph_header, graph_header_bits, proposal_header_bits, record_start, edge_at}
use Rattle.layout.proofs.Records.{processor-below, time-below, delay-below}
use Rattle.files.specs.declared.Refusal.{Refusal}
use Rattle.files.specs.Refusals.{refuse, first}
use Rattle.files.specs.Files.{task_count, edge_count, edges_from, graph_of, proposal_of, edge_in, end_outside, within_processor, repeats_earlier, time_refusal, ends_refusal, edge_refusal, repeat_refusal, first_of, graph_frame_refusal, graph_records_refusal, graph_refusal, proposal_frame_refusal, proposed_edges_refusal, proposal_refusal}
use Rattle.readings.specs.Theorems.{GraphFormed, ProposalFormed}
use Rattle.files.proofs.First.{zero_or_not, number_same, stopped-before, passed-all}
use Rattle.files.proofs.Repeats.{repeats}
use Rattle.readings.proofs.Whole.{edges-from-count, edge-from, task-count, sync-count, task-is, proposal-count}
use Rattle.readings.proofs.Passed.{head_passed, tail-passed, check-passed, or_left_false, or_right_false, graph-frame-passed, proposal-frame-passed}

-- ── Every place passed ──

earlier-passed : (rs later : List Refusal) → (first (rs ++ later)).number ≡ 0 → (first rs).number ≡ 0
earlier-passed rs later none = go (zero_or_not (first rs).number)
  where
    go : ((first rs).number ≡ 0) ⊎ ((first rs).number ≢ 0) → (first rs).number ≡ 0
    go (inl z) = z
    go (inr s) = number_same (sym (stopped-before rs later s)) ∙ none

every-passed : (n : ℕ) (f : ℕ → Refusal) → (first_of n f).number ≡ 0 → (i : ℕ) → i < n → (f i).number ≡ 0
unfolding first_of tabulate
every-passed zero f none i l = absurd (not-suc-le-zero l)
every-passed (suc n) f none i l = go (below_suc l) (every-passed n f before i)
  where
    before : (first_of n f).number ≡ 0
    before = earlier-passed (tabulate n f) (f n ∷ []) none

    go : (i < n) ⊎ (i ≡ n) → (i < n → (f i).number ≡ 0) → (f i).number ≡ 0
    go (inl k) rest = rest k
    go (inr e) rest =
        subst (λ (m : ℕ). (f m).number ≡ 0) (sym e)
        (head_passed (f n) [] (number_same (sym (passed-all (tabulate n f) (f n ∷ []) before)) ∙ none))

-- ── Edges ──

-- no edge repeats an earlier one, so no two are equal
distinct_from : (es : List Edge) → ((i j : ℕ) → i < j → j < length es → edge_in es i ≢ edge_in es j) → Distinct es
unfolding edge_in
distinct_from [] apart = tt
distinct_from (e ∷ es) apart = (
  λ m.
      let r = member-place no_edge m in
      let l = r.1 in
      apart 0 (suc r.0) (omega arith) (omega arith) (sym r.2),
  distinct_from es (λ i j l k. apart (suc i) (suc j) (omega arith) (omega arith)),
)

no-repeats : (es : List Edge) → (first_of (length es) (repeat_refusal es)).number ≡ 0 → Distinct es
unfolding repeat_refusal
no-repeats es none =
    distinct_from es
    (λ i j l k same.
    let passed : repeats_earlier es j ≡ false
    = check-passed (repeats_earlier es j) 8 (suc j) (λ z. omega arith) (every-passed (length es) (repeat_refusal es) none j k) in
    true≢false (sym (repeats es j i l same) ∙ passed))

-- an edge of which 6 does not hold
inside_of : (n : ℕ) (e : Edge) → end_outside n e ≡ false → (e.source < n) × (e.sink < n)
unfolding end_outside
inside_of n e none = (
  ltb-true e.source n (not-false _ (or_left_false (not (ltb e.source n)) (not (ltb e.sink n)) none)),
  ltb-true e.sink n (not-false _ (or_right_false (not (ltb e.source n)) (not (ltb e.sink n)) none)),
)

-- what holds of the edge at each place holds of each edge
of_members : (P : Edge → Type 0) (es : List Edge) → ((j : ℕ) → j < length es → P (edge_in es j)) → (e : Edge) → e ∈ es → P e
unfolding edge_in
of_members P es each e m =
    let r = member-place no_edge m in
    subst P r.2 (each r.0 r.1)

delays-small : (s : List ℕ) (at n : ℕ) → (e : Edge) → e ∈ edges_from s at n → e.delay ≤ 255
delays-small s at n =
    of_members (λ e. e.delay ≤ 255) (edges_from s at n)
    (λ j l.
    let below : (edge_at s (record_start at j)).delay < 256 = delay-below s (record_start at j) in
    subst (λ (e : Edge). e.delay ≤ 255) (edge-from s at n j (subst (λ (k : ℕ). j < k) (edges-from-count s at n) l)) (omega (arith, below)))

-- ── Proposals ──

pub proposal-formed : ProposalFormed
unfolding proposal_refusal proposed_edges_refusal proposal_of ends_refusal
proposal-formed n s passed =
    let es : List Edge = proposal_of s in
    let frame = proposal-frame-passed s (head_passed (proposal_frame_refusal s) _ passed) in
    let records = head_passed (proposed_edges_refusal n es) _ (tail-passed (proposal_frame_refusal s) _ passed) in
    let ends = head_passed (first_of (length es) (ends_refusal n es)) _ records in
    let apart = head_passed (first_of (length es) (repeat_refusal es)) _ (tail-passed (first_of (length es) (ends_refusal n es)) _ records) in
    record {
      few = subst (λ (k : ℕ). k ≤ 256) (sym (proposal-count s)) frame.at-most-256;
      ends = of_members (λ e. (e.source < n) × (e.sink < n)) es
          (λ j l. inside_of n (edge_in es j) (check-passed (end_outside n (edge_in es j)) 6 (suc j) (λ z. omega arith) (every-passed (length es) (ends_refusal n es) ends j l)));
      delays = delays-small s proposal_header_bits _;
      distinct = no-repeats es apart;
    }

-- ── Graphs ──

processor-small : (s : List ℕ) (v : ℕ) → v < length (graph_of s).tasks → processor_of (graph_of s).tasks v < 16
unfolding processor_of
processor-small s v l =
    subst (λ (t : Task). t.processor < 16) (task-is s v (subst (λ (k : ℕ). v < k) (task-count s) l)) (processor-below s (record_start graph_header_bits v))

time-fits : (s : List ℕ) (v : ℕ) → v < length (graph_of s).tasks → (time_refusal (graph_of s) v).number ≡ 0 → (1 ≤ time_of (graph_of s) v) × (time_of (graph_of s) v ≤ 65535)
unfolding time_refusal time_of
time-fits s v l none =
    let some : time_of (graph_of s) v ≢ 0 = eqb-false _ _ (check-passed (eqb (time_of (graph_of s) v) 0) 5 v (λ z. omega arith) none) in
    let below : time_of (graph_of s) v < 65536
    = subst (λ (t : Task). t.time < 65536) (task-is s v (subst (λ (k : ℕ). v < k) (task-count s) l)) (time-below s (record_start graph_header_bits v)) in
    (positive (time_of (graph_of s) v) some, omega (arith, below))
  where
    positive : (n : ℕ) → n ≢ 0 → 1 ≤ n
    positive zero some = absurd (some refl)
    positive (suc n) some = omega arith

ends-inside : (ts : List Task) (es : List Edge) (j : ℕ) → (edge_refusal ts es j).number ≡ 0 → ((edge_in es j).source < length ts) × ((edge_in es j).sink < length ts)
unfolding edge_refusal ends_refusal
ends-inside ts es j none =
    inside_of (length ts) (edge_in es j) (check-passed (end_outside (length ts) (edge_in es j)) 6 (suc j) (λ z. omega arith) (head_passed (ends_refusal (length ts) es j) _ none))

apart-processors : (ts : List Task) (es : List Edge) (j : ℕ) → (edge_refusal ts es j).number ≡ 0
    → processor_of ts (edge_in es j).source ≢ processor_of ts (edge_in es j).sink
unfolding edge_refusal within_processor
apart-processors ts es j none =
    eqb-false _ _
    (check-passed (within_processor ts (edge_in es j)) 7 (suc j) (λ z. omega arith)
    (head_passed (refuse (within_processor ts (edge_in es j)) 7 (suc j)) [] (tail-passed (ends_refusal (length ts) es j) _ none)))

file-delays : (s : List ℕ) → (e : Edge) → e ∈ (graph_of s).syncs → e.delay ≤ 255
unfolding graph_of
file-delays s = delays-small s (record_start graph_header_bits (task_count s)) (edge_count s)

header-below : (s : List ℕ) (v : ℕ) → v < task_count s → v < length (graph_of s).tasks
header-below s v l = subst (λ (k : ℕ). v < k) (sym (task-count s)) l

input-inside : (s : List ℕ) → (graph_header s).input < task_count s → (graph_of s).input < length (graph_of s).tasks
unfolding graph_of
input-inside s l = header-below s (graph_header s).input l

output-inside : (s : List ℕ) → (graph_header s).output < task_count s → (graph_of s).output < length (graph_of s).tasks
unfolding graph_of
output-inside s l = header-below s (graph_header s).output l

bound-small : (s : List ℕ) → (graph_of s).bound < 2 ^ 23
unfolding graph_of graph_header
bound-small s = field_below s 33 23

pub graph-formed : GraphFormed
unfolding graph_refusal graph_records_refusal
graph-formed s passed =
    let g : Graph = graph_of s in
    let ts : List Task = (graph_of s).tasks in
    let es : List Edge = (graph_of s).syncs in
    let frame = graph-frame-passed s (head_passed (graph_frame_refusal s) _ passed) in
    let records = head_passed (graph_records_refusal g) _ (tail-passed (graph_frame_refusal s) _ passed) in
    let times = head_passed (first_of (length ts) (time_refusal g)) _ records in
    let after = tail-passed (first_of (length ts) (time_refusal g)) _ records in
    let edge-checks = head_passed (first_of (length es) (edge_refusal ts es)) _ after in
    let apart = head_passed (first_of (length es) (repeat_refusal es)) _ (tail-passed (first_of (length es) (edge_refusal ts es)) _ after) in
    record {
      two_tasks = subst (λ (k : ℕ). 2 ≤ k) (sym (task-count s)) frame.two_tasks;
      at_most_64 = subst (λ (k : ℕ). k ≤ 64) (sym (task-count s)) frame.at_most_64;
      processors = λ v l. processor-small s v l;
      times = λ v l. time-fits s v l (every-passed (length ts) (time_refusal g) times v l);
      syncs_formed =
          record {
            few = subst (λ (k : ℕ). k ≤ 256) (sym (sync-count s)) frame.at-most-256;
            ends = of_members (λ e. (e.source < length ts) × (e.sink < length ts)) es (λ j l. ends-inside ts es j (every-passed (length es) (edge_refusal ts es) edge-checks j l));
            delays = file-delays s;
            distinct = no-repeats es apart;
          };
      between_processors =
          of_members (λ e. processor_of ts e.source ≢ processor_of ts e.sink) es (λ j l. apart-processors ts es j (every-passed (length es) (edge_refusal ts es) edge-checks j l));
      input_below = input-inside s frame.input_below;
      output_below = output-inside s frame.output_below;
      bound_fits = bound-small s;
    }
