-- Document 01, "What the calls hand over": "The plan follows Figure 10." A stage of the plan is the list of edges that stand where the graph's
-- feedforward edges stood. The present graph of a stage is the result of that list: processor and feedback edges, and the list.
use Rattle.std.specs.Prelude.{◌≡◌, ◌⊎◌, ◌≢◌, Bool, true, false, not, ◌&&◌, List, [], ◌∷◌, ◌++◌, ℕ, zero, suc, ◌+◌, ◌≤◌, ◌<◌, leb, eqb, length}
use Rattle.std.proofs.Math.Option.{Option, none, some}
use Rattle.model.specs.Lists.{keep, keep_places, counted, biggest_below, first_from}
use Rattle.model.specs.Tasks.{Edge}
use Rattle.model.specs.Graph.{Graph, count, edges, time_of}
use Rattle.model.specs.Paths.{Path, Least, Latency, sync_at}
use Rattle.model.specs.Compute.{plus, at_most, present, least_delay, is_redundant, is_feedback, latency_of}
use Rattle.model.specs.Proposals.{result}

-- the edges that order the present graph
unfoldable pub present_edges : Graph → List Edge → List Edge
unfolding edges result
present_edges g list = edges (result g list)

-- "Drop the redundant feedforward edges first": the other feedforward edges, in the file's sequence
unfoldable pub first_stage : Graph → List Edge
unfolding keep_places is_redundant is_feedback sync_at
first_stage g = keep_places (λ i. not (is_redundant g i) && not (is_feedback g (sync_at g i))) 0 g.syncs

-- "a pair (a, b), delay 0", as an edge
unfoldable pub pair_edge : ℕ → ℕ → Edge
pair_edge a b = record { source = a; sink = b; delay = 0 }

-- the list with the pair added last
unfoldable pub with_pair : List Edge → ℕ → ℕ → List Edge
unfolding pair_edge
with_pair list a b = list ++ (pair_edge a b ∷ [])

-- "A candidate is a pair (a, b), delay 0, with no path from b to a, whose addition leaves latency within the bound."
pub record Candidate (g : Graph) (list : List Edge) (a b : ℕ) : Type 0 where
  pub source_task : a < count g
  pub sink_task : b < count g
  pub no_path_back : (d : ℕ) → Path (present_edges g list) b a d → ⊥
  pub in_time : (l : ℕ) × Latency (present_edges g (with_pair list a b)) (time_of g) g.output l × (l ≤ g.bound)

-- the least delay from a to b, "a task counting 0 to itself here"
pub data Counts (es : List Edge) (a b : ℕ) : ℕ → Type 0 where
  itself : {d : ℕ} → a ≡ b → d ≡ 0 → Counts es a b d
  least : {d : ℕ} → a ≢ b → Least es a b (some d) → Counts es a b d

-- "It subsumes an edge (s, t) if least delay s to a plus least delay b to t is at most that edge's delay"
pub record Subsumes (es : List Edge) (a b : ℕ) (e : Edge) : Type 0 where
  pub before : ℕ
  pub after : ℕ
  pub to_source : Counts es e.source a before
  pub from_sink : Counts es b e.sink after
  pub within : before + after ≤ e.delay

-- ── What computes these: `subsumes` and `is_candidate` are proved to decide Subsumes and Candidate ──

unfoldable pub if_same : Bool → Option ℕ → Option ℕ
if_same true d = some 0
if_same false d = d

-- the least delay from a to b among n tasks, 0 from a task to itself
unfoldable pub counting : ℕ → List Edge → ℕ → ℕ → Option ℕ
unfolding if_same least_delay
counting n es a b = if_same (eqb a b) (least_delay n es a b)

unfoldable pub subsumes : ℕ → List Edge → ℕ → ℕ → Edge → Bool
unfolding at_most plus counting
subsumes n es a b e = at_most (plus (counting n es e.source a) (counting n es b e.sink)) e.delay

unfoldable pub is_candidate : Graph → List Edge → ℕ → ℕ → Bool
unfolding present least_delay present_edges latency_of result with_pair
is_candidate g list a b = not (present (least_delay (count g) (present_edges g list) b a)) && leb (latency_of (result g (with_pair list a b))) g.bound

-- ── A step ──

-- how many edges of the list a pair subsumes: `subsumes` tests Subsumes (`SubsumesIs`). A candidate subsumes no feedback edge (`FeedbackNotSubsumed`).
unfoldable pub gain : Graph → List Edge → ℕ → ℕ → ℕ
unfolding keep subsumes present_edges
gain g list a b = length (keep (subsumes (count g) (present_edges g list) a b) list)

-- "Each step takes the candidate that subsumes most edges, ties to the smaller a and then the smaller b [..]. Only a candidate that subsumes two or
-- more is taken"
pub record Chosen (g : Graph) (list : List Edge) (a b : ℕ) : Type 0 where
  pub candidate : Candidate g list a b
  pub two_or_more : 2 ≤ gain g list a b
  pub most : (a' b' : ℕ) → Candidate g list a' b' → gain g list a' b' ≤ gain g list a b
  pub ties : (a' b' : ℕ) → Candidate g list a' b' → gain g list a' b' ≡ gain g list a b → (a < a') ⊎ ((a ≡ a') × (b ≤ b'))

-- "adds it last and drops what it subsumes"
unfoldable pub replaced : Graph → List Edge → ℕ → ℕ → List Edge
unfolding with_pair keep subsumes present_edges
replaced g list a b = with_pair (keep (λ e. not (subsumes (count g) (present_edges g list) a b e)) list) a b

-- one step, from a stage to the next
pub record Step (g : Graph) (list next : List Edge) : Type 0 where
  pub source : ℕ
  pub sink : ℕ
  pub chosen : Chosen g list source sink
  pub next_is : next ≡ replaced g list source sink

-- no candidate subsumes two
abbrev pub NoStep : Graph → List Edge → Type 0
NoStep g list = (a b : ℕ) → Candidate g list a b → gain g list a b < 2

-- ── The plan ──

-- the stages of a graph's plan, and how many steps lead to each: "The plan lists the feedforward edges left, file sequence first, then added ones."
pub data Stage (g : Graph) : ℕ → List Edge → Type 0 where
  at_first : {k : ℕ} {list : List Edge} → k ≡ 0 → list ≡ first_stage g → Stage g k list
  then_step : {k : ℕ} {list next : List Edge} → Stage g k list → Step g list next → Stage g (suc k) next

-- the plan: the stage from which there is no step
pub record Plan (g : Graph) (steps : ℕ) (list : List Edge) : Type 0 where
  pub stage : Stage g steps list
  pub finished : NoStep g list

-- ── What computes these: `step` and `plan_of` are proved to give Step and Plan ──

-- what taking a pair is worth: what it subsumes if it is a candidate, otherwise nothing
unfoldable pub worth : Graph → List Edge → ℕ → ℕ → ℕ
unfolding counted is_candidate gain
worth g list a b = counted (is_candidate g list a b) (gain g list a b)

-- the most that a pair out of a is worth, and the most that any pair is worth
unfoldable pub most_from : Graph → List Edge → ℕ → ℕ
unfolding biggest_below worth
most_from g list a = biggest_below (count g) (worth g list a)

unfoldable pub most_worth : Graph → List Edge → ℕ
unfolding biggest_below most_from
most_worth g list = biggest_below (count g) (most_from g list)

-- the smallest a, and then the smallest b, of a pair worth m
unfoldable pub sink_found : Graph → List Edge → ℕ → Option ℕ → Option (List Edge)
unfolding replaced
sink_found g list a (some b) = some (replaced g list a b)
sink_found g list a none = none

unfoldable pub source_found : Graph → List Edge → ℕ → Option ℕ → Option (List Edge)
unfolding sink_found first_from worth
source_found g list m (some a) = sink_found g list a (first_from (λ b. eqb (worth g list a b) m) 0 (count g))
source_found g list m none = none

unfoldable pub if_many : Bool → Option (List Edge) → Option (List Edge)
if_many true next = next
if_many false next = none

-- the stage after one step, or none
unfoldable pub step : Graph → List Edge → Option (List Edge)
unfolding if_many most_worth source_found first_from most_from
step g list =
    if_many (leb 2 (most_worth g list)) (source_found g list (most_worth g list) (first_from (λ a. eqb (most_from g list a) (most_worth g list)) 0 (count g)))

-- "the answer gives its length, its steps and its latency"
pub record Planned : Type 0 where
  pub list : List Edge
  pub steps : ℕ

unfoldable pub after_step : Option (List Edge) → Planned → (List Edge → Planned) → Planned
after_step none here onward = here
after_step (some next) here onward = onward next

-- at most f steps from a stage, which k steps led to
unfoldable pub plan_from : ℕ → Graph → ℕ → List Edge → Planned
unfolding after_step step
plan_from zero g k list = record { list = list; steps = k }
plan_from (suc f) g k list = after_step (step g list) (record { list = list; steps = k }) (λ next. plan_from f g (suc k) next)

-- the plan of a graph: each step lowers the number of edges, so there are at most as many steps as edges at first
unfoldable pub plan_of : Graph → Planned
unfolding plan_from first_stage
plan_of g = plan_from (length (first_stage g)) g 0 (first_stage g)

-- the latency of the graph that the plan leads to
unfoldable pub plan_latency : Graph → ℕ
unfolding latency_of result plan_of
plan_latency g = latency_of (result g (plan_of g).list)
