-- The plan call: when it is given, what it leaves in the lent list, and that what it writes and tells is the plan.
use mathlib.Core.Path.{◌≡◌, refl, sym, ap, ◌∙◌, subst}
use mathlib.Core.Logic.{◌⊎◌, inl, inr, ◌≢◌}
use mathlib.Core.Bool.{not}
use mathlib.Core.List.{List, [], ◌∷◌, ◌++◌}
use Prim.Native.Nat.{ℕ, ◌≤◌}
use native.Mathlib.Omega.{arith}
use lib.ListN.{length, get_or, drop}
use Rattle.model.specs.Tasks.{Edge}
use Rattle.model.specs.Graph.{Graph, time_of}
use Rattle.model.specs.Paths.{Latency}
use Rattle.model.specs.Compute.{is_feedback}
use Rattle.model.specs.Proposals.{AcceptedGraph}
use Rattle.model.specs.Plan.{present_edges, Plan, plan_of, plan_latency}
use Rattle.model.proofs.Plans.{length-keep, stage-shrinks, plan-is, plan-latency-is}
use Rattle.layout.specs.declared.EdgeRecord.{EdgeRecord}
use Rattle.records.specs.Columns.{edge_of}
use Rattle.files.specs.Files.{graph_of}
use Rattle.files.specs.Refusals.{not_refused, if_passed}
use Rattle.files.proofs.First.{none-refused, zero_or_not, if-passed, if-refused}
use Rattle.acceptance.proofs.Rooms.{accepted-given, accepted-short}
use Rattle.acceptance.proofs.Written.{kept-past}
use Rattle.stages.specs.Stages.{records_of, written_into, listed}
use Rattle.records.specs.Columns.{record_of}
use Rattle.stages.proofs.Listed.{records-length}
use Rattle.plan.specs.Plan.{plan_refusal, plan_answer_of, plan_after}
use Rattle.plan.specs.Theorems.{PlanGiven, PlanShort, PlanRefused, PlanKept, PlanPast, PlanMeans}

-- ── When it is given ──

pub plan_given : PlanGiven
unfolding plan_refusal
plan_given s room = accepted-given (length (graph_of s).syncs) room s

pub plan-short : PlanShort
unfolding plan_refusal
plan-short s room = accepted-short (length (graph_of s).syncs) room s

-- where nothing is refused there is no place
pub plan-plain : (s : List ℕ) (room : ℕ) → (plan_refusal s room).number ≡ 0 → plan_refusal s room ≡ not_refused
unfolding plan_refusal
plan-plain s room = none-refused _

pub plan_refused : PlanRefused
unfolding plan_answer_of
plan_refused s room some = (if-refused n _ 0 some, if-refused n _ 0 some, if-refused n _ 0 some)
  where
    n : ℕ
    n = (plan_refusal s room).number

-- ── What it leaves ──

pub plan_kept : PlanKept
unfolding plan_after
plan_kept s list some = if-refused (plan_refusal s (length list)).number _ list some

-- no more edges than the file has
pub plan_few : (g : Graph) → AcceptedGraph g → length (plan_of g).list ≤ length g.syncs
plan_few g accepted =
    let together = stage-shrinks g (plan_of g).steps (plan_of g).list (plan-is g accepted).stage in
    let fewer = length-keep (λ e. not (is_feedback g e)) g.syncs in
    omega (arith, together, fewer)

-- what is written reads as it was
listed-written : (es : List Edge) (list : List EdgeRecord) → listed (length es) (records_of es ++ list) ≡ es
unfolding records_of record_of listed edge_of
listed-written [] list = refl
listed-written (e ∷ es) list = ap (λ (rest : List Edge). e ∷ rest) (listed-written es list)

module _ (s : List ℕ) (list : List EdgeRecord) where
  abbrev n : ℕ
  n = (plan_refusal s (length list)).number

  abbrev es : List Edge
  es = (plan_of (graph_of s)).list

  pub plan-past-of : (missing : EdgeRecord) →
      (length (plan_after s list) ≡ length list) ×
      ((i : ℕ) → (plan_answer_of s (length list)).length ≤ i → get_or (plan_after s list) i missing ≡ get_or list i missing)
  unfolding plan_after plan_answer_of written_into
  plan-past-of missing = go (zero_or_not n)
    where
      all :
          (length (if_passed n (records_of es ++ drop (length es) list) list) ≡ length list) ×
          ((i : ℕ) → length es ≤ i → get_or (if_passed n (records_of es ++ drop (length es) list) list) i missing ≡ get_or list i missing)
      all = kept-past missing n (length es) (records_of es) list (records-length es)
          (λ none. let h = (plan_given s (length list)).0 none in let few = plan_few (graph_of s) h.0.1 in let room = h.1 in omega (arith, few, room))

      go : (n ≡ 0) ⊎ (n ≢ 0) →
          (length (if_passed n (records_of es ++ drop (length es) list) list) ≡ length list) ×
          ((i : ℕ) → if_passed n (length es) 0 ≤ i → get_or (if_passed n (records_of es ++ drop (length es) list) list) i missing ≡ get_or list i missing)
      go (inl none) = (all.0, λ i past. all.1 i (subst (λ (k : ℕ). k ≤ i) (if-passed n (length es) 0 none) past))
      go (inr some) = (all.0, λ i past. ap (λ (xs : List EdgeRecord). get_or xs i missing) (if-refused n _ list some))

pub plan_past : PlanPast
plan_past s list missing = plan-past-of s list missing

-- ── What it gives ──

module _ (s : List ℕ) (list : List EdgeRecord) (none : (plan_refusal s (length list)).number ≡ 0) where
  abbrev g : Graph
  g = graph_of s

  accepted : AcceptedGraph g
  accepted = ((plan_given s (length list)).0 none).0.1

  -- the answer's fields, and the list, of a call that is not refused
  pub length-told : (plan_answer_of s (length list)).length ≡ length (plan_of g).list
  unfolding plan_answer_of
  length-told = if-passed (plan_refusal s (length list)).number _ 0 none

  pub steps-told : (plan_answer_of s (length list)).steps ≡ (plan_of g).steps
  unfolding plan_answer_of
  steps-told = if-passed (plan_refusal s (length list)).number _ 0 none

  pub latency-told : (plan_answer_of s (length list)).latency ≡ plan_latency g
  unfolding plan_answer_of
  latency-told = if-passed (plan_refusal s (length list)).number _ 0 none

  pub edges-listed : listed (plan_answer_of s (length list)).length (plan_after s list) ≡ (plan_of g).list
  unfolding plan_after written_into
  edges-listed =
      (λ i. listed (length-told i) (if-passed (plan_refusal s (length list)).number (written_into list (plan_of g).list) list none i)) ∙
      listed-written (plan_of g).list (drop (length (plan_of g).list) list)

pub plan-means : PlanMeans
plan-means s list none = (
  subst (λ (k : ℕ). Plan g k (listed (plan_answer_of s (length list)).length (plan_after s list))) (sym steps)
      (subst (λ (es : List Edge). Plan g (plan_of g).steps es) (sym read) (plan-is g accepted)),
  ap length read ∙ sym (length-told s list none),
  subst (λ (l : ℕ). Latency (present_edges g (listed (plan_answer_of s (length list)).length (plan_after s list))) (time_of g) g.output l) (sym late)
      (subst (λ (es : List Edge). Latency (present_edges g es) (time_of g) g.output (plan_latency g)) (sym read) (plan-latency-is g accepted)),
)
  where
    g : Graph
    g = graph_of s

    accepted : AcceptedGraph g
    accepted = ((plan_given s (length list)).0 none).0.1

    read : listed (plan_answer_of s (length list)).length (plan_after s list) ≡ (plan_of g).list
    read = edges-listed s list none

    steps : (plan_answer_of s (length list)).steps ≡ (plan_of g).steps
    steps = steps-told s list none

    late : (plan_answer_of s (length list)).latency ≡ plan_latency g
    late = latency-told s list none
