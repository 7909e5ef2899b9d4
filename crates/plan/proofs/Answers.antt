-- What the plan's call answers is its definition's answer: zeros where something is refused, else the plan of the graph that was read. A plan has at most as
-- many edges as the file, so they fit the list; and what `fill` leaves in it is what the definition says.
use mathlib.Core.Path.{◌≡◌, sym, ap, ◌∙◌, subst}
use Rattle.std.proofs.Common.{Ok}
use mathlib.Core.List.{List, [], ◌∷◌}
use Prim.Native.Nat.{ℕ, ◌≤◌}
use native.Mathlib.Omega.{arith}
use lib.ListN.{length}
use Rattle.model.specs.Graph.{Graph}
use Rattle.model.specs.Plan.{plan_of, plan_latency}
use Rattle.layout.specs.declared.EdgeRecord.{EdgeRecord}
use Rattle.files.specs.declared.Fault.{Fault}
use Rattle.files.specs.declared.Refusal.{Refusal}
use Rattle.files.specs.Files.{graph_of}
use Rattle.files.specs.Refusals.{refusal_of, not_refused, if_passed}
use Rattle.files.proofs.First.{passes, one-check, number_same, fault-number, if-passed, if-refused}
use Rattle.readings.specs.Working.{graph_in}
use Rattle.acceptance.specs.declared.Acceptance.{Acceptance}
use Rattle.acceptance.specs.declared.Outcome.{Outcome}
use Rattle.acceptance.specs.Acceptance.{acceptance_refusal, Accepts}
use Rattle.acceptance.specs.Outcomes.{outcome, room_refusal}
use Rattle.acceptance.proofs.AcceptedFiles.{accepted-number, read-fronts, graph-held}
use Rattle.acceptance.proofs.Judged.{accepted-iff-passed}
use Rattle.acceptance.proofs.Rooms.{refused-earlier, room-there}
use Rattle.stages.specs.Stages.{written_into, listed}
use Rattle.plan.specs.declared.GraphPlan.{GraphPlan}
use Rattle.plan.specs.declared.PlanAnswer.{PlanAnswer}
use Rattle.plan.specs.Plan.{plan_refusal, plan_answer_of, plan_after, PlanFound}
use Rattle.plan.proofs.Meanings.{plan_few}

-- ── What is decided ──

module _ (s : List ℕ) (room : ℕ) where
  pub file-refused : (fault : Fault) → refusal_of fault ≡ acceptance_refusal s → refusal_of fault ≡ plan_refusal s room
  unfolding plan_refusal
  file-refused fault is =
      is ∙ sym (refused-earlier (acceptance_refusal s) (length (graph_of s).syncs) room (λ none. fault-number fault (number_same is ∙ none)))

  -- of an accepted file the room decides
  module _ {r : Acceptance} (given : Accepts s (Ok r)) where
    pub room-judged : {q : Refusal} → q ≡ room_refusal r.reading.edges room → q ≡ plan_refusal s room
    unfolding plan_refusal room_refusal
    room-judged judged =
        judged ∙
        (ap (λ (n : ℕ). room_refusal n room) (read-fronts s given).edges_are ∙
        sym (passes (acceptance_refusal s) (room_refusal (length (graph_of s).syncs) room ∷ []) (accepted-number s given) ∙ one-check _ 16 0 (λ z. omega arith)))

    pub plan-found : {w : GraphPlan} → PlanFound (graph_in r.reading) w → PlanFound (graph_of s) w
    plan-found {w} = subst (λ (g : Graph). PlanFound g w) (graph-held s given)

  -- ── What is answered ──

  module _ (fault : Fault) (is : refusal_of fault ≡ plan_refusal s room) where
    nothing : {A : Type 0} (read none : A) → none ≡ if_passed (plan_refusal s room).number read none
    nothing read none = sym (if-refused (plan_refusal s room).number read none (λ z. fault-number fault (number_same is ∙ z)))

    pub refused-answer : {o : Outcome} → o ≡ outcome (refusal_of fault) → ◌≡◌ {A = PlanAnswer} (record { outcome = o; length = 0; steps = 0; latency = 0 })
        (plan_answer_of s room)
    unfolding plan_answer_of
    refused-answer told = λ i. record {
      outcome = (told ∙ ap outcome is) i;
      length = nothing (length (plan_of (graph_of s)).list) 0 i;
      steps = nothing (plan_of (graph_of s)).steps 0 i;
      latency = nothing (plan_latency (graph_of s)) 0 i;
    }

  module _ (is : not_refused ≡ plan_refusal s room) {w : GraphPlan} (found : PlanFound (graph_of s) w) where
    none : (plan_refusal s room).number ≡ 0
    none = number_same (sym is)

    whole : {A : Type 0} (read other : A) → read ≡ if_passed (plan_refusal s room).number read other
    whole read other = sym (if-passed (plan_refusal s room).number read other none)

    pub passed-answer : {o : Outcome} → o ≡ outcome not_refused →
        ◌≡◌ {A = PlanAnswer} (record { outcome = o; length = w.stage.count; steps = w.steps; latency = w.latency }) (plan_answer_of s room)
    unfolding plan_answer_of
    passed-answer told = λ i. record {
      outcome = (told ∙ ap outcome is) i;
      length = (found.held.as_many ∙ whole (length (plan_of (graph_of s)).list) 0) i;
      steps = (found.steps ∙ whole (plan_of (graph_of s)).steps 0) i;
      latency = (found.latency ∙ whole (plan_latency (graph_of s)) 0) i;
    }

    -- the file is accepted, and the list has room for all its edges
    pub edges_fit : w.stage.count ≤ room
    unfolding plan_refusal
    edges_fit =
        let before = room-there (acceptance_refusal s) (length (graph_of s).syncs) room none in
        let few = plan_few (graph_of s) ((accepted-iff-passed s).0 before.0).1 in
        let enough = before.1 in
        omega (arith, found.held.as_many, few, enough)

-- ── What is written ──

module _ (s : List ℕ) (list : List EdgeRecord) where
  pub list-written : not_refused ≡ plan_refusal s (length list) → {w : GraphPlan} → PlanFound (graph_of s) w →
      written_into list (listed w.stage.count w.stage.edges) ≡ plan_after s list
  unfolding plan_after
  list-written is found =
      ap (written_into list) found.held.held ∙ whole s (length list) is found (written_into list (plan_of (graph_of s)).list) list

  pub list-kept : (fault : Fault) → refusal_of fault ≡ plan_refusal s (length list) → list ≡ plan_after s list
  unfolding plan_after
  list-kept fault is = nothing s (length list) fault is (written_into list (plan_of (graph_of s)).list) list
