-- The plan by steps: the loop stands at a stage of the plan, as many steps after the first as it counted, and ends where there is no step.
use mathlib.Core.Path.{◌≡◌, refl, sym, ap, ◌∙◌, subst}
use mathlib.Core.Bool.{not}
use mathlib.Core.List.{List}
use mathlib.Core.Option.{none}
use Prim.Native.Nat.{ℕ, suc, ◌+◌, ◌≤◌, ◌<◌}
use native.Mathlib.Numerals.{add-one}
use native.Mathlib.Omega.{arith}
use lib.ListN.{length, get_or}
use Rattle.model.specs.Tasks.{Edge}
use Rattle.model.specs.Graph.{Graph, count, time_of}
use Rattle.model.specs.Compute.{is_feedback, latency, latency_of}
use Rattle.model.specs.Proposals.{result, AcceptedGraph}
use Rattle.model.specs.Plan.{present_edges, replaced, first_stage, Stage, at_first, step, Planned, plan_of, plan_latency}
use Rattle.model.proofs.Choices.{step_is}
use Rattle.model.proofs.Stages.{step-lowers, stage-accepted}
use Rattle.model.proofs.Plans.{length-keep, stage-shrinks, stage-off-cycles, stage-next, plan-next}
use Rattle.records.proofs.Fill.{get_d_tabulate}
use Rattle.stages.specs.declared.StageEdges.{StageEdges}
use Rattle.stages.specs.Stages.{HeldStage}
use Rattle.latest.specs.Latest.{earliest_ends}
use Rattle.prepared.specs.Ready.{Ready}
use Rattle.present.specs.declared.Precedence.{Precedence}
use Rattle.present.specs.Present.{Staged, Ordered, Timed, Adding}
use Rattle.present.proofs.Ordering.{timed-sizes}
use Rattle.steps.specs.declared.StepTaken.{StepTaken}
use Rattle.steps.specs.Steps.{Here, Taken, Begun, Followed}

-- where the loop stands: at a stage of the plan, with its delays, counts and times
pub record Standing (g : Graph) (steps : ℕ) (time : List ℕ) (stage : StageEdges) (from to counts : List ℕ) (o : Precedence) (end latest : List ℕ) : Type 0 where
  pub list : List Edge
  pub reached : Stage g steps list
  pub held : HeldStage stage list
  pub ready : Ready g list from to counts
  pub ordered : Ordered g list time o
  pub timed : Timed g list end latest

module _
    {g : Graph} {time : List ℕ} {first : StageEdges} {from₀ to₀ counts₀ : List ℕ} {o₀ : Precedence} {end₀ latest₀ : List ℕ}
    (begun : Begun g time first from₀ to₀ counts₀ o₀ end₀ latest₀)
  where
    accepted : AcceptedGraph g
    accepted = begun.here.staged.graph

    abbrev output : ℕ
    output = o₀.output

    pub standing-first : Standing g 0 time first from₀ to₀ counts₀ o₀ end₀ latest₀
    standing-first = record {
      list = first_stage g;
      reached = at_first refl refl;
      held = begun.here.held;
      ready = begun.here.ready;
      ordered = begun.ordered;
      timed = begun.here.timed;
    }

    staged-at : {steps : ℕ} {list : List Edge} → Stage g steps list → Staged g list
    staged-at {steps} {list} reached =
        let both = stage-accepted g accepted steps list reached in
        record { graph = accepted; formed = both.0; accepted = both.1 }

    -- there are fewer steps than edges at first
    steps-few : {steps : ℕ} {list : List Edge} → Stage g steps list → steps ≤ 256
    steps-few {steps} {list} reached =
        let shrunk = stage-shrinks g steps list reached in
        let fewer = length-keep (λ e. not (is_feedback g e)) g.syncs in
        omega (arith, shrunk, fewer, accepted.formed.syncs_formed.few)

    module _
        {steps : ℕ} {stage : StageEdges} {from to counts : List ℕ} {o : Precedence} {end latest : List ℕ}
        (stands : Standing g steps time stage from to counts o end latest)
      where
        pub here-now : Here g stands.list (length time) stage from to counts end latest
        here-now = record {
          as_many = begun.ordered.clocked.as_many;
          staged = staged-at stands.reached;
          held = stands.held;
          ready = stands.ready;
          timed = stands.timed;
        }

        pub steps-small : steps ≤ 256
        steps-small = steps-few stands.reached

        -- ── After a step ──

        module _
            {taken : StepTaken} {stage' : StageEdges} {from' to' counts' : List ℕ}
            (taken-now : Taken g stands.list taken stage' from' to' counts')
          where
            next : List Edge
            next = replaced g stands.list taken.source taken.sink

            next-stage : Stage g (suc steps) next
            unfolding next
            next-stage = stage-next g accepted stands.reached taken-now.found

            pub adding : Adding g stands.list taken.source taken.sink time o end latest
            unfolding next
            adding = record {
              now_staged = staged-at stands.reached;
              next_staged = staged-at next-stage;
              pair = taken-now.candidate;
              ordered = stands.ordered;
              timed = stands.timed;
            }

            pub standing-next :
                {o' : Precedence} {end' latest' : List ℕ} → Ordered g (replaced g stands.list taken.source taken.sink) time o' →
                Timed g (replaced g stands.list taken.source taken.sink) end' latest' →
                Standing g (steps + 1) time stage' from' to' counts' o' end' latest'
            unfolding next
            standing-next ordered timed = record {
              list = next;
              reached = subst (λ (k : ℕ). Stage g k next) (sym (add-one steps)) next-stage;
              held = taken-now.held;
              ready = taken-now.ready;
              ordered = ordered;
              timed = timed;
            }

            -- each step lowers the number of edges
            pub fewer-edges : stage'.count < stage.count
            unfolding next
            fewer-edges =
                let off = stage-off-cycles g accepted stands.reached in
                let lower = step-lowers g stands.list next ((step_is g stands.list off next).0 taken-now.found) in
                let before = stands.held.as_many in
                let after = taken-now.held.as_many in
                omega arith

        -- ── The end ──

        -- the output's end is the latency
        latency_is : get_or end output 0 ≡ latency_of (result g stands.list)
        unfolding earliest_ends latency_of present_edges time_of result
        latency_is =
            let there : output < count g = omega (arith, begun.ordered.clocked.output_is, accepted.formed.output_below) in
            ap (λ (xs : List ℕ). get_or xs output 0) stands.timed.end_is ∙
            (get_d_tabulate (count g) (latency (count g) (present_edges g stands.list) (time_of g)) 0 output there ∙
            ap (latency (count g) (present_edges g stands.list) (time_of g)) begun.ordered.clocked.output_is)

        pub output-there : output < length end
        output-there = omega (arith, begun.ordered.clocked.output_is, accepted.formed.output_below, (timed-sizes stands.timed).0)

        pub followed :
            {stage' : StageEdges} → step g stands.list ≡ none → HeldStage stage' stands.list →
            Followed g (record { steps = steps; latency = get_or end output 0 }) stage'
        unfolding plan_latency
        followed {stage'} over held =
            let found : plan_of g ≡ record { list = stands.list; steps = steps }
            = plan-next g accepted steps stands.list stands.reached over in
            record {
              steps = ap (λ (p : Planned). p.steps) (sym found);
              latency = latency_is ∙ ap (λ (p : Planned). latency_of (result g p.list)) (sym found);
              held = subst (λ (p : Planned). HeldStage stage' p.list) (sym found) held;
            }
