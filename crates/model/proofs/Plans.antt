-- The plan: each step is the only one and lowers the number of edges, so the stages are one sequence, which ends, and what computes it takes the same
-- steps and ends where no step is left.
use mathlib.Core.Path.{◌≡◌, refl, sym, ap, ◌∙◌, subst}
use mathlib.Core.Logic.{◌⊎◌, inl, inr}
use mathlib.Core.Bool.{Bool, true, false, not, ◌&&◌}
use mathlib.Core.List.{List, [], ◌∷◌}
use mathlib.Core.Option.{Option, none, some}
use Prim.Native.Nat.{ℕ, zero, suc, ◌+◌, ◌≤◌, ◌<◌}
use native.Mathlib.Nat.{le_refl, le_antisymm, zero-add}
use native.Mathlib.Omega.{arith}
use lib.Dec.{T}
use lib.ListN.{length, get_or}
use Rattle.model.specs.Lists.{put, keep, keep_places}
use Rattle.model.specs.Tasks.{Edge, no_edge}
use Rattle.model.specs.Graph.{Graph, count}
use Rattle.model.specs.Paths.{sync_at}
use Rattle.model.specs.Compute.{is_redundant, is_feedback}
use Rattle.model.specs.Proposals.{AcceptedGraph}
use Rattle.model.specs.Theorems.{OffCycles}
use Rattle.model.specs.Plan.{first_stage, subsumes, present_edges, gain, Step, NoStep, Stage, at_first, then_step, Plan, step, Planned, after_step, plan_from, plan_of, plan_latency}
use Rattle.model.specs.PlanTheorems.{StageShrinks, PlanIs, PlanUnique, PlanLatencyIs}
use Rattle.model.proofs.Basics.{and_right, below_suc, order}
use Rattle.model.proofs.Accepted.{off-cycles-of}
use Rattle.model.proofs.Choices.{present-latency, step_is, no-step-is, step-unique}
use Rattle.model.proofs.Stages.{keep-lengths, step-lowers, stage-accepted}

-- ── How many elements are kept ──

module _ {A : Type 0} where
  pub length-keep : (t : A → Bool) (xs : List A) → length (keep t xs) ≤ length xs
  length-keep t xs = let parts = keep-lengths t xs in omega arith

  -- what is kept by places is no more than what is kept by a test that these places pass
  pub length-places : (t : ℕ → Bool) (s : A → Bool) (x₀ : A) (k : ℕ) (xs : List A) →
      ((i : ℕ) → i < length xs → T (t (k + i)) → T (s (get_or xs i x₀))) → length (keep_places t k xs) ≤ length (keep s xs)
  unfolding keep_places keep put
  length-places t s x₀ k [] passes = le_refl 0
  length-places t s x₀ k (x ∷ xs) passes =
      go (t k) (s x) (λ h. passes 0 (omega arith) (subst (λ (j : ℕ). T (t j)) (omega arith) h))
      (length-places t s x₀ (suc k) xs (λ i l h. passes (suc i) (omega arith) (subst (λ (j : ℕ). T (t j)) (omega arith) h)))
    where
      go : (b c : Bool) → (T b → T c) → length (keep_places t (suc k) xs) ≤ length (keep s xs) →
          length (put b x (keep_places t (suc k) xs)) ≤ length (put c x (keep s xs))
      go true true f h = omega arith
      go true false f h = absurd (f tt)
      go false true f h = omega arith
      go false false f h = h

-- ── Stages ──

module _ (g : Graph) where
  first-stage-few : length (first_stage g) ≤ length (keep (λ e. not (is_feedback g e)) g.syncs)
  unfolding first_stage sync_at
  first-stage-few =
      length-places t (λ e. not (is_feedback g e)) no_edge 0 g.syncs
      (λ i l h. and_right (not (is_redundant g i)) (not (is_feedback g (sync_at g i))) (subst (λ (j : ℕ). T (t j)) (zero-add i) h))
    where
      t : ℕ → Bool
      t i = not (is_redundant g i) && not (is_feedback g (sync_at g i))

  stage-shrinks-at : {k : ℕ} {list : List Edge} → Stage g k list → length list + k ≤ length (keep (λ e. not (is_feedback g e)) g.syncs)
  stage-shrinks-at (at_first z q) = let h = first-stage-few in let l = ap length q in omega arith
  stage-shrinks-at (then_step {list = list} {next = next} stage s) =
      let h = stage-shrinks-at stage in let l = step-lowers g list next s in omega arith

  -- there is one stage only after k steps
  stage-unique : {k k' : ℕ} {list list' : List Edge} → k ≡ k' → Stage g k list → Stage g k' list' → list ≡ list'
  stage-unique same (at_first z q) (at_first z' q') = q ∙ sym q'
  stage-unique same (at_first z q) (then_step stage' s') = absurd (omega arith)
  stage-unique same (then_step stage s) (at_first z' q') = absurd (omega arith)
  stage-unique same (then_step {list = list} {next = next} stage s) (then_step {next = next'} stage' s') =
      step-unique g list next next' s (subst (λ (x : List Edge). Step g x next') (sym (stage-unique (omega arith) stage stage')) s')

  -- the stage after k steps has a step
  abbrev Goes : ℕ → Type 0
  Goes k = (list : List Edge) × (next : List Edge) × Stage g k list × Step g list next

  -- every stage before another has one
  step-before : {k k' : ℕ} {list' : List Edge} → k < k' → Stage g k' list' → Goes k
  step-before l (at_first z q) = absurd (omega arith)
  step-before {k} l (then_step {k = j} {list = list} {next = next} stage s) = go (λ l'. step-before l' stage) (below_suc l)
    where
      go : (k < j → Goes k) → (k < j) ⊎ (k ≡ j) → Goes k
      go ih (inl l') = ih l'
      go ih (inr q) = (list, next, subst (λ (i : ℕ). Stage g i list) (sym q) stage, s)

  -- but a plan has none
  step-ends : {list next : List Edge} → NoStep g list → Step g list next → ⊥
  step-ends finished s =
      let h = finished s.source s.sink s.chosen.candidate in
      let two = s.chosen.two_or_more in
      omega arith

  -- so no stage comes after it
  plan-last : {k k' : ℕ} {list list' : List Edge} → Plan g k list → Stage g k' list' → k' ≤ k
  plan-last {k} {k'} plan stage' = go (order k' k)
    where
      go : (k' ≤ k) ⊎ (k < k') → k' ≤ k
      go (inl l) = l
      go (inr l) =
          let r = step-before l stage' in
          absurd (step-ends plan.finished (subst (λ (x : List Edge). Step g x r.1) (stage-unique refl r.2 plan.stage) r.3))

  -- without edges there is no step
  no-edge : {list : List Edge} → length list ≤ 0 → NoStep g list
  unfolding gain
  no-edge {list} few a b c = let h = length-keep (subsumes (count g) (present_edges g list) a b) list in omega arith

pub stage-shrinks : StageShrinks
stage-shrinks g k list stage = stage-shrinks-at g stage

-- ── The plan ──

pub plan-unique : PlanUnique
plan-unique g k k' list list' plan plan' = (same, stage-unique g same plan.stage plan'.stage)
  where
    same : k ≡ k'
    same = le_antisymm (plan-last g plan' plan.stage) (plan-last g plan plan'.stage)

-- no edge of a stage lies on a cycle
pub stage-off-cycles : (g : Graph) → AcceptedGraph g → {k : ℕ} {list : List Edge} → Stage g k list → OffCycles g list
stage-off-cycles g accepted {k} {list} stage =
    let r = stage-accepted g accepted k list stage in off-cycles-of g list accepted r.0 r.1.off_cycles

-- what was computed is the plan
abbrev Right : Graph → Planned → Type 0
Right g p = Plan g p.steps p.list

module _ (g : Graph) (accepted : AcceptedGraph g) where
  step-taken : {k : ℕ} {list next : List Edge} → Stage g k list → step g list ≡ some next → Step g list next
  step-taken {list = list} {next = next} stage q = (step_is g list (stage-off-cycles g accepted stage) next).0 q

  -- where the computed step leads is the next stage, and where there is none the plan ends
  pub stage-next : {k : ℕ} {list next : List Edge} → Stage g k list → step g list ≡ some next → Stage g (suc k) next
  stage-next stage q = then_step stage (step-taken stage q)

  pub stage-last : {k : ℕ} {list : List Edge} → Stage g k list → step g list ≡ none → Plan g k list
  stage-last {list = list} stage q =
      record { stage = stage; finished = (no-step-is g list (stage-off-cycles g accepted stage)).0 q }

  -- as many steps as the stage has edges suffice
  plan-from : (f k : ℕ) (list : List Edge) → Stage g k list → length list ≤ f → Right g (plan_from f g k list)
  unfolding plan_from after_step
  plan-from zero k list stage few = record { stage = stage; finished = no-edge g few }
  plan-from (suc f) k list stage few = go (plan-from f (suc k)) (step g list) refl
    where
      go : ((next : List Edge) → Stage g (suc k) next → length next ≤ f → Right g (plan_from f g (suc k) next)) →
          (o : Option (List Edge)) → step g list ≡ o → Right g (after_step o (record { list = list; steps = k }) (λ next. plan_from f g (suc k) next))
      go onward none q = stage-last stage q
      go onward (some next) q = let l = step-lowers g list next (step-taken stage q) in onward next (stage-next stage q) (omega arith)

  plan-right : Right g (plan_of g)
  unfolding plan_of
  plan-right = plan-from (length (first_stage g)) 0 (first_stage g) (at_first refl refl) (le_refl (length (first_stage g)))

  -- for a loop: the stage from which no step is computed is the plan
  pub plan-next : (k : ℕ) (list : List Edge) → Stage g k list → step g list ≡ none → plan_of g ≡ record { list = list; steps = k }
  plan-next k list stage q =
      let same = plan-unique g (plan_of g).steps k (plan_of g).list list plan-right (stage-last stage q) in
      λ i. record { list = same.1 i; steps = same.0 i }

pub plan-is : PlanIs
plan-is g accepted = plan-right g accepted

pub plan-latency-is : PlanLatencyIs
unfolding plan_latency
plan-latency-is g accepted =
    let plan = plan-is g accepted in
    present-latency g (plan_of g).list (stage-off-cycles g accepted plan.stage)
