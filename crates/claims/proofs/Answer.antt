-- The number of a verdict: it is that of the chain of checks. Numbers from 13 on, and 0, come only if the graph is accepted and the proposal well-formed;
-- then the number is that of the proposed edges, which are sentenced by their result's cycles, runs and lateness.
use mathlib.Core.Path.{◌≡◌, refl, sym, ◌∙◌}
use mathlib.Core.Logic.{◌↔◌, ◌⊎◌, inl, inr, ◌≢◌}
use mathlib.Core.List.{List, [], ◌∷◌}
use Prim.Native.Nat.{ℕ, ◌≤◌, ◌<◌}
use native.Mathlib.Omega.{arith}
use Rattle.model.specs.Graph.{WellFormedEdges, count}
use Rattle.files.specs.declared.Refusal.{Refusal}
use Rattle.files.specs.Files.{graph_of, proposal_of, proposal_refusal}
use Rattle.files.specs.Refusals.{first}
use Rattle.files.proofs.First.{passes, stops, number_same, zero_or_not}
use Rattle.files.proofs.Numbers.{proposal-numbers}
use Rattle.readings.proofs.Accepted.{proposal-formed}
use Rattle.readings.proofs.Passed.{head_passed, tail-passed}
use Rattle.acceptance.specs.Acceptance.{acceptance_refusal}
use Rattle.acceptance.specs.Outcomes.{tasks_of}
use Rattle.acceptance.specs.Theorems.{AcceptedFile}
use Rattle.acceptance.proofs.Judged.{accepted-iff-passed}
use Rattle.acceptance.proofs.Rooms.{up-to-12}
use Rattle.judgement.specs.Judgement.{judged_refusal}
use Rattle.judgement.specs.Theorems.{Sentenced}
use Rattle.judgement.proofs.Meanings.{sentenced-iff}
use Rattle.verdict.specs.Verdict.{verdict_of, verdict_refusal, told_late}
use Rattle.verdict.proofs.Answers.{chain}
use Rattle.claims.specs.Demand3.{WellFormedFile}

-- a number above all those of a check is not that check's
passed-by : {limit : ℕ} (r : Refusal) (rs : List Refusal) → r.number ≤ limit → limit < (first (r ∷ rs)).number → r.number ≡ 0
passed-by {limit} r rs low high = go (zero_or_not r.number)
  where
    go : (r.number ≡ 0) ⊎ (r.number ≢ 0) → r.number ≡ 0
    go (inl none) = none
    go (inr some) =
        let same : (first (r ∷ rs)).number ≡ r.number = number_same (stops r rs some) in
        absurd (omega arith)

module _ (s p : List ℕ) where
  pub number_is : (verdict_of s p).outcome.number ≡ (verdict_refusal s p).number
  unfolding verdict_of told_late
  number_is = refl

  -- what the proposed edges get
  abbrev judged : Refusal
  judged = judged_refusal (graph_of s) (proposal_of p)

  whole : verdict_refusal s p ≡ first (acceptance_refusal s ∷ proposal_refusal (tasks_of s) p ∷ judged ∷ [])
  unfolding verdict_refusal
  whole = refl

  -- 13 and above come from the last check alone
  pub only-judged : 13 ≤ (verdict_of s p).outcome.number → AcceptedFile s × WellFormedFile s p
  only-judged high =
      let above-12 : 12 < (first (acceptance_refusal s ∷ proposal_refusal (tasks_of s) p ∷ judged ∷ [])).number = omega (arith, high, number_is ∙ number_same whole) in
      let graph = passed-by (acceptance_refusal s) (proposal_refusal (tasks_of s) p ∷ judged ∷ []) (up-to-12 s) above-12 in
      let rest = number_same (passes (acceptance_refusal s) (proposal_refusal (tasks_of s) p ∷ judged ∷ []) graph) in
      let above-8 : 8 < (first (proposal_refusal (tasks_of s) p ∷ judged ∷ [])).number = omega (arith, above-12, rest) in
      ((accepted-iff-passed s).0 graph, passed-by (proposal_refusal (tasks_of s) p) (judged ∷ []) (proposal-numbers (tasks_of s) p) above-8)

  -- what is accepted passed every check
  pub all-passed : (verdict_of s p).outcome.number ≡ 0 → AcceptedFile s × WellFormedFile s p
  all-passed none =
      let passed = sym (number_is ∙ number_same whole) ∙ none in
      ((accepted-iff-passed s).0 (head_passed (acceptance_refusal s) _ passed), head_passed (proposal_refusal (tasks_of s) p) _ (tail-passed (acceptance_refusal s) _ passed))

  module _ (graph : AcceptedFile s) (formed : WellFormedFile s p) where
    pub refusal-judged : verdict_refusal s p ≡ judged_refusal (graph_of s) (proposal_of p)
    refusal-judged = chain s p ((accepted-iff-passed s).1 graph) formed

    pub number-judged : (verdict_of s p).outcome.number ≡ (judged_refusal (graph_of s) (proposal_of p)).number
    number-judged = number_is ∙ number_same refusal-judged

    pub edges-formed : WellFormedEdges (count (graph_of s)) (proposal_of p)
    unfolding tasks_of
    edges-formed = proposal-formed (tasks_of s) p formed

    pub sentenced : (m : ℕ) → ((verdict_of s p).outcome.number ≡ m) ↔ Sentenced (graph_of s) (proposal_of p) m
    sentenced m =
        let iff = sentenced-iff (graph_of s) (proposal_of p) graph.1 edges-formed m in
        (λ is. iff.0 (sym number-judged ∙ is), λ because. number-judged ∙ iff.1 because)
