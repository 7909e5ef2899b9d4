-- What `verdict` hands over is the answer of its contract: where the graph or the proposal's file is refused, the chain ends with that refusal,
-- which has neither latency nor margin; otherwise it ends with the judgement of the edges.
use mathlib.Core.Path.{◌≡◌, refl, sym, ap, ◌∙◌, subst}
use mathlib.Core.Logic.{◌⊎◌, inl, inr, ◌≢◌}
use mathlib.Core.List.{List}
use Rattle.std.proofs.Common.{Result, Ok}
use Prim.Native.Nat.{ℕ, ◌<◌}
use native.Mathlib.Omega.{arith}
use lib.IntN.{pos}
use Rattle.model.specs.Lists.{counted}
use Rattle.model.specs.Graph.{Graph, WellFormedEdges, count}
use Rattle.model.specs.Compute.{latency_of}
use Rattle.model.specs.Proposals.{result}
use Rattle.model.proofs.Tests.{decided, eqb-decides}
use Rattle.files.specs.declared.Fault.{Fault}
use Rattle.files.specs.declared.Refusal.{Refusal}
use Rattle.files.specs.Files.{graph_of, proposal_of, proposal_refusal}
use Rattle.files.specs.Refusals.{refusal_of, refusal_in, if_passed}
use Rattle.files.proofs.First.{passes, number_same, ends_with, fault-number, last-answer, if-refused}
use Rattle.files.proofs.Numbers.{proposal-numbers}
use Rattle.readings.specs.declared.ProposalReading.{ProposalReading}
use Rattle.readings.specs.Working.{working_proposal, ProposalRead, graph_in, proposed_in}
use Rattle.readings.proofs.Accepted.{proposal-formed}
use Rattle.readings.proofs.Held.{proposed-in-working}
use Rattle.acceptance.specs.declared.Acceptance.{Acceptance}
use Rattle.acceptance.specs.Acceptance.{acceptance_refusal, Accepts}
use Rattle.acceptance.specs.Outcomes.{tasks_of, outcome}
use Rattle.acceptance.proofs.AcceptedFiles.{accepted-number, accepted, well-formed, read-fronts, graph-held, accepted-reading}
use Rattle.acceptance.proofs.Rooms.{up-to-12}
use Rattle.judgement.specs.Judgement.{tells_latency, judged_refusal, judgement, latency_told, Judges}
use Rattle.judgement.specs.Searches.{Judgeable}
use Rattle.judgement.proofs.Sizes.{told-latency-small}
use Rattle.verdict.specs.declared.ProposalVerdict.{ProposalVerdict}
use Rattle.verdict.specs.Verdict.{margin, told_late, verdict_refusal, result_latency, verdict_of}
use Rattle.verdict.proofs.Told.{told-plain}

-- ── Refused files ──

module _ (s p : List ℕ) where
  -- a refusal other than 15, wherever the chain ends with it
  pub refused-answer :
      {q : Refusal} {r : ProposalVerdict} → verdict_refusal s p ≡ q → q.number ≢ 0 → q.number ≢ 15 →
      (r.outcome ≡ outcome q) × (r.latency ≡ 0) × (r.margin ≡ pos 0) → r ≡ verdict_of s p
  unfolding verdict_of outcome
  refused-answer {q} is some other told =
      let b = (graph_of s).bound in
      let l = result_latency s p in
      λ i. record {
        outcome = (told.0 ∙ (sym (told-plain q b l other) ∙ ap (λ (x : Refusal). told_late x b l) (sym is))) i;
        latency = (told.1 ∙ (sym (if-refused q.number l 0 some) ∙ ap (λ (x : Refusal). if_passed x.number l 0) (sym is))) i;
        margin =
            (told.2 ∙ (sym (if-refused q.number (margin b l) (pos 0) some) ∙ ap (λ (x : Refusal). if_passed x.number (margin b l) (pos 0)) (sym is))) i;
      }

  pub graph-refused :
      (fault : Fault) {r : ProposalVerdict} → refusal_of fault ≡ acceptance_refusal s →
      (r.outcome ≡ outcome (refusal_of fault)) × (r.latency ≡ 0) × (r.margin ≡ pos 0) → r ≡ verdict_of s p
  unfolding verdict_refusal
  graph-refused fault is told =
      let some = fault-number fault in
      refused-answer (ends_with _ is some) some (λ z. omega (arith, z, up-to-12 s, number_same is)) told

-- ── The chain of checks, past the files ──

pub chain : (s p : List ℕ) → (acceptance_refusal s).number ≡ 0 → (proposal_refusal (tasks_of s) p).number ≡ 0 → verdict_refusal s p ≡ judged_refusal (graph_of s) (proposal_of p)
unfolding verdict_refusal judged_refusal
chain s p passed read = passes (acceptance_refusal s) _ passed ∙ (passes (proposal_refusal (tasks_of s) p) _ read ∙ last-answer _)

-- Where latency and margin are told, the judgement tells the latency.
module _ (r : Refusal) (b l : ℕ) where
  abbrev told : ℕ
  told = counted (tells_latency r.number) l

  abbrev Alike : Type 0
  Alike =
      (told_late r b told ≡ told_late r b l) × (if_passed r.number told 0 ≡ if_passed r.number l 0) ×
      (if_passed r.number (margin b told) (pos 0) ≡ if_passed r.number (margin b l) (pos 0))

  told-alike : Alike
  unfolding counted tells_latency
  told-alike = go (decided (eqb-decides r.number 0)) (decided (eqb-decides r.number 15))
    where
      when-told : (n : ℕ) → r.number ≡ n → counted (tells_latency n) l ≡ l → Alike
      when-told n same told =
          let is = ap (λ (m : ℕ). counted (tells_latency m) l) same ∙ told in
          (ap (told_late r b) is, ap (λ (x : ℕ). if_passed r.number x 0) is, ap (λ (x : ℕ). if_passed r.number (margin b x) (pos 0)) is)

      go : (r.number ≡ 0) ⊎ (r.number ≡ 0 → ⊥) → (r.number ≡ 15) ⊎ (r.number ≡ 15 → ⊥) → Alike
      go (inl zero) late = when-told 0 zero refl
      go (inr some) (inl late) = when-told 15 late refl
      go (inr some) (inr other) = (
        told-plain r b _ other ∙ sym (told-plain r b l other),
        if-refused r.number _ 0 some ∙ sym (if-refused r.number l 0 some),
        if-refused r.number _ (pos 0) some ∙ sym (if-refused r.number (margin b l) (pos 0) some),
      )

module _ (s p : List ℕ) {a : Acceptance} (given : Accepts s (Ok a)) where
  same-tasks : proposal_refusal a.reading.tasks p ≡ proposal_refusal (tasks_of s) p
  unfolding tasks_of
  same-tasks = ap (λ (n : ℕ). proposal_refusal n p) (read-fronts s given).tasks-are

  pub proposal-refused :
      (fault : Fault) {r : ProposalVerdict} → refusal_of fault ≡ proposal_refusal a.reading.tasks p →
      (r.outcome ≡ outcome (refusal_of fault)) × (r.latency ≡ 0) × (r.margin ≡ pos 0) → r ≡ verdict_of s p
  unfolding verdict_refusal
  proposal-refused fault is told =
      let same = is ∙ same-tasks in
      let some = fault-number fault in
      refused-answer s p (passes (acceptance_refusal s) _ (accepted-number s given) ∙ ends_with _ same some) some
      (λ z. omega (arith, z, proposal-numbers (tasks_of s) p, number_same same)) told

  -- ── Judged edges ──

  module _ {q : ProposalReading} (read : ProposalRead a.reading.tasks p (Ok q)) where
    proposal-passed : (proposal_refusal (tasks_of s) p).number ≡ 0
    proposal-passed = number_same (sym (read.refusal ∙ same-tasks))

    edges-formed : WellFormedEdges (count (graph_of s)) (proposal_of p)
    unfolding tasks_of
    edges-formed = proposal-formed (count (graph_of s)) p proposal-passed

    edges-held : proposed_in q ≡ proposal_of p
    edges-held = ap proposed_in read.value ∙ proposed-in-working (proposal_of p) edges-formed.few

    pub judgeable : Judgeable a.reading q
    judgeable =
        record {
          accepted = accepted-reading s given;
          formed = subst (λ (g : Graph). WellFormedEdges (count g) (proposed_in q)) (sym (graph-held s given)) (subst (WellFormedEdges (count (graph_of s))) (sym edges-held) edges-formed);
          working = read.value ∙ ap working_proposal (sym edges-held);
        }

    -- what is judged of the readings is judged of the files' graph and edges
    pub judged-here : {answer : Result ℕ Fault} → Judges answer (judgement (graph_in a.reading) (proposed_in q)) → Judges answer (judgement (graph_of s) (proposal_of p))
    judged-here {answer} judged = subst (Judges answer) (λ i. judgement (graph-held s given i) (edges-held i)) judged

    -- what the margin is made of is small
    pub sizes :
        {answer : Result ℕ Fault} → Judges answer (judgement (graph_of s) (proposal_of p)) → (a.reading.bound < 1073741824) × (latency_told answer < 1073741824)
    sizes judged =
        let fits = (well-formed s given).bound_fits in
        let small = told-latency-small (graph_of s) (proposal_of p) (accepted s given).1 edges-formed in
        (omega (arith, fits, (read-fronts s given).bound_is), omega (arith, judged.latency, small))

    module _ {answer : Result ℕ Fault} (judged : Judges answer (judgement (graph_of s) (proposal_of p))) where
      refusal_is : refusal_in answer ≡ verdict_refusal s p
      unfolding judgement
      refusal_is = judged.refusal ∙ sym (chain s p (accepted-number s given) proposal-passed)

      latency_is : latency_told answer ≡ counted (tells_latency (refusal_in answer).number) (result_latency s p)
      unfolding judgement result_latency
      latency_is =
          judged.latency ∙
          ap (λ (x : Refusal). counted (tells_latency x.number) (latency_of (result (graph_of s) (proposal_of p)))) (sym judged.refusal)

      pub judged-answer :
          {r : ProposalVerdict} →
          r.outcome ≡ told_late (refusal_in answer) a.reading.bound (latency_told answer) →
          r.latency ≡ if_passed (refusal_in answer).number (latency_told answer) 0 →
          r.margin ≡ if_passed (refusal_in answer).number (margin a.reading.bound (latency_told answer)) (pos 0) → r ≡ verdict_of s p
      unfolding verdict_of
      judged-answer told timed-so weighed-so =
          let b = (graph_of s).bound in
          let l = result_latency s p in
          let q = refusal_in answer in
          let bound_is : a.reading.bound ≡ b = (read-fronts s given).bound_is in
          let alike = told-alike q b l in
          λ i. record {
            outcome = (told ∙ ((λ k. told_late q (bound_is k) (latency_is k)) ∙ (alike.0 ∙ ap (λ (x : Refusal). told_late x b l) refusal_is))) i;
            latency =
                (timed-so ∙
                (ap (λ (x : ℕ). if_passed q.number x 0) latency_is ∙
                (alike.1 ∙ ap (λ (x : Refusal). if_passed x.number l 0) refusal_is))) i;
            margin =
                (weighed-so ∙
                ((λ k. if_passed q.number (margin (bound_is k) (latency_is k)) (pos 0)) ∙
                (alike.2 ∙ ap (λ (x : Refusal). if_passed x.number (margin b l) (pos 0)) refusal_is))) i;
          }
