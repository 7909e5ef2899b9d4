-- Document 01, "What the calls hand over": what the verdict call answers, for every two lists of bytes. Of a refused call every field that 01 does
-- not name is 0.
use Rattle.std.specs.Prelude.{Bool, true, false, List, [], ◌∷◌, ℕ, eqb, ℤ, pos, ◌-ℤ◌}
use Rattle.model.specs.Lists.{counted}
use Rattle.model.specs.Compute.{latency_of}
use Rattle.model.specs.Proposals.{result}
use Rattle.files.specs.declared.Refusal.{Refusal}
use Rattle.files.specs.Files.{graph_of, proposal_of, proposal_refusal}
use Rattle.files.specs.Refusals.{first, if_passed}
use Rattle.acceptance.specs.declared.Outcome.{Outcome}
use Rattle.acceptance.specs.Acceptance.{acceptance_refusal}
use Rattle.acceptance.specs.Outcomes.{tasks_of}
use Rattle.judgement.specs.Judgement.{judged_refusal}
use Rattle.verdict.specs.declared.ProposalVerdict.{ProposalVerdict}

-- "margin, which is bound minus latency and may be negative"
unfoldable pub margin : ℕ → ℕ → ℤ
margin bound latency = pos bound -ℤ pos latency

-- "Sequence": the graph's checks up to 12, "then the proposal's header 1, 2, 3; length 1 or 4; its two zero bits and filling 4; each edge 6; then 8,
-- 13, 14, 15".
unfoldable pub verdict_refusal : List ℕ → List ℕ → Refusal
verdict_refusal s p =
    first
    (acceptance_refusal s
    ∷ proposal_refusal (tasks_of s) p
    ∷ judged_refusal (graph_of s) (proposal_of p)
    ∷ [])

-- a margin, if the test says so, else 0
unfoldable pub counted_margin : Bool → ℤ → ℤ
counted_margin true m = m
counted_margin false m = pos 0

-- "Place, latency and margin are 0 unless named below.": of 15, "latency and the negative margin are given".
unfoldable pub told_late : Refusal → ℕ → ℕ → Outcome
told_late r bound latency = record {
  number = r.number;
  place = r.place;
  latency = counted (eqb r.number 15) latency;
  margin = counted_margin (eqb r.number 15) (margin bound latency);
}

-- latency of the result of a proposal file
unfoldable pub result_latency : List ℕ → List ℕ → ℕ
result_latency s p = latency_of (result (graph_of s) (proposal_of p))

-- "Verdict: latency of the result, and margin": if the proposal is accepted
unfoldable pub verdict_of : List ℕ → List ℕ → ProposalVerdict
verdict_of s p = record {
  outcome = told_late (verdict_refusal s p) (graph_of s).bound (result_latency s p);
  latency = if_passed (verdict_refusal s p).number (result_latency s p) 0;
  margin = if_passed (verdict_refusal s p).number (margin (graph_of s).bound (result_latency s p)) (pos 0);
}
