-- `readings::proposals::read_proposal` meets its contract: the first of the two groups of checks that fails is the answer, else the list is that of
-- the edges.
use mathlib.Core.Path.{◌≡◌, refl, sym, ap, ◌∙◌, subst}
use Prim.Native.Nat.{◌≤◌}
use lib.ListN.{length}
use Rattle.layout.specs.declared.ProposalHeader.{ProposalHeader}
use Rattle.files.specs.Files.{proposal_of, proposal_refusal, proposed_edges_refusal}
use Rattle.files.proofs.First.{ends_with, fault-number, gives-fault, goes_on, last-answer, number_same}
use Rattle.readings.specs.Working.{working_proposal}
use Rattle.readings.proofs.Whole.{proposal-count}
use Rattle.readings.proofs.Passed.{proposal-frame-passed}
use Rattle.readings.proofs.proposals.read_proposal.Goals as goal

pub returns-in_err-check_proposal_frame : goal.returns-in_err-check_proposal_frame
unfolding proposal_refusal
returns-in_err-check_proposal_frame c =
    let back = c.from_residual.ensures in
    gives-fault _ _ back.0 back.1 (sym (ends_with _ c.in_err-check_proposal_frame.ensures (fault-number _)))

pub proposal_records-requires : goal.proposal_records-requires
proposal_records-requires c =
    let header = c.proposal_header-header.ensures in
    let frame = proposal-frame-passed c.args.bytes.now (number_same (sym c.in_ok-check_proposal_frame.ensures)) in
    record {
      header_value = header;
      edges_bound = subst (λ (h : ProposalHeader). h.edges ≤ 256) (sym header) frame.at-most-256;
      proposed_value = refl;
    }

pub returns-in_err-proposal_records : goal.returns-in_err-proposal_records
unfolding proposal_refusal
returns-in_err-proposal_records c =
    let back = c.from_residual-in_err-proposal_records.ensures in
    gives-fault _ _ back.0 back.1
    (sym (goes_on _ c.in_ok-check_proposal_frame.ensures refl ∙ ends_with _ c.in_err-proposal_records.ensures.refusal (fault-number _)))

pub returns : goal.returns
unfolding working_proposal proposal_refusal proposed_edges_refusal
returns c =
    let s = c.args.bytes.now in
    let said = c.in_ok-proposal_records.ensures in
    let count : c.proposal_header-header.result.edges ≡ length (proposal_of s) = ap (λ (h : ProposalHeader). h.edges) c.proposal_header-header.ensures ∙ sym (proposal-count s) in
    record {
      refusal = sym (goes_on _ c.in_ok-check_proposal_frame.ensures refl ∙ (last-answer _ ∙ sym said.refusal));
      value = λ i. record { edges = count i; proposed = said.proposed i };
    }
