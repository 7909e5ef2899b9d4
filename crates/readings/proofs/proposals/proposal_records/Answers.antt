-- `readings::proposals::proposal_records` meets its contract: the list holds the file's edges, so the checks are theirs.
use mathlib.Core.Path.{sym, ap, ◌∙◌}
use native.Mathlib.Omega.{arith}
use Rattle.layout.specs.declared.ProposalHeader.{ProposalHeader}
use Rattle.files.specs.Files.{proposal_of, proposed_edges_refusal, edge_in}
use Rattle.readings.specs.Working.{working_proposal}
use Rattle.records.specs.Columns.{no_record}
use Rattle.records.proofs.Parts.{blank-room, filled-room}
use Rattle.records.proofs.EdgesIn.{edges-of-front}
use Rattle.readings.proofs.Whole.{proposal-list, proposal-count}
use Rattle.readings.proofs.proposals.proposal_records.Goals as goal

pub edges_into-requires : goal.edges_into-requires
edges_into-requires c =
    let asked = c.requires in
    record {
      position_bound = omega arith;
      from_le_to = (omega arith, asked.edges_bound);
      to_in_bounds = blank-room no_record 256 asked.proposed_value asked.edges_bound;
    }

pub slice_bounds-check_proposed-end : goal.slice_bounds-check_proposed-end
slice_bounds-check_proposed-end c =
    let asked = c.requires in
    filled-room no_record 256 _ _ asked.edges_bound asked.proposed_value c.edges_into.ensures asked.edges_bound

pub returns : goal.returns
unfolding working_proposal edge_in
returns c =
    let s = c.args.bytes.now in
    let es = proposal_of s in
    let few = c.requires.edges_bound in
    let count = ap (λ (h : ProposalHeader). h.edges) c.requires.header_value in
    let proposed = proposal-list s count few c.requires.proposed_value c.edges_into.ensures in record {
      refusal = c.check_proposed.ensures ∙
          ap (proposed_edges_refusal c.args.tasks) (edges-of-front es 256 c.args.header.edges proposed few (count ∙ sym (proposal-count s)));
      proposed = proposed;
    }
