-- The example desk's files, byte for byte, are the desk and its proposal, by computation.
use mathlib.Core.Path.{◌≡◌, refl}
use mathlib.Core.List.{List, [], ◌∷◌}
use Prim.Native.Nat.{ℕ}
use Rattle.bits.specs.Bits.{bit_at, field}
use Rattle.model.specs.Lists.{tabulate, any_below}
use Rattle.model.specs.Tasks.{processor_of}
use Rattle.model.specs.Graph.{time_of}
use Rattle.model.specs.Compute.{same_edge}
use Rattle.model.specs.Example.{desk, proposal}
use Rattle.layout.specs.Layout.{graph_header, proposal_header, task_at, edge_at, filling}
use Rattle.files.specs.Refusals.{not_refused, refuse, choose, first}
use Rattle.files.specs.Files.{edges_from, graph_of, proposal_of, edge_in, end_outside, within_processor, repeats_earlier, time_refusal, ends_refusal, edge_refusal, repeat_refusal, first_of, graph_bits, proposal_bits, graph_header_refusal, proposal_header_refusal, length_refusal, filling_refusal, zeros_refusal, header_ends_refusal, graph_frame_refusal, graph_records_refusal, graph_refusal, proposal_frame_refusal, proposed_edges_refusal, proposal_refusal}

-- "08 40 18 01 80 00 0C 00 00 20 00 03 10 00 11 00 04 00 20 00 43 00 00 30 00"
unfoldable pub desk_bytes : List ℕ
desk_bytes = 8 ∷ 64 ∷ 24 ∷ 1 ∷ 128 ∷ 0 ∷ 12 ∷ 0 ∷ 0 ∷ 32 ∷ 0 ∷ 3 ∷ 16 ∷ 0 ∷ 17 ∷ 0 ∷ 4 ∷ 0 ∷ 32 ∷ 0 ∷ 67 ∷ 0 ∷ 0 ∷ 48 ∷ 0 ∷ []

-- "Proposal bytes for 1→2, delay 0: 08 04 04 20 00."
unfoldable pub proposal_bytes : List ℕ
proposal_bytes = 8 ∷ 4 ∷ 4 ∷ 32 ∷ 0 ∷ []

pub desk-file : graph_of desk_bytes ≡ desk
unfolding graph_of edges_from graph_header task_at edge_at tabulate field bit_at desk_bytes
desk-file = refl

pub desk-passes : graph_refusal desk_bytes ≡ not_refused
unfolding graph_refusal graph_frame_refusal graph_header_refusal length_refusal filling_refusal filling header_ends_refusal graph_records_refusal first_of first choose refuse
    time_refusal time_of edge_refusal ends_refusal end_outside within_processor processor_of repeat_refusal repeats_earlier any_below same_edge edge_in
    graph_bits graph_of edges_from graph_header task_at edge_at tabulate field bit_at desk_bytes
desk-passes = refl

pub proposal-file : proposal_of proposal_bytes ≡ proposal
unfolding proposal_of edges_from proposal_header edge_at tabulate field bit_at proposal_bytes
proposal-file = refl

pub proposal_passes : proposal_refusal 4 proposal_bytes ≡ not_refused
unfolding proposal_refusal proposal_frame_refusal proposal_header_refusal length_refusal zeros_refusal filling_refusal filling proposed_edges_refusal first_of first choose refuse
    ends_refusal end_outside repeat_refusal repeats_earlier any_below same_edge edge_in proposal_bits proposal_of edges_from proposal_header edge_at tabulate field bit_at proposal_bytes
proposal_passes = refl
