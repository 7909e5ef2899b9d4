-- `records::edges_into` meets its contract: the part comes back filled.
use borrow.Rule.Slice.PartMut.{mid_len}
use Rattle.records.proofs.Parts.{put-part}
use Rattle.records.proofs.edges_into.Goals as goal

pub returns : goal.returns
returns c =
    let a = c.args.from in
    let e = c.args.to in
    put-part a e _ c.args.edges.now c.requires.from_le_to.0 (mid_len a e c.args.edges.now c.requires.to_in_bounds) c.read_edges.ensures
