-- `records::processor_edges_into` meets its contract: the part comes back filled.
use mathlib.Core.Path.{sym, ◌∙◌}
use lib.Seq.{length-take-le}
use Rattle.records.proofs.Parts.{put-front}
use Rattle.records.proofs.processor_edges_into.Goals as goal

pub returns : goal.returns
returns c = λ ts of.
    let n = c.args.tasks in
    let many = sym of.as_many ∙ length-take-le n c.args.processor.now c.requires.tasks_in_bounds.0 in
    put-front n _ c.args.edges.now many (c.processor_edges.ensures ts of)
