-- `sets::take_edges` meets its contract: after j steps the words hold the first j edges, once by their sources and once by their sinks.
use Rattle.sets.proofs.Words.{words-none, words_more}
use Rattle.sets.proofs.take_edges.Goals as goal

pub loop-e-init : goal.loop-e-init
loop-e-init c =
    let blank = c.requires.sinks_value in
    (words-none _ _ c.args.edges.now blank.0, words-none _ _ c.args.edges.now blank.1)

pub loop-e-preserved : goal.loop-e-preserved
loop-e-preserved c =
    let edges = c.args.edges.now in
    let inv = c.loop-e.invariant in
    let ends = c.requires.by_index c.loop-e.e-index c.loop-e-test.true in (
      words_more _ _ edges inv.0 c.with_edge.result ends.0 c.with_edge.ensures,
      words_more _ _ edges inv.1 c.with_edge-in-loop-e.result ends.1 c.with_edge-in-loop-e.ensures,
    )
