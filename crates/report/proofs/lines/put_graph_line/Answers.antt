-- `report::lines::put_graph_line` meets its contract: the word, three fields and the newline, each behind the one before.
use native.Mathlib.Omega.{arith}
use Rattle.text.proofs.Appending as appending
use Rattle.report.proofs.Pieces.{graph-pieces, graph-length}
use Rattle.report.proofs.lines.put_graph_line.Goals as goal

pub put_word-word-requires : goal.put_word-word-requires
put_word-word-requires c =
    omega (arith, c.requires, graph-length c.args.figures)

pub put_field-tasks-requires : goal.put_field-tasks-requires
put_field-tasks-requires c =
    let e0 = c.put_word-word.ensures in
    omega (arith, c.requires, graph-length c.args.figures, e0.next_is, appending.same_length e0)

pub put_field-edges-requires : goal.put_field-edges-requires
put_field-edges-requires c =
    let e1 = c.put_field-tasks.ensures in
    let e0 = c.put_word-word.ensures in
    omega (arith, c.requires, graph-length c.args.figures, e0.next_is, appending.same_length e0, e1.next_is, appending.same_length e1)

pub put_field-latency-requires : goal.put_field-latency-requires
put_field-latency-requires c =
    let e2 = c.put_field-edges.ensures in
    let e1 = c.put_field-tasks.ensures in
    let e0 = c.put_word-word.ensures in
    omega (arith, c.requires, graph-length c.args.figures, e0.next_is, appending.same_length e0, e1.next_is, appending.same_length e1, e2.next_is, appending.same_length e2)

pub put-requires : goal.put-requires
put-requires c =
    let e3 = c.put_field-latency.ensures in
    let e2 = c.put_field-edges.ensures in
    let e1 = c.put_field-tasks.ensures in
    let e0 = c.put_word-word.ensures in
    omega (arith, c.requires, graph-length c.args.figures, e0.next_is, appending.same_length e0, e1.next_is, appending.same_length e1, e2.next_is, appending.same_length e2, e3.next_is, appending.same_length e3)

pub returns : goal.returns
returns c =
    let e4 = c.put.ensures in
    let e3 = c.put_field-latency.ensures in
    let e2 = c.put_field-edges.ensures in
    let e1 = c.put_field-tasks.ensures in
    let e0 = c.put_word-word.ensures in
    appending.renamed (graph-pieces c.args.figures) (appending.followed (appending.followed (appending.followed (appending.followed e0 e1) e2) e3) e4)
