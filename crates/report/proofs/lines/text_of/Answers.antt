-- `report::lines::text_of` meets its contract: the lines, one behind the other in a list of zeros, are a text.
use mathlib.Core.Path.{ap}
use Prim.Native.Nat.{ℕ}
use native.Mathlib.Omega.{arith}
use lib.ListN.{length, length-replicate}
use Rattle.text.proofs.Appending as appending
use Rattle.report.proofs.Whole.{text-whole, printed-refused, printed-lines, whole_length}
use Rattle.report.proofs.lines.text_of.Goals as goal

pub put_refused_line-length-requires : goal.put_refused_line-length-requires
put_refused_line-length-requires c =
    let room = length-replicate {A = ℕ} 1024 0 in
    omega (arith, c.requires, room, ap length (printed-refused c.args.figures c.args.set c.args.verdict c.if-outcome-ne0.true))

pub returns-then-outcome-ne0 : goal.returns-then-outcome-ne0
returns-then-outcome-ne0 c =
    text-whole
    (appending.renamed (printed-refused c.args.figures c.args.set c.args.verdict c.if-outcome-ne0.true) c.put_refused_line-length.ensures)

pub put_graph_line-second-requires : goal.put_graph_line-second-requires
put_graph_line-second-requires c =
    let room = length-replicate {A = ℕ} 1024 0 in
    let long = whole_length c.args.figures c.args.set c.args.verdict c.if-outcome-ne0.false in
    omega (arith, c.requires, room, long)

pub put_redundant_line-third-requires : goal.put_redundant_line-third-requires
put_redundant_line-third-requires c =
    let room = length-replicate {A = ℕ} 1024 0 in
    let long = whole_length c.args.figures c.args.set c.args.verdict c.if-outcome-ne0.false in
    let e0 = c.put_graph_line-second.ensures in
    omega (arith, c.requires, room, long, e0.next_is, appending.same_length e0)

pub put_verdict_line-length-requires : goal.put_verdict_line-length-requires
put_verdict_line-length-requires c =
    let room = length-replicate {A = ℕ} 1024 0 in
    let long = whole_length c.args.figures c.args.set c.args.verdict c.if-outcome-ne0.false in
    let e0 = c.put_graph_line-second.ensures in
    let e1 = c.put_redundant_line-third.ensures in
    omega (arith, c.requires, room, long, e0.next_is, appending.same_length e0, e1.next_is, appending.same_length e1)

pub returns : goal.returns
returns c =
    text-whole
    (appending.renamed (printed-lines c.args.figures c.args.set c.args.verdict c.if-outcome-ne0.false)
    (appending.followed
    (appending.followed c.put_graph_line-second.ensures c.put_redundant_line-third.ensures)
    c.put_verdict_line-length.ensures))
