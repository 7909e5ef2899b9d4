-- `files::checks::check_edges` meets its contract: no edge that was looked at so far is refused.
use mathlib.Core.Path.{◌≡◌, sym, subst}
use mathlib.Core.Logic.{⊎_elim}
use Prim.Native.Nat.{ℕ, ◌≤◌}
use native.Mathlib.Omega.{arith}
use lib.ListN.{length, get_or}
use borrow.Author.Count.{below_none, below_more}
use Rattle.records.specs.Columns.{edges_in, no_record}
use Rattle.files.specs.Refusals.{not_refused}
use Rattle.files.specs.Files.{edge_refusal}
use Rattle.files.proofs.First.{stops_at, stops_nowhere}
use Rattle.files.proofs.Single.{source-stops, sink-stops, outside-stops, within-stops, between-passes}
use Rattle.files.proofs.checks.check_edges.Goals as goal

pub loop-j-init : goal.loop-j-init
loop-j-init c = λ ts on. below_none (λ i. edge_refusal ts (edges_in c.args.edges.now) i ≡ not_refused)

pub returns-then-from-processor : goal.returns-then-from-processor
returns-then-from-processor c = λ ts on.
    let rs = c.args.edges.now in
    let j = c.loop-j.j in
    let e = get_or rs j no_record in
    sym
    (stops_at (length rs) (edge_refusal ts (edges_in rs)) c.loop-j-test.true (c.loop-j.invariant ts on)
    (outside-stops rs j ts on
    (⊎_elim (λ w. source-stops rs j (length ts) (subst (λ (m : ℕ). m ≤ e.source) on.as_many w))
    (λ w. sink-stops rs j (length ts) (subst (λ (m : ℕ). m ≤ e.sink) on.as_many w.1)) c.then-from-processor.either))
    (λ z. omega arith))

pub bounds-processor-from : goal.bounds-processor-from
bounds-processor-from c = c.if-from-processor.false

pub bounds-processor-to : goal.bounds-processor-to
bounds-processor-to c = c.if-to-processor.false

pub returns-then-processor-from : goal.returns-then-processor-from
returns-then-processor-from c = λ ts on.
    let rs = c.args.edges.now in
    sym
    (stops_at (length rs) (edge_refusal ts (edges_in rs)) c.loop-j-test.true (c.loop-j.invariant ts on)
    (within-stops rs c.loop-j.j ts on c.if-from-processor.false c.if-to-processor.false c.if-processor-from.true)
    (λ z. omega arith))

pub loop-j-preserved : goal.loop-j-preserved
loop-j-preserved c = λ ts on.
    let rs = c.args.edges.now in
    let j = c.loop-j.j in
    below_more (λ i. edge_refusal ts (edges_in rs) i ≡ not_refused) j (c.loop-j.invariant ts on)
    (between-passes rs j ts on c.if-from-processor.false c.if-to-processor.false c.if-processor-from.false)

pub returns : goal.returns
returns c = λ ts on.
    let rs = c.args.edges.now in
    sym (stops_nowhere (length rs) (edge_refusal ts (edges_in rs)) c.loop-j-test.false (c.loop-j.invariant ts on))
