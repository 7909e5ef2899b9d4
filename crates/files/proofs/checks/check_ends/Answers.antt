-- `files::checks::check_ends` meets its contract: no edge that was looked at so far is refused.
use mathlib.Core.Path.{◌≡◌, sym}
use mathlib.Core.Logic.{⊎_elim}
use native.Mathlib.Omega.{arith}
use lib.ListN.{length}
use borrow.Author.Count.{below_none, below_more}
use Rattle.records.specs.Columns.{edges_in}
use Rattle.files.specs.Refusals.{not_refused}
use Rattle.files.specs.Files.{ends_refusal}
use Rattle.files.proofs.First.{stops_at, stops_nowhere}
use Rattle.files.proofs.Single.{ends-pass, source-stops, sink-stops}
use Rattle.files.proofs.checks.check_ends.Goals as goal

pub loop-j-init : goal.loop-j-init
loop-j-init c = below_none (λ i. ends_refusal c.args.tasks (edges_in c.args.edges.now) i ≡ not_refused)

pub returns-then-from-tasks : goal.returns-then-from-tasks
returns-then-from-tasks c =
    let n = c.args.tasks in
    let rs = c.args.edges.now in
    let j = c.loop-j.j in
    sym
    (stops_at (length rs) (ends_refusal n (edges_in rs)) c.loop-j-test.true c.loop-j.invariant
    (⊎_elim (λ w. source-stops rs j n w) (λ w. sink-stops rs j n w.1) c.then-from-tasks.either)
    (λ z. omega arith))

pub loop-j-preserved : goal.loop-j-preserved
loop-j-preserved c =
    let n = c.args.tasks in
    let rs = c.args.edges.now in
    let j = c.loop-j.j in
    below_more (λ i. ends_refusal n (edges_in rs) i ≡ not_refused) j c.loop-j.invariant
    (ends-pass rs j n (omega arith) (omega arith))

pub returns : goal.returns
returns c =
    let rs = c.args.edges.now in
    sym (stops_nowhere (length rs) (ends_refusal c.args.tasks (edges_in rs)) c.loop-j-test.false c.loop-j.invariant)
