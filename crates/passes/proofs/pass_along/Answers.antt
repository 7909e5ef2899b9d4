-- `passes::pass_along` meets its contract: after k tasks of the sequence the edges out of them are kept.
use mathlib.Core.Path.{sym, ◌∙◌}
use Prim.Native.Nat.{◌<◌}
use native.Mathlib.Omega.{arith}
use lib.ListN.{length, get_or}
use Rattle.passes.proofs.Passing.{passing-none, passing-more, passing-all, passing-low, up_to}
use Rattle.passes.proofs.pass_along.Goals as goal
use Rattle.passes.proofs.pass_along.Goals.{In-loop-k}

-- the next element of the sequence is a task
there : (i : In-loop-k) → get_or i.args.sequence.now i.loop-k.k 0 < length i.args.row.now
there i = i.requires.leads.0.inside i.loop-k.k (omega (arith, i.loop-k-test.true))

pub loop-k-init : goal.loop-k-init
loop-k-init c = passing-none c.args.words.now c.args.sequence.now c.args.time.now (λ i. i < 0) c.args.row.now (λ i l. omega arith)

pub overflow_cast-sequence : goal.overflow_cast-sequence
overflow_cast-sequence c = omega (arith, there (goal.at.overflow_cast-sequence c).In-loop-k, c.requires.words_len.3)

pub lift_from-requires : goal.lift_from-requires
lift_from-requires c =
    let inside = there (goal.at.lift_from-requires c).In-loop-k in
    let size = c.loop-k.invariant.size in
    let v = get_or c.args.sequence.now c.loop-k.k 0 in
    record {
      words_len = (c.requires.words_len.0, c.requires.words_len.2 ∙ sym size, omega (arith, size, c.requires.words_len.3), omega (arith, size, inside), passing-low c.loop-k.invariant c.requires.leads.1 v inside);
      by_index = λ t on. omega (arith, size, c.requires.leads.0.to v t inside on);
    }

pub loop-k-preserved : goal.loop-k-preserved
loop-k-preserved c =
    let leads = c.requires.leads.0 in
    let k = c.loop-k.k in
    let inside = there (goal.at.loop-k-preserved c).In-loop-k in
    passing-more c.loop-k.invariant k inside c.lift_from.ensures (λ i l. up_to l) (λ i l. leads.ahead i k (omega arith) (omega (arith, c.loop-k-test.true))) (λ t on. leads.to (get_or c.args.sequence.now k 0) t inside on)

pub returns : goal.returns
returns c = passing-all c.loop-k.invariant (λ i l. omega (arith, l, c.loop-k-test.false)) c.requires.leads.0.stands
