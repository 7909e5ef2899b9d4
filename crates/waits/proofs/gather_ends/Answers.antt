-- `waits::gather_ends` meets its contract: after k steps the first k entries are heeded.
use mathlib.Core.Path.{sym, ap, subst, ◌∙◌}
use mathlib.Core.List.{List}
use Prim.Native.Nat.{ℕ, ◌+◌, max}
use native.Mathlib.Omega.{arith}
use lib.ListN.{length, get_or, set}
use Rattle.records.specs.Columns.{at, zeros}
use Rattle.waits.specs.Later.{Awaited}
use Rattle.waits.proofs.Awaiting.{awaited-none, awaited-more}
use Rattle.waits.proofs.gather_ends.Goals as goal

pub loop-k-init : goal.loop-k-init
unfolding zeros
loop-k-init c = awaited-none c.args.back.now c.args.lasting.now c.args.sink.now c.args.starts.now (c.fill.ensures.after (λ y e. e))

pub loop-k-preserved : goal.loop-k-preserved
loop-k-preserved c =
    let args = c.args in
    let t = get_or args.sink.now c.loop-k.k 0 in
    subst (λ (xs : List ℕ). Awaited args.back.now args.lasting.now args.sink.now args.starts.now (length args.row.now) (c.loop-k.k + 1) xs)
    (sym (c.lift.ensures ∙ ap (λ (x : ℕ). set c.loop-k.row t (max (at c.loop-k.row t) x)) c.asked_end-end.ensures))
    (awaited-more args.back.now args.lasting.now args.sink.now args.starts.now c.loop-k.invariant c.loop-k-test.true (c.requires.by_index.0 c.loop-k.k c.loop-k-test.true).1)

pub returns : goal.returns
returns c =
    let args = c.args in
    subst (λ (j : ℕ). Awaited args.back.now args.lasting.now args.sink.now args.starts.now (length args.row.now) j c.loop-k.row) (omega (arith, c.loop-k-test.false)) c.loop-k.invariant
