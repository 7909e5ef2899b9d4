-- `reach::merge_all` meets its contract: after k rounds the paths whose inner processors are below k count.
use mathlib.Core.Path.{◌≡◌}
use native.Mathlib.Omega.{arith}
use Rattle.reach.proofs.Rounds.{through-more, through-all}
use Rattle.reach.proofs.merge_all.Goals as goal

pub loop-k-preserved : goal.loop-k-preserved
loop-k-preserved c =
    (c.merge_through.ensures.room, λ es held. through-more (c.loop-k.invariant.1 es held) c.merge_through.ensures c.loop-k-test.true)

pub returns : goal.returns
returns c =
    let whole : c.loop-k.k ≡ c.args.count = omega arith in
    λ es held. through-all (c.loop-k.invariant.1 es held) whole
