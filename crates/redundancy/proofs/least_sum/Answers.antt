-- `redundancy::least_sum` meets its contract: after u steps it is the least of u sums.
use mathlib.Core.Path.{◌≡◌, subst}
use Prim.Native.Nat.{ℕ}
use native.Mathlib.Omega.{arith}
use Rattle.redundancy.specs.Redundancy.{LeastSum}
use Rattle.redundancy.proofs.Sums.{sum-none, sum_more}
use Rattle.redundancy.proofs.least_sum.Goals as goal

pub loop-u-init : goal.loop-u-init
loop-u-init c = sum-none

pub loop-u-preserved : goal.loop-u-preserved
loop-u-preserved c = sum_more c.loop-u.invariant (omega (arith, c.nearer-least.ensures, c.min.ensures))

pub returns : goal.returns
returns c =
    let all : c.loop-u.u ≡ c.args.tasks = omega arith in
    subst (λ (k : ℕ). LeastSum c.args.table.now c.args.from c.args.last.now c.args.to k c.loop-u.least) all c.loop-u.invariant
