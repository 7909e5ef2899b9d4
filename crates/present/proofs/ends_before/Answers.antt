-- `present::ends_before` meets its contract: the sum is compared without being made.
use mathlib.Core.Path.{sym}
use mathlib.Core.Bool.{true≢false}
use Prim.Native.Nat.{◌-◌}
use native.Mathlib.Omega.{arith}
use borrow.Author.Tests.{leb-true}
use Rattle.present.proofs.ends_before.Goals as goal

pub returns-then-other-end : goal.returns-then-other-end
returns-then-other-end c = λ q. absurd (true≢false (sym q))

pub returns : goal.returns
returns c =
    let args = c.args in
    λ q. let l = leb-true args.time (args.other - args.end) q in omega (arith, l, c.if-other-end.false)
