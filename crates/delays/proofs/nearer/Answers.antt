-- `delays::nearer` meets its contract: below 32,768 the signed test tells which number is smaller.
use native.Mathlib.Omega.{arith}
use Rattle.delays.proofs.Signed.{signed-less, signed-not-less}
use Rattle.delays.proofs.nearer.Goals as goal

pub returns-then-b-a : goal.returns-then-b-a
returns-then-b-a c =
    let less = signed-less c.args.b c.args.a c.requires.1 c.requires.0 c.if-b-a.true in
    omega arith

pub returns-else-b-a : goal.returns-else-b-a
returns-else-b-a c =
    let not-less = signed-not-less c.args.b c.args.a c.requires.1 c.requires.0 c.if-b-a.false in
    omega arith
