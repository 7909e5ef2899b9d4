-- `updates::fallen` meets its contract: below 32,768 the signed test tells whether the number fell.
use native.Mathlib.Omega.{arith}
use Rattle.delays.proofs.Signed.{signed-less, signed-not-less}
use Rattle.updates.proofs.fallen.Goals as goal

pub returns-then-after-before : goal.returns-then-after-before
returns-then-after-before c =
    let less = signed-less c.args.after c.args.before c.requires.1 c.requires.0 c.if-after-before.true in
    record { same = (λ same. omega arith); less = (λ fell. omega arith) }

pub returns-else-after-before : goal.returns-else-after-before
returns-else-after-before c =
    let not-less = signed-not-less c.args.after c.args.before c.requires.1 c.requires.0 c.if-after-before.false in
    record { same = (λ same. omega arith); less = (λ fell. omega arith) }
