-- `waits::asked_end` meets its contract, by the two cases of its test.
use mathlib.Core.Path.{sym}
use native.Mathlib.Omega.{arith}
use Rattle.waits.proofs.Later.{asked-none, asked-there}
use Rattle.waits.proofs.asked_end.Goals as goal

pub returns-then-starts-back : goal.returns-then-starts-back
returns-then-starts-back c = sym (asked-none c.args.starts.now c.args.back c.args.lasting (omega (arith, c.if-starts-back.true)))

pub returns : goal.returns
returns c = sym (asked-there c.args.starts.now c.args.back c.args.lasting (omega (arith, c.if-starts-back.false)))
