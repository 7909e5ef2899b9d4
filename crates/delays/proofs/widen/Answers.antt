-- `delays::widen` meets its contract, by the two cases of its test.
use Rattle.std.proofs.Common.{arith}
use Rattle.std.proofs.lemmas.Bool.Decides.{nat_tests}
use Rattle.delays.specs.Rows.{widened}
use Rattle.delays.proofs.widen.Goals as goal

pub returns-then-entry-eq-FAR : goal.returns-then-entry-eq-FAR
unfolding widened
returns-then-entry-eq-FAR c = grind (arith, nat_tests)

pub returns-else-entry-eq-FAR : goal.returns-else-entry-eq-FAR
unfolding widened
returns-else-entry-eq-FAR c = grind (arith, nat_tests)
