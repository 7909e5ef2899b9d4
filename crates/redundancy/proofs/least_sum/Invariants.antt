-- `redundancy::least_sum` meets its contract: after u steps it is the least of u sums.
use Rattle.redundancy.specs.Redundancy.{LeastSum}
use Rattle.redundancy.proofs.least_sum.Given as goal

abbrev pub invariant-loop-u : goal.invariant-loop-u
invariant-loop-u l = LeastSum l.table l.from l.last l.to l.u l.least
