-- `waits::ends_into` meets its contract: after v steps the first v elements are the ends of the first v tasks.
use Prim.Native.Nat.{◌+◌}
use lib.ListN.{length}
use Rattle.records.specs.Columns.{at}
use Rattle.records.proofs.Fill.{Filled}
use Rattle.waits.proofs.ends_into.Given as goal

abbrev pub invariant-loop-v : goal.invariant-loop-v
invariant-loop-v l = Filled (λ u. at l.row u + at l.time u) (length l.time) l.v l.end
