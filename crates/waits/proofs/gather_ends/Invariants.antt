-- `waits::gather_ends` meets its contract: after k steps the first k entries are heeded.
use lib.ListN.{length}
use Rattle.waits.specs.Later.{Awaited}
use Rattle.waits.proofs.gather_ends.Given as goal

abbrev pub invariant-loop-k : goal.invariant-loop-k
invariant-loop-k l = Awaited l.back l.lasting l.sink l.starts (length l.fn.row) l.k l.row
