-- `passes::pass_back` meets its contract: the edges out of the tasks from place k on are kept.
use Prim.Native.Nat.{◌≤◌, ◌<◌}
use lib.ListN.{length}
use Rattle.passes.proofs.Passing.{Passing}
use Rattle.passes.proofs.pass_back.Given as goal

abbrev pub invariant-loop-k : goal.invariant-loop-k
invariant-loop-k l = Passing l.words l.sequence l.time (λ i. (l.k ≤ i) × (i < length l.initial.row)) l.initial.row l.row
