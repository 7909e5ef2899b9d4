-- `passes::pass_along` meets its contract: after k tasks of the sequence the edges out of them are kept.
use Prim.Native.Nat.{◌<◌}
use Rattle.passes.proofs.Passing.{Passing}
use Rattle.passes.proofs.pass_along.Given as goal

abbrev pub invariant-loop-k : goal.invariant-loop-k
invariant-loop-k l = Passing l.words l.sequence l.time (λ i. i < l.k) l.initial.row l.row
