-- `sets::free_tasks` meets its contract: after v steps the set has those of the first v tasks that no edge leads to.
use Rattle.sets.specs.Sets.{Free}
use Rattle.sets.proofs.free_tasks.Given as goal

abbrev pub invariant-loop-v : goal.invariant-loop-v
invariant-loop-v l = Free l.fn.sources l.v l.ready
