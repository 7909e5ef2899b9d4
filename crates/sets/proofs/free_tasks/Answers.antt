-- `sets::free_tasks` meets its contract: after v steps the set has those of the first v tasks that no edge leads to.
use Rattle.sets.proofs.Words.{free-none}
use Rattle.sets.proofs.free_tasks.Goals as goal

pub loop-v-init : goal.loop-v-init
loop-v-init c = free-none c.args.sources.now
