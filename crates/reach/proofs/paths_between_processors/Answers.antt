-- `reach::paths_between_processors` meets its contract: where paths lead between processors, they lead between the tasks on them, over all edges with the same
-- ends.
use lib.ListN.{length}
use Rattle.std.specs.Prelude.{map}
use Rattle.records.specs.Columns.{edges_in}
use Rattle.reach.specs.Reach.{between}
use Rattle.reach.proofs.Rounds.{through-fewer}
use Rattle.reach.proofs.Processors.{reaches-on}
use Rattle.reach.proofs.Delays.{same-ends-back, ends-too, whatever-delays, circled-whatever-delays}
use Rattle.reach.proofs.paths_between_processors.Goals as goal

pub returns : goal.returns
returns c =
    let es = edges_in c.args.edges.now in
    let processor = c.args.processor.now in
    let n = length processor in
    let used = c.processors_used-used.ensures in
    let ends = c.requires.ends in
    λ fs same circled.
    let back = same-ends-back same in
    whatever-delays n es fs processor _ ends (ends-too back ends) same
    (reaches-on es processor n c.processors_used-used.result ends used.1 (circled-whatever-delays n fs es processor back circled)
    (c.merge_all.ensures (map (between processor) es) (through-fewer used.0 c.take_between.ensures)))
