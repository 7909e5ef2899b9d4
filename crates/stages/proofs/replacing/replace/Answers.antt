-- `stages::replacing::replace` meets its contract: the edges that the pair does not subsume are kept, fewer than 256, and the pair's is stored behind them.
use mathlib.Core.Path.{refl}
use native.Mathlib.Omega.{arith}
use Rattle.model.specs.Plan.{pair_edge, with_pair}
use Rattle.records.specs.Columns.{edge_of}
use Rattle.stages.proofs.Staged.{stage_more}
use Rattle.stages.proofs.replacing.replace.Goals as goal

pub returns : goal.returns
unfolding with_pair pair_edge edge_of
returns c = λ list holds.
    let args = c.args in
    let asked = c.requires.held_stage in
    let kept = c.keep_others.ensures asked.0 asked.1 in
    stage_more (c.keep_others.ensures list holds) (record { source = args.a; sink = args.b; delay = 0 }) (omega (arith, kept.as_many, asked.3)) refl refl
