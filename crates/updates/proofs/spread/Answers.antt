-- `updates::spread` meets its contract: after a steps the first a lines are copied.
use mathlib.Core.Path.{refl, ◌∙◌}
use Prim.Native.Nat.{◌*◌, ◌≤◌}
use native.Mathlib.Omega.{arith}
use Rattle.records.proofs.Rows.{product_small}
use Rattle.updates.proofs.Lines.{lines_none, lines_more, lines-all}
use Rattle.updates.proofs.spread.Goals as goal
use Rattle.updates.proofs.spread.Goals.{In-loop-a}

-- lines start at small places
small : (c : In-loop-a) → c.loop-a.a * c.args.outer ≤ 4096
small c =
    let few : c.loop-a.a ≤ 64 = omega (arith, c.requires.tasks_bound.0) in
    product_small c.loop-a.a c.args.outer few c.requires.tasks_bound.1

pub loop-a-init : goal.loop-a-init
loop-a-init c =
    let args = c.args in
    let asked = c.requires.tasks_bound in
    (lines_none args.table.now args.outer args.inner args.tasks asked.3 asked.4, refl)

pub loop-a-preserved : goal.loop-a-preserved
loop-a-preserved c = (lines_more c.loop-a.invariant.0 c.requires.tasks_bound.0 refl c.spread_line.ensures, c.spread_line.ensures.size ∙ c.loop-a.invariant.1)

pub returns : goal.returns
returns c = lines-all c.loop-a.invariant.0 (omega arith)
