-- `candidates::unit_row` meets its contract: after b steps the first b numbers are times in units.
use Prim.Native.Nat.{◌<◌}
use native.Mathlib.Omega.{arith}
use Rattle.records.specs.Columns.{at}
use Rattle.candidates.proofs.Times.{units-more}
use Rattle.candidates.proofs.unit_row.Goals as goal

pub loop-b-preserved : goal.loop-b-preserved
unfolding at
loop-b-preserved c =
    let args = c.args in
    let few : c.loop-b.b < 64 = omega (arith, c.requires.1) in
    units-more args.times.now args.power c.units.result c.loop-b.invariant few c.units.ensures
