-- `records::read_edges` meets its contract: after j steps the first j records are those of the first j edges.
use mathlib.Core.Path.{◌≡◌, refl}
use Prim.Native.Nat.{◌<◌}
use native.Mathlib.Omega.{arith}
use lib.ListN.{length}
use Rattle.records.specs.Columns.{record_of}
use Rattle.records.proofs.Fill.{filled_none, filled_more, filled-all}
use Rattle.records.proofs.read_edges.Goals as goal

pub loop-j-init : goal.loop-j-init
loop-j-init c = filled_none _ _ refl

pub loop-j-preserved : goal.loop-j-preserved
unfolding record_of
loop-j-preserved c =
    let said = c.edge_at.ensures in
    let below : c.loop-j.j < length c.args.edges.now = omega (arith, c.loop-j.invariant.size) in
    filled_more _ c.loop-j.invariant below (λ x. record { source = said.source x; sink = said.sink x; delay = said.delay x })

pub returns : goal.returns
returns c =
    let whole : c.loop-j.j ≡ length c.args.edges.now = omega (arith, c.loop-j.invariant.size) in
    filled-all c.loop-j.invariant whole
