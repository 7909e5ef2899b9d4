-- `delays::hand_over` meets its contract: after b steps b entries are written.
use mathlib.Core.Path.{◌≡◌}
use Prim.Native.Nat.{◌+◌}
use native.Mathlib.Omega.{arith}
use lib.ListN.{get_or}
use Rattle.delays.specs.Rows.{widened}
use Rattle.delays.proofs.Parts.{part_none, part-more, front-done}
use Rattle.delays.proofs.hand_over.Goals as goal

pub loop-place-init : goal.loop-place-init
loop-place-init c = part_none 0 (λ i. widened (get_or c.args.row.now i 0)) c.args.out.now

pub loop-place-preserved : goal.loop-place-preserved
loop-place-preserved c =
    let place = c.loop-place.place in
    let start : place ≡ 0 + place = omega arith in
    part-more c.loop-place.invariant place c.widen.result start (omega arith) c.widen.ensures

pub returns : goal.returns
returns c = record { size = c.loop-place.invariant.size; each = λ b l. front-done c.loop-place.invariant b (omega (arith, c.loop-place.invariant.size)) }
