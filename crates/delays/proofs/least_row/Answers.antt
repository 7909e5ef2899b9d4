-- `delays::least_row` meets its contract: no edge betters an entry after what was seen of its source's, and in the end what was seen is the row itself.
use Prim.Native.Nat.{◌+◌, ◌*◌, ◌≤◌}
use native.Mathlib.Omega.{arith}
use lib.ListN.{length}
use Rattle.delays.proofs.Rows.{far-low, row-copied, start-low, seen_start, row_is}
use Rattle.delays.proofs.least_row.Goals as goal

pub loop-u-init : goal.loop-u-init
loop-u-init c =
    let room : c.args.a * 64 + 64 ≤ length c.args.known.now = omega (arith, c.requires.a_in_bounds, c.requires.known.1.few, c.requires.known.1.size) in
    let copied = row-copied room c.copy_from_slice.ensures.after in
    (start-low c.requires.known.1 c.requires.a_in_bounds copied, far-low, λ es square. seen_start square c.requires.a_in_bounds copied, omega arith)

pub loop-u-preserved : goal.loop-u-preserved
loop-u-preserved c =
    let below = c.in-Some.ensures.0 in
    (c.scan.ensures.row_low, c.scan.ensures.seen_low, λ es square. c.scan.ensures.ways (length c.args.row.now) es c.args.a below square (c.loop-u.invariant.2 es square), omega (arith, below))

pub returns : goal.returns
returns c = λ es square.
    row_is square c.requires.a_in_bounds (c.loop-u.invariant.2 es square) (λ v l. c.in_default.ensures v (omega arith) l) c.hand_over.ensures.size c.hand_over.ensures.each
