-- `delays::relax` meets its contract: after b steps b entries are lowered.
use mathlib.Core.Path.{◌≡◌, ◌∙◌}
use Prim.Native.Nat.{◌+◌, ◌<◌, min}
use native.Mathlib.Omega.{arith}
use lib.ListN.{length, get_or}
use Rattle.delays.proofs.Parts.{part_none, part-next, part-more, front-done}
use Rattle.delays.proofs.relax.Goals as goal

pub loop-b-init : goal.loop-b-init
loop-b-init c =
    let args = c.args in
    part_none 0 (λ i. min (get_or args.row.now i 0) (args.way + get_or args.known.now (args.start + i) 0)) args.row.now

pub nearer-requires : goal.nearer-requires
nearer-requires c =
    let b = c.loop-b.b in
    let below = c.loop-b-test.true in
    let place : b ≡ 0 + b = omega arith in
    (omega (arith, c.requires.start_in_bounds.2.each b below, part-next c.loop-b.invariant b place), omega (arith, c.requires.start_in_bounds.1, c.requires.by_index b below))

pub loop-b-preserved : goal.loop-b-preserved
loop-b-preserved c =
    let args = c.args in
    let loop = c.loop-b in
    let b = loop.b in
    let place : b ≡ 0 + b = omega arith in
    let inside : b < length loop.row = omega (arith, loop.invariant.size, c.requires.start_in_bounds.2.size) in
    let value : c.nearer.result ≡ min (get_or args.row.now b 0) (args.way + get_or args.known.now (args.start + b) 0) =
    omega (arith, c.nearer.ensures, part-next loop.invariant b place) in
    part-more loop.invariant b c.nearer.result place inside value

pub returns : goal.returns
returns c =
    let done = c.loop-b.invariant in
    let low = c.requires.start_in_bounds.2 in
    record {
      low = record {
        size = done.size ∙ low.size;
        each = λ b l. omega (arith, front-done done b (omega (arith, l, c.loop-b-test.false)), low.each b l);
      };
      each = λ b l. front-done done b (omega (arith, l, c.loop-b-test.false));
    }
