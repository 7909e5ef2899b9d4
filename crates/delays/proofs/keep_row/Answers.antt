-- `delays::keep_row` meets its contract: after b steps b entries are kept; the row is then known to be finished.
use mathlib.Core.Path.{◌≡◌, refl, subst}
use Prim.Native.Nat.{ℕ, ◌+◌, ◌*◌, ◌<◌, min}
use native.Mathlib.Omega.{arith}
use lib.ListN.{length, get_or}
use Rattle.delays.proofs.Parts.{PartDone, part_none, part-more}
use Rattle.delays.proofs.Kept.{known_more}
use Rattle.delays.proofs.keep_row.Goals as goal

pub loop-b-init : goal.loop-b-init
loop-b-init c = part_none (c.args.a * 64) (λ i. min (get_or c.args.row.now i 0) 16383) c.args.known.now

pub bounds-known-at : goal.bounds-known-at
bounds-known-at c = omega (arith, c.requires.0, c.requires.1.1.few, c.requires.1.1.size, c.loop-b.invariant.size)

pub loop-b-preserved : goal.loop-b-preserved
loop-b-preserved c =
    let inside : c.args.a * 64 + c.loop-b.b < length c.loop-b.known = omega (arith, c.requires.0, c.requires.1.1.few, c.requires.1.1.size, c.loop-b.invariant.size) in
    part-more c.loop-b.invariant (c.args.a * 64 + c.loop-b.b) c.min.result refl inside c.min.ensures

pub returns : goal.returns
returns c = record {
  done = c.with_bit.ensures;
  known = λ es square is.
      let all : c.loop-b.b ≡ length c.args.row.now = omega arith in
      known_more c.with_bit.result c.requires.0 square is
      (subst (λ (k : ℕ). PartDone (c.args.a * 64) k (λ i. min (get_or c.args.row.now i 0) 16383) c.args.known.now c.loop-b.known) all c.loop-b.invariant)
      c.with_bit.ensures;
}
