-- `marks::next_place` meets its contract: no mark from `after` up to the bit where the search stands is set, and `next_bit` moves on to the first set bit of
-- the word, or to the next word.
use mathlib.Core.Path.{◌≡◌, ap, ◌∙◌}
use Prim.Native.Nat.{◌+◌, ◌-◌, ◌*◌}
use native.Mathlib.Omega.{arith}
use Rattle.marks.specs.Marks.{mark_at}
use Rattle.marks.proofs.Laws.{mark-in-word, none-to-bit}
use Rattle.marks.proofs.next_place.Goals as goal

pub returns-in-Some : goal.returns-in-Some
returns-in-Some c =
    let marks = c.args.marks in
    let word = c.loop-word.word in
    let bit = c.in-Some.bit in
    let first = c.in-Some.ensures in
    let before = none-to-bit marks c.args.after word c.loop-word.from bit (omega arith) first.3 c.loop-word.invariant.2 in
    let place : word * 64 + bit + 1 - 1 ≡ 64 * word + bit = omega arith in (
      omega arith,
      omega arith,
      ap (mark_at marks) place ∙ (mark-in-word marks word bit (omega arith) ∙ first.2),
      λ i l h. before i l (omega arith),
    )

pub loop-word-preserved : goal.loop-word-preserved
loop-word-preserved c =
    let before = none-to-bit c.args.marks c.args.after c.loop-word.word c.loop-word.from 64 (omega arith) c.in_default.ensures c.loop-word.invariant.2 in
    (omega arith, omega arith, λ i l h. before i l (omega arith))
