-- `candidates::exceeding` meets its contract: after b steps, if none was found, none of the first b counts exceeds the number.
use mathlib.Core.Path.{◌≡◌}
use Prim.Native.Nat.{◌+◌, ◌≤◌}
use native.Mathlib.Omega.{arith}
use borrow.Author.Count.{below_more}
use Rattle.records.specs.Columns.{at}
use Rattle.candidates.proofs.exceeding.Goals as goal

pub exceeds-many-requires : goal.exceeds-many-requires
unfolding at
exceeds-many-requires c =
    let asked = c.requires.end_bound in
    (asked.0, asked.1 c.loop-b.b (omega arith))

pub loop-b-preserved : goal.loop-b-preserved
unfolding at
loop-b-preserved c =
    let args = c.args in
    let loop = c.loop-b in
    let more = c.exceeds-many.result in (
      omega (arith, c.exceeds-many.ensures.few),
      λ none.
          let before : loop.many ≡ 0 = omega arith in
          let now : more ≡ 0 = omega arith in
          below_more
          (λ d. at args.to.now (args.start + d) ≡ 16383 → args.end ≤ at args.latest.now d → at args.counts.now (args.start + d) ≤ args.least)
          loop.b (loop.invariant.1 before) (c.exceeds-many.ensures.none now),
    )
