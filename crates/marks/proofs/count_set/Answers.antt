-- `marks::count_set` meets its contract: the ones of the four words are the marks set (`count-words`), of which there are at most 256.
use mathlib.Core.Path.{◌≡◌}
use Prim.Native.Nat.{◌<◌, ◌^◌}
use native.Mathlib.Omega.{arith}
use lib.Count.{ones}
use lib.ListN.{length, get_or}
use mir.Syntax.{w64}
use mir.Val.{Fits}
use borrow.Author.Rules.{rules}
use Rattle.std.specs.List.{sum_by}
use Rattle.marks.specs.Marks.{mark_at, set_below}
use Rattle.marks.proofs.Laws.{count-words, set-below-le, sum_four}
use Rattle.marks.proofs.count_set.Goals as goal
use Rattle.marks.proofs.count_set.Goals.{Start}

counted_words : (c : Start) → sum_by ones c.args.marks.words ≡ set_below 256 (mark_at c.args.marks)
counted_words c =
    let four : length c.args.marks.words ≡ 4 = search rules in
    count-words c.args.marks four (λ w. let held : Fits w64 (get_or c.args.marks.words w 0) = search rules in held.fits)

pub sum-requires-clause-fits : goal.sum-requires-clause-fits
sum-requires-clause-fits c =
    let words = c.args.marks.words in
    let few : sum_by ones words < 2 ^ 32 = omega (arith, counted_words (goal.at.sum-requires-clause-fits c).Start, set-below-le 256 (mark_at c.args.marks)) in
    search rules

pub returns : goal.returns
returns c =
    let summed : c.sum.result ≡ sum_by ones c.args.marks.words = search rules in
    let four : length c.args.marks.words ≡ 4 = search rules in
    omega (arith, summed, counted_words (goal.at.returns c).Start, set-below-le 256 (mark_at c.args.marks), sum_four ones c.args.marks.words four)
