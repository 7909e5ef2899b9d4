-- `report::lines::put_refused_line` meets its contract: the word, four fields and the newline, each behind the one before.
use mathlib.Core.Path.{ap}
use mathlib.Core.List.{List, ◌∷◌}
use Prim.Native.Nat.{ℕ}
use native.Mathlib.Omega.{arith}
use lib.ListN.{length}
use borrow.Author.Rules.{rules}
use Rattle.text.specs.Text.{space}
use Rattle.text.proofs.Appending as appending
use Rattle.text.proofs.Signs.{signed-kept}
use Rattle.report.proofs.Pieces.{refused-pieces, refused-length}
use Rattle.report.proofs.lines.put_refused_line.Goals as goal

pub put_word-word-requires : goal.put_word-word-requires
put_word-word-requires c =
    omega (arith, c.requires, refused-length c.args.outcome)

pub put_field-number-requires : goal.put_field-number-requires
put_field-number-requires c =
    let e0 = c.put_word-word.ensures in
    omega (arith, c.requires, refused-length c.args.outcome, e0.next_is, appending.same_length e0)

pub put_field-place-requires : goal.put_field-place-requires
put_field-place-requires c =
    let e1 = c.put_field-number.ensures in
    let e0 = c.put_word-word.ensures in
    omega (arith, c.requires, refused-length c.args.outcome, e0.next_is, appending.same_length e0, e1.next_is, appending.same_length e1)

pub put_field-latency-requires : goal.put_field-latency-requires
put_field-latency-requires c =
    let e2 = c.put_field-place.ensures in
    let e1 = c.put_field-number.ensures in
    let e0 = c.put_word-word.ensures in
    omega (arith, c.requires, refused-length c.args.outcome, e0.next_is, appending.same_length e0, e1.next_is, appending.same_length e1, e2.next_is, appending.same_length e2)

pub put_signed_field-margin-requires : goal.put_signed_field-margin-requires
put_signed_field-margin-requires c =
    let e3 = c.put_field-latency.ensures in
    let e2 = c.put_field-place.ensures in
    let e1 = c.put_field-number.ensures in
    let e0 = c.put_word-word.ensures in
    let same = ap length (signed-kept c.args.outcome.margin (search rules)) in
    omega (arith, c.requires, refused-length c.args.outcome, e0.next_is, appending.same_length e0, e1.next_is, appending.same_length e1, e2.next_is, appending.same_length e2, e3.next_is, appending.same_length e3, same)

pub put-requires : goal.put-requires
put-requires c =
    let e4 = c.put_signed_field-margin.ensures in
    let e3 = c.put_field-latency.ensures in
    let e2 = c.put_field-place.ensures in
    let e1 = c.put_field-number.ensures in
    let e0 = c.put_word-word.ensures in
    let same = ap length (signed-kept c.args.outcome.margin (search rules)) in
    omega (arith, c.requires, refused-length c.args.outcome, e0.next_is, appending.same_length e0, e1.next_is, appending.same_length e1, e2.next_is, appending.same_length e2, e3.next_is, appending.same_length e3, e4.next_is, appending.same_length e4, same)

pub returns : goal.returns
returns c =
    let e5 = c.put.ensures in
    let e4 = c.put_signed_field-margin.ensures in
    let e3 = c.put_field-latency.ensures in
    let e2 = c.put_field-place.ensures in
    let e1 = c.put_field-number.ensures in
    let e0 = c.put_word-word.ensures in
    let same = signed-kept c.args.outcome.margin (search rules) in
    appending.renamed (refused-pieces c.args.outcome) (appending.followed (appending.followed (appending.followed (appending.followed (appending.followed e0 e1) e2) e3) (appending.renamed (ap (λ (z : List ℕ). space ∷ z) same) e4)) e5)
