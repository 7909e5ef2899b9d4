-- `report::lines::put_accepted_line` meets its contract: the word, two fields and the newline, each behind the one before.
use mathlib.Core.Path.{ap}
use mathlib.Core.List.{List, ◌∷◌}
use Prim.Native.Nat.{ℕ}
use native.Mathlib.Omega.{arith}
use lib.ListN.{length}
use borrow.Author.Rules.{rules}
use Rattle.text.specs.Text.{space}
use Rattle.text.proofs.Appending as appending
use Rattle.text.proofs.Signs.{signed-kept}
use Rattle.report.proofs.Pieces.{accepted-pieces, accepted-length}
use Rattle.report.proofs.lines.put_accepted_line.Goals as goal

pub put_word-word-requires : goal.put_word-word-requires
put_word-word-requires c =
    omega (arith, c.requires, accepted-length c.args.verdict)

pub put_field-latency-requires : goal.put_field-latency-requires
put_field-latency-requires c =
    let e0 = c.put_word-word.ensures in
    omega (arith, c.requires, accepted-length c.args.verdict, e0.next_is, appending.same_length e0)

pub put_signed_field-margin-requires : goal.put_signed_field-margin-requires
put_signed_field-margin-requires c =
    let e1 = c.put_field-latency.ensures in
    let e0 = c.put_word-word.ensures in
    let same = ap length (signed-kept c.args.verdict.margin (search rules)) in
    omega (arith, c.requires, accepted-length c.args.verdict, e0.next_is, appending.same_length e0, e1.next_is, appending.same_length e1, same)

pub put-requires : goal.put-requires
put-requires c =
    let e2 = c.put_signed_field-margin.ensures in
    let e1 = c.put_field-latency.ensures in
    let e0 = c.put_word-word.ensures in
    let same = ap length (signed-kept c.args.verdict.margin (search rules)) in
    omega (arith, c.requires, accepted-length c.args.verdict, e0.next_is, appending.same_length e0, e1.next_is, appending.same_length e1, e2.next_is, appending.same_length e2, same)

pub returns : goal.returns
returns c =
    let e3 = c.put.ensures in
    let e2 = c.put_signed_field-margin.ensures in
    let e1 = c.put_field-latency.ensures in
    let e0 = c.put_word-word.ensures in
    let same = signed-kept c.args.verdict.margin (search rules) in
    appending.renamed (accepted-pieces c.args.verdict) (appending.followed (appending.followed (appending.followed e0 e1) (appending.renamed (ap (λ (z : List ℕ). space ∷ z) same) e2)) e3)
