-- `report::lines::put_redundant_line` meets its contract: the word, the count, the places of the marks and the newline, each behind the
-- one before. The lent front of the list of places holds just these places.
use mathlib.Core.Path.{ap}
use mathlib.Core.List.{List}
use Prim.Native.Nat.{ℕ}
use native.Mathlib.Omega.{arith}
use lib.ListN.{length}
use Rattle.text.specs.Text.{spaced, numbers}
use Rattle.text.proofs.Appending as appending
use Rattle.report.proofs.Pieces.{redundant-pieces, redundant-length}
use Rattle.report.proofs.Whole.{places-front}
use Rattle.report.proofs.lines.put_redundant_line.Goals as goal

pub put_word-word-requires : goal.put_word-word-requires
put_word-word-requires c =
    omega (arith, c.requires, redundant-length c.args.set)

pub put_field-count-requires : goal.put_field-count-requires
put_field-count-requires c =
    let e0 = c.put_word-word.ensures in
    omega (arith, c.requires, redundant-length c.args.set, e0.next_is, appending.same_length e0)

pub put_fields-places-requires : goal.put_fields-places-requires
put_fields-places-requires c =
    let e1 = c.put_field-count.ensures in
    let e0 = c.put_word-word.ensures in
    let same = ap (λ (z : List ℕ). length (spaced (numbers z))) (places-front c.args.set.marks c.places_of-listed.result c.places_of-listed.ensures) in
    omega (arith, c.requires, redundant-length c.args.set, e0.next_is, appending.same_length e0, e1.next_is, appending.same_length e1, same)

pub put-requires : goal.put-requires
put-requires c =
    let e2 = c.put_fields-places.ensures in
    let e1 = c.put_field-count.ensures in
    let e0 = c.put_word-word.ensures in
    let same = ap (λ (z : List ℕ). length (spaced (numbers z))) (places-front c.args.set.marks c.places_of-listed.result c.places_of-listed.ensures) in
    omega (arith, c.requires, redundant-length c.args.set, e0.next_is, appending.same_length e0, e1.next_is, appending.same_length e1, e2.next_is, appending.same_length e2, same)

pub returns : goal.returns
returns c =
    let e3 = c.put.ensures in
    let e2 = c.put_fields-places.ensures in
    let e1 = c.put_field-count.ensures in
    let e0 = c.put_word-word.ensures in
    let same = places-front c.args.set.marks c.places_of-listed.result c.places_of-listed.ensures in
    appending.renamed (redundant-pieces c.args.set) (appending.followed (appending.followed (appending.followed e0 e1) (appending.renamed (ap (λ (z : List ℕ). spaced (numbers z)) same) e2)) e3)
