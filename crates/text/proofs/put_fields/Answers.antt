-- `text::put_fields` meets its contract. The loop's invariant: the numbers so far are put as fields.
use mathlib.Core.Path.{◌≡◌, sym, ap}
use mathlib.Core.List.{◌∷◌, ◌++◌}
use Prim.Native.Nat.{ℕ, ◌+◌, ◌<◌, ◌≤◌}
use native.Mathlib.Omega.{arith}
use borrow.Author.Rules.{rules}
use lib.ListN.{length, get_or, take}
use lib.Seq.{take_all, length-take-le}
use Rattle.std.proofs.lemmas.List.{get_or-take}
use Rattle.text.specs.Text.{space, decimal, spaced, numbers}
use Rattle.text.proofs.Appending as appending
use Rattle.text.proofs.Fields.{fields, fields-more, field_room}
use Rattle.text.proofs.put_fields.Goals as goal

pub loop-n-init : goal.loop-n-init
unfolding spaced numbers
loop-n-init c =
    let a = c.args in
    appending.nothing a.at a.out.now (omega (arith, c.requires))

-- the number at hand is that of the list at its place, in whichever front of the list the loop goes through
pub put_field-next-requires : goal.put_field-next-requires
put_field-next-requires c =
    let l = c.loop-n in
    let list = c.args.list.now in
    let inside : l.n-index < length list = search rules in
    let room : (x : ℕ) → x ≡ get_or list l.n-index 0 → l.next + length (space ∷ decimal x) ≤ length l.out =
    λ x is. rw is (omega (arith, field_room list l.n-index inside, c.requires, l.invariant.next_is, appending.same_length l.invariant)) in
    room _ (grind (arith, get_or-take, length-take-le))

pub loop-n-preserved : goal.loop-n-preserved
loop-n-preserved c =
    let l = c.loop-n in
    let list = c.args.list.now in
    let inside : l.n-index < length list = search rules in
    let more : (x : ℕ) → x ≡ get_or list l.n-index 0 → fields (take l.n-index list) ++ (space ∷ decimal x) ≡ fields (take (l.n-index + 1) list) =
    λ x is. rw is (sym (fields-more list l.n-index inside)) in
    appending.renamed (more _ (grind (arith, get_or-take, length-take-le))) (appending.followed l.invariant c.put_field-next.ensures)

pub shape_of-out : goal.shape_of-out
shape_of-out c = appending.same_length c.loop-n.invariant

pub returns : goal.returns
returns c =
    let l = c.loop-n in
    appending.renamed (ap fields (take_all l.n-index c.args.list.now (grind (arith, length-take-le)))) l.invariant
