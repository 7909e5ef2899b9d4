-- `text::put_signed_field` meets its contract: a space, then the number behind it.
use mathlib.Core.Path.{ap}
use mathlib.Core.List.{◌∷◌}
use native.Mathlib.Omega.{arith}
use lib.IntN.{ℤ}
use lib.ListN.{length}
use mir.Syntax.{w32}
use mir.ValLaws.{to_z-of_z}
use Rattle.text.specs.Text.{space, signed}
use Rattle.text.proofs.Appending as appending
use Rattle.text.proofs.put_signed_field.Goals as goal

pub put_signed-requires : goal.put_signed-requires
put_signed-requires c =
    let e = c.put-next.ensures in
    let same = ap (λ (z : ℤ). length (signed z)) (to_z-of_z w32 c.args.n c.ranges.n) in
    omega (arith, c.requires, e.next_is, appending.same_length e, same)

pub returns : goal.returns
returns c =
    let same = ap (λ (z : ℤ). space ∷ signed z) (to_z-of_z w32 c.args.n c.ranges.n) in
    appending.renamed same (appending.followed c.put-next.ensures c.put_signed.ensures)
