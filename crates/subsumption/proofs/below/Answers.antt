-- `subsumption::below` meets its contract: below 32,768 the signed test tells which number is smaller, and its 1 or 0 counts it.
use mathlib.Core.Path.{◌≡◌, refl, sym, ap, ◌∙◌}
use mathlib.Core.Bool.{Bool, true, false}
use Prim.Native.Nat.{ℕ}
use native.Mathlib.Numerals.{add-one}
use lib.Dec.{leb, ltb}
use Rattle.std.specs.Int.{from_bool}
use Rattle.model.specs.Lists.{counted}
use Rattle.delays.proofs.Signed.{signed_test}
use Rattle.subsumption.proofs.below.Goals as goal

counted_by : (b : Bool) → from_bool b ≡ counted b 1
unfolding counted
counted_by true = refl
counted_by false = refl

pub returns : goal.returns
returns c =
    let args = c.args in
    c.from.ensures ∙ ap from_bool (signed_test args.x args.limit c.requires.0 c.requires.1) ∙ counted_by (ltb args.x args.limit) ∙
    ap (λ (x : ℕ). counted (leb x args.limit) 1) (sym (add-one args.x))
