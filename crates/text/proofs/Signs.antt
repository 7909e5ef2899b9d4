-- Numbers with their sign, by whether they are below 0: std writes them so, and they are written the same when read back from their 32 bits.
use mathlib.Core.Path.{◌≡◌, ap}
use mathlib.Core.List.{List, ◌∷◌}
use Prim.Native.Nat.{ℕ, suc}
use native.Mathlib.Omega.{arith}
use lib.IntN.{ℤ, pos, negsuc}
use mir.Syntax.{w32}
use mir.Val.{SFits, to_z, of_z}
use mir.ValLaws.{to_z-of_z}
use Rattle.std.specs.Fmt.{signed_decimal}
use Rattle.text.specs.Text.{minus, signed}
use Rattle.text.proofs.Decimal.{std_decimal}

pub std_signed : (z : ℤ) → SFits w32 z → signed_decimal z ≡ signed z
unfolding signed
std_signed (pos n) f = std_decimal n (omega (arith, f))
std_signed (negsuc n) f = ap (λ (ds : List ℕ). minus ∷ ds) (std_decimal (suc n) (omega (arith, f)))

-- a number read back from its bits is written the same
pub signed-kept : (z : ℤ) → SFits w32 z → signed (to_z w32 (of_z w32 z)) ≡ signed z
signed-kept z f = ap signed (to_z-of_z w32 z f)
