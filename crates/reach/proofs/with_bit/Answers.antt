-- `reach::with_bit` meets its contract: 1 shifted to a place is the power of 2 that has this one bit.
use mathlib.Core.Path.{◌≡◌, ap, ◌∙◌}
use mathlib.Core.Bool.{Bool, ◌||◌}
use Prim.Native.Nat.{ℕ, ◌*◌, ◌%◌, ◌^◌, ◌<◌}
use native.Mathlib.Nat.{one-mul}
use native.Mathlib.Omega.{arith}
use lib.Bits.{bit_or}
use lib.Pow.{shl_exact}
use Rattle.reach.specs.Reach.{bit}
use Rattle.reach.proofs.Bits.{bit-or, bit-power}
use Rattle.reach.proofs.with_bit.Goals as goal

-- `1 << at` at 64 bits
one_shifted : (at : ℕ) → at < 64 → (1 * 2 ^ at) % 2 ^ 64 ≡ 2 ^ at
one_shifted at l = shl_exact {a = 1} 1 at 64 (omega arith) (omega arith) ∙ one-mul (2 ^ at)

pub returns : goal.returns
returns c = λ b.
    let word = c.args.word in
    let at = c.args.at in
    ap (λ (n : ℕ). bit (bit_or word n) b) (one_shifted at c.requires) ∙
    (bit-or word (2 ^ at) b ∙ ap (λ (x : Bool). bit word b || x) (bit-power at b))
