-- A margin of numbers below 2 ^ 30 fits 32 bits: its size is at most the larger of the two.
use mathlib.Core.Bool.{Bool, true, false, cond}
use Prim.Native.Nat.{ℕ, zero, suc, ◌-◌, ◌<◌, ◌^◌}
use native.Mathlib.Omega.{arith}
use lib.Dec.{ltb}
use lib.IntN.{pos, negsuc, ◌-ℤ◌}
use lib.Signed.{mag}
use mir.Syntax.{w32}
use mir.Val.{SFits}
use Rattle.verdict.specs.Verdict.{margin}

margin-size : (b l H : ℕ) → b < H → l < H → mag (pos b -ℤ pos l) < H
margin-size b zero H left right = omega arith
margin-size b (suc l) H left right = go (ltb b (suc l))
  where
    go : (below : Bool) → mag (cond below (negsuc (suc l - suc b)) (pos (b - suc l))) < H
    go true = omega arith
    go false = omega arith

-- what fits 32 signed bits
pub half-word : {b : ℕ} → b < 1073741824 → b < 2 ^ 31
half-word small = omega arith

pub difference-fits : (b l : ℕ) → b < 1073741824 → l < 1073741824 → SFits w32 (pos b -ℤ pos l)
difference-fits b l left right = record { sfits = margin-size b l (2 ^ 31) (half-word left) (half-word right) }

pub margin-fits : (b l : ℕ) → b < 1073741824 → l < 1073741824 → SFits w32 (margin b l)
unfolding margin
margin-fits b l left right = difference-fits b l left right
