-- A signed test of two 16-bit numbers below 32,768 tells which is smaller: as signed numbers they are the same.
use borrow.Author.Tests.{ltb-true, ltb-false}
use mathlib.Core.Path.{◌≡◌, sym, ◌∙◌}
use mathlib.Core.Bool.{true, false}
use Prim.Native.Nat.{ℕ, ◌≤◌, ◌<◌}
use native.Mathlib.Omega.{arith}
use lib.Dec.{ltb}
use lib.Signed.{lt_z}
use mir.Syntax.{w16}
use mir.Val.{to_z}
use mir.ValLaws.{to_z_pos}

pub signed_test : (n m : ℕ) → n ≤ 32767 → m ≤ 32767 → lt_z (to_z w16 n) (to_z w16 m) ≡ ltb n m
signed_test n m k l = λ i. lt_z (to_z_pos w16 n (omega arith) i) (to_z_pos w16 m (omega arith) i)

pub signed-less : (n m : ℕ) → n ≤ 32767 → m ≤ 32767 → lt_z (to_z w16 n) (to_z w16 m) ≡ true → n < m
signed-less n m k l taken = ltb-true n m (sym (signed_test n m k l) ∙ taken)

pub signed-not-less : (n m : ℕ) → n ≤ 32767 → m ≤ 32767 → lt_z (to_z w16 n) (to_z w16 m) ≡ false → m ≤ n
signed-not-less n m k l left = ltb-false n m (sym (signed_test n m k l) ∙ left)
