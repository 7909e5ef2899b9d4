-- The parts of a record's 20 bits that shifts and masks leave are the fields of the task or of the edge (a field's
-- first bits are a shift away, its last ones a mask), and each field is below the power of its width.
use mathlib.Core.Path.{◌≡◌, ap, ◌∙◌}
use mathlib.Core.List.{List}
use Prim.Native.Nat.{ℕ, ◌+◌, ◌/◌, ◌%◌, ◌<◌}
use lib.Bits.{bit_and, and_mask}
use Rattle.bits.specs.Bits.{field}
use Rattle.bits.proofs.Laws.{field_below, field-high, field-low}
use Rattle.layout.specs.Layout.{task_at, edge_at}

module _ (s : List ℕ) (at r : ℕ) (is : r ≡ field s at 20) where
  pub processor-part : r / 65536 ≡ (task_at s at).processor
  unfolding task_at
  processor-part = ap (λ n. n / 65536) is ∙ field-high s at 4 16

  pub time-part : bit_and r 65535 ≡ (task_at s at).time
  unfolding task_at
  time-part = and_mask r 16 ∙ (ap (λ n. n % 65536) is ∙ field-low s at 4 16)

  pub source-part : r / 16384 ≡ (edge_at s at).source
  unfolding edge_at
  source-part = ap (λ n. n / 16384) is ∙ field-high s at 6 14

  pub sink-part : bit_and (r / 256) 63 ≡ (edge_at s at).sink
  unfolding edge_at
  sink-part = and_mask (r / 256) 6 ∙ (ap (λ n. n / 256 % 64) is ∙ (ap (λ n. n % 64) (field-high s at 12 8) ∙ field-low s at 6 6))

  pub delay-part : bit_and r 255 ≡ (edge_at s at).delay
  unfolding edge_at
  delay-part = and_mask r 8 ∙ (ap (λ n. n % 256) is ∙ field-low s at 12 8)

module _ (s : List ℕ) (at : ℕ) where
  pub processor-below : (task_at s at).processor < 16
  unfolding task_at
  processor-below = field_below s at 4

  pub time-below : (task_at s at).time < 65536
  unfolding task_at
  time-below = field_below s (at + 4) 16

  pub source_below : (edge_at s at).source < 64
  unfolding edge_at
  source_below = field_below s at 6

  pub delay-below : (edge_at s at).delay < 256
  unfolding edge_at
  delay-below = field_below s (at + 12) 8
