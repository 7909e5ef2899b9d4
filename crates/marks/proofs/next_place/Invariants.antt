-- `marks::next_place` meets its contract: no mark from `after` up to the bit where the search stands is set, and `next_bit` moves on to the first set bit of
-- the word, or to the next word.
use mathlib.Core.Path.{◌≡◌}
use mathlib.Core.Bool.{false}
use Prim.Native.Nat.{ℕ, ◌+◌, ◌*◌, ◌≤◌, ◌<◌}
use Rattle.marks.specs.Marks.{mark_at}
use Rattle.marks.proofs.next_place.Given as goal

abbrev pub invariant-loop-word : goal.invariant-loop-word
invariant-loop-word l =
    (l.from < 64) × (l.after ≤ 64 * l.word + l.from) × ((i : ℕ) → l.after ≤ i → i < 64 * l.word + l.from → mark_at l.marks i ≡ false)
