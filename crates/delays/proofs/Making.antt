-- A row made in its part of a table: the part has room for as many numbers as there are tasks, it comes back as the row, and the list is as it was outside it.
use mathlib.Core.Path.{◌≡◌, sym, ap, ◌∙◌, subst}
use mathlib.Core.List.{List}
use Prim.Native.Nat.{ℕ, ◌+◌, ◌-◌, ◌*◌, ◌≤◌, ◌<◌}
use native.Mathlib.Omega.{arith}
use lib.ListN.{length, take, replicate, length-replicate}
use lib.Seq.{length-take-le}
use borrow.Rule.Slice.PartMut.{mid_of, put_mid, mid_len}
use Rattle.model.specs.Tasks.{Edge}
use Rattle.model.specs.Compute.{least_delay}
use Rattle.records.proofs.Parts.{put-part}
use Rattle.delays.specs.Delays.{entry, delay_row, with_row}
use Rattle.delays.specs.Rows.{Known}
use Rattle.delays.proofs.Table.{row-end}

module _ {n a : ℕ} (inner : a < n) (table : List ℕ) (room : n * n ≤ length table) where
  pub part-size : length (mid_of (a * n) (a * n + n - a * n) table) ≡ n
  part-size = mid_len (a * n) (a * n + n) table (omega (arith, row-end inner, room)) ∙ (let count : a * n + n - a * n ≡ n = omega arith in count)

  pub part-known : {es : List Edge} {done : ℕ} {known : List ℕ} → Known n es done known → Known (length (mid_of (a * n) (a * n + n - a * n) table)) es done known
  part-known {es} {done} {known} square = subst (λ (k : ℕ). Known k es done known) (sym part-size) square

  -- the row that is made, of as many numbers as the part has
  pub list-made :
      (es : List Edge) {ys : List ℕ} → ys ≡ delay_row (length (mid_of (a * n) (a * n + n - a * n) table)) es a
      → put_mid (a * n) (a * n + n - a * n) table ys ≡ with_row n es a table
  unfolding with_row delay_row
  list-made es {ys} made =
      let count : n ≡ a * n + n - a * n = omega arith in
      put-part (a * n) (a * n + n) (λ b. entry (least_delay n es a b)) table (omega arith) count (made ∙ ap (λ (k : ℕ). delay_row k es a) part-size)

-- a row of its own, in the front of a list that has room for 64 numbers
pub front-size : {n : ℕ} → n ≤ 64 → length {A = ℕ} (take n (replicate 64 0)) ≡ n
front-size {n} few = length-take-le n (replicate 64 0) (omega (arith, few, length-replicate {A = ℕ} 64 0))
