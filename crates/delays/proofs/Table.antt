-- Rows and the table of least delays: how long they are, what stands in each, the table at the front of a list, and a list whose rows are made one by one.
use mathlib.Core.Path.{◌≡◌, sym, ap, ◌∙◌}
use mathlib.Core.Logic.{◌⊎◌, inl, inr}
use mathlib.Core.List.{List, ◌++◌}
use Prim.Native.Nat.{ℕ, suc, ◌+◌, ◌-◌, ◌*◌, ◌≤◌, ◌<◌}
use native.Mathlib.Nat.{sub-zero, zero-mul, suc-mul, mul-le-mul_right}
use native.Mathlib.Omega.{arith}
use lib.ListN.{length, get_or, take, drop, length-append, length-drop, take-append-drop, get_or-append}
use lib.Seq.{take_at, get_or-drop, get_or-append-add, ext_get_or}
use Rattle.model.specs.Lists.{tabulate}
use Rattle.model.specs.Tasks.{Edge}
use Rattle.model.specs.Compute.{least_delay}
use Rattle.model.proofs.Basics.{order}
use Rattle.records.specs.Columns.{with_part}
use Rattle.records.proofs.Fill.{length-tabulate, get_d_tabulate}
use Rattle.records.proofs.Rows.{rows-length, rows_at}
use Rattle.records.proofs.Parts.{part_length, part-before, part-inside, part-after}
use Rattle.delays.specs.Delays.{entry, delay_row, delay_table, with_row, rows_from}

module _ (n : ℕ) (es : List Edge) where
  pub row-length : (a : ℕ) → length (delay_row n es a) ≡ n
  unfolding delay_row
  row-length a = length-tabulate n (λ b. entry (least_delay n es a b))

  pub row-at : (a b : ℕ) → b < n → get_or (delay_row n es a) b 0 ≡ entry (least_delay n es a b)
  unfolding delay_row
  row-at a b l = get_d_tabulate n (λ b. entry (least_delay n es a b)) 0 b l

  pub table-length : length (delay_table n es) ≡ n * n
  unfolding delay_table
  table-length = rows-length n (delay_row n es) row-length n

  pub table_at : (a b : ℕ) → a < n → b < n → get_or (delay_table n es) (a * n + b) 0 ≡ entry (least_delay n es a b)
  unfolding delay_table
  table_at a b l k = rows_at n (delay_row n es) row-length n a b l k ∙ row-at a b k

-- the front of a list into which the table was written, lent from its start
pub table-front : (n : ℕ) (es : List Edge) (past : List ℕ) {xs : List ℕ} → xs ≡ delay_table n es ++ past → take (n * n - 0) xs ≡ delay_table n es
table-front n es past written =
    ap (λ (zs : List ℕ). take (n * n - 0) zs) written ∙ take_at (delay_table n es) past (n * n - 0) (table-length n es ∙ sym (sub-zero (n * n)))

pub table-room : (n : ℕ) (es : List Edge) (past : List ℕ) {xs : List ℕ} → xs ≡ delay_table n es ++ past → n * n ≤ length xs
table-room n es past written =
    let whole = ap length written ∙ length-append (delay_table n es) past in
    omega (arith, whole, table-length n es)

-- ── Rows made one by one ──

-- a row ends within the table
pub row-end : {n a : ℕ} → a < n → a * n + n ≤ n * n
row-end {n} {a} inner = let whole : suc a * n ≤ n * n = mul-le-mul_right n inner in omega (arith, whole, suc-mul a n)

module _ (n : ℕ) (es : List Edge) (table : List ℕ) where
  -- before any row
  pub rows_none : rows_from n es n table ≡ table
  unfolding rows_from with_part tabulate
  rows_none =
      let none : n * n - n * n ≡ 0 = omega arith in
      ap (λ (k : ℕ). take (n * n) table ++ (tabulate k (λ i. get_or (delay_table n es) (n * n + i) 0) ++ drop (n * n) table)) none ∙ take-append-drop (n * n) table

  module _ (room : n * n ≤ length table) where
    module _ (a : ℕ) (few : a ≤ n) where
      before : a * n ≤ n * n
      before = mul-le-mul_right n few

      pub rows-size : length (rows_from n es a table) ≡ length table
      unfolding rows_from
      rows-size = part_length (a * n) (n * n) (λ i. get_or (delay_table n es) (a * n + i) 0) table before room

      pub rows_made : (i : ℕ) → a * n ≤ i → i < n * n → get_or (rows_from n es a table) i 0 ≡ get_or (delay_table n es) i 0
      unfolding rows_from
      rows_made i l k =
          let there : a * n + (i - a * n) ≡ i = omega arith in
          ap (λ (x : ℕ). get_or (rows_from n es a table) x 0) (sym there) ∙
          (part-inside (a * n) (n * n) (λ x. get_or (delay_table n es) (a * n + x) 0) table before room (i - a * n) (omega arith) ∙
          ap (λ (x : ℕ). get_or (delay_table n es) x 0) there)

      pub rows_other : (i : ℕ) → (i < a * n) ⊎ (n * n ≤ i) → get_or (rows_from n es a table) i 0 ≡ get_or table i 0
      unfolding rows_from
      rows_other i (inl l) = part-before (a * n) (n * n) (λ x. get_or (delay_table n es) (a * n + x) 0) table before room i l
      rows_other i (inr l) = part-after (a * n) (n * n) (λ x. get_or (delay_table n es) (a * n + x) 0) table before room i l

    module _ (a : ℕ) (inner : a < n) where
      inside : a * n + n ≤ length table
      inside = omega (arith, row-end inner, room)

      pub row-size : length (with_row n es a table) ≡ length table
      unfolding with_row
      row-size = part_length (a * n) (a * n + n) (λ b. entry (least_delay n es a b)) table (omega arith) inside

      pub row_made_lem : (b : ℕ) → b < n → get_or (with_row n es a table) (a * n + b) 0 ≡ get_or (delay_table n es) (a * n + b) 0
      unfolding with_row
      row_made_lem b l =
          part-inside (a * n) (a * n + n) (λ b. entry (least_delay n es a b)) table (omega arith) inside b (omega arith) ∙
          sym (table_at n es a b inner l)

      pub row_other : (i : ℕ) → (i < a * n) ⊎ (a * n + n ≤ i) → get_or (with_row n es a table) i 0 ≡ get_or table i 0
      unfolding with_row
      row_other i (inl l) = part-before (a * n) (a * n + n) (λ b. entry (least_delay n es a b)) table (omega arith) inside i l
      row_other i (inr l) = part-after (a * n) (a * n + n) (λ b. entry (least_delay n es a b)) table (omega arith) inside i l

-- one row more
pub rows_next :
    (n : ℕ) (es : List Edge) (table : List ℕ) (a : ℕ) → a < n → n * n ≤ length table → with_row n es a (rows_from n es (suc a) table) ≡ rows_from n es a table
rows_next n es table a inner room =
    ext_get_or 0 (with_row n es a next) (rows_from n es a table)
    (row-size n es next wide a inner ∙ (long ∙ sym (rows-size n es table room a few)))
    (λ i l. go i (order (a * n) i) (order (suc a * n) i) (order (n * n) i))
  where
    few : a ≤ n
    few = omega arith

    next : List ℕ
    next = rows_from n es (suc a) table

    long : length next ≡ length table
    long = rows-size n es table room (suc a) inner

    wide : n * n ≤ length next
    wide = omega (arith, long)

    row : suc a * n ≡ a * n + n
    row = suc-mul a n

    go : (i : ℕ) → (a * n ≤ i) ⊎ (i < a * n) → (suc a * n ≤ i) ⊎ (i < suc a * n) → (n * n ≤ i) ⊎ (i < n * n)
        → get_or (with_row n es a next) i 0 ≡ get_or (rows_from n es a table) i 0
    go i (inr l) own past =
        row_other n es next wide a inner i (inl l) ∙
        (rows_other n es table room (suc a) inner i (inl (omega (arith, row))) ∙ sym (rows_other n es table room a few i (inl l)))
    go i (inl l) (inr k) past =
        let there : a * n + (i - a * n) ≡ i = omega arith in
        let whole : suc a * n ≤ n * n = mul-le-mul_right n inner in
        ap (λ (x : ℕ). get_or (with_row n es a next) x 0) (sym there) ∙
        (row_made_lem n es next wide a inner (i - a * n) (omega (arith, row)) ∙
        (ap (λ (x : ℕ). get_or (delay_table n es) x 0) there ∙ sym (rows_made n es table room a few i l (omega (arith, whole)))))
    go i (inl l) (inl k) (inl past) =
        row_other n es next wide a inner i (inr (omega (arith, row))) ∙
        (rows_other n es table room (suc a) inner i (inr past) ∙ sym (rows_other n es table room a few i (inr past)))
    go i (inl l) (inl k) (inr m) =
        row_other n es next wide a inner i (inr (omega (arith, row))) ∙
        (rows_made n es table room (suc a) inner i k m ∙ sym (rows_made n es table room a few i l m))

-- all rows
pub rows_all : (n : ℕ) (es : List Edge) (table : List ℕ) → n * n ≤ length table → rows_from n es 0 table ≡ delay_table n es ++ drop (n * n) table
rows_all n es table room =
    ext_get_or 0 (rows_from n es 0 table) (delay_table n es ++ drop (n * n) table)
    (rows-size n es table room 0 (omega arith) ∙ (let whole = length-append (delay_table n es) (drop (n * n) table) in
    omega (arith, whole, length-drop (n * n) table, table-length n es, room)))
    (λ i l. go i (order (n * n) i))
  where
    zero-rows : 0 * n ≡ 0
    zero-rows = zero-mul n

    go : (i : ℕ) → (n * n ≤ i) ⊎ (i < n * n) → get_or (rows_from n es 0 table) i 0 ≡ get_or (delay_table n es ++ drop (n * n) table) i 0
    go i (inl past) =
        let there : n * n + (i - n * n) ≡ i = omega arith in
        let seam : length (delay_table n es) + (i - n * n) ≡ i = omega (arith, table-length n es) in
        rows_other n es table room 0 (omega arith) i (inr past) ∙
        (ap (λ (x : ℕ). get_or table x 0) (sym there) ∙
        (sym (get_or-drop (n * n) table (i - n * n) 0) ∙
        (sym (get_or-append-add (delay_table n es) (drop (n * n) table) (i - n * n) 0) ∙
        ap (λ (x : ℕ). get_or (delay_table n es ++ drop (n * n) table) x 0) seam)))
    go i (inr l) =
        rows_made n es table room 0 (omega arith) i (omega (arith, zero-rows)) l ∙
        sym (get_or-append (delay_table n es) (drop (n * n) table) 0 i (omega (arith, table-length n es)))
