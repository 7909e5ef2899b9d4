-- A square table in which the entries from each number to itself are set to 0 one after the other: a table of least delays so becomes that in which a
-- task counts 0 to itself. Each store changes one entry.
use mathlib.Core.Path.{◌≡◌, refl, sym, ap, ◌∙◌}
use mathlib.Core.Logic.{◌⊎◌, inl, inr, ◌≢◌}
use mathlib.Core.Bool.{Bool, true, false}
use mathlib.Core.List.{List}
use Prim.Native.Nat.{ℕ, ◌+◌, ◌*◌, ◌≤◌, ◌<◌}
use native.Mathlib.Nat.{not-suc-le-zero}
use native.Mathlib.Omega.{arith}
use lib.Dec.{eqb}
use lib.ListN.{length, get_or, set, length-set}
use lib.Seq.{get_or-set_same, get_or-set_other}
use borrow.Author.Tests.{eqb-true, eqb-false}
use Rattle.model.specs.Tasks.{Edge}
use Rattle.model.specs.Compute.{least_delay}
use Rattle.model.specs.Plan.{if_same, counting}
use Rattle.model.proofs.Basics.{order}
use Rattle.delays.specs.Delays.{entry, delay_table}
use Rattle.delays.proofs.Table.{table_at}
use Rattle.candidates.specs.Candidates.{count_table}
use Rattle.candidates.proofs.Places.{places-apart, rows_of}

-- ── The entries set to 0 so far ──

-- v entries from a number to itself are 0, the others as in the first table
pub record Zeroed (n v : ℕ) (first table : List ℕ) : Type 0 where
  pub size : length table ≡ length first
  pub itself : (c : ℕ) → c < v → get_or table (c * n + c) 0 ≡ 0
  pub others : (c d : ℕ) → c < n → d < n → (c ≢ d) ⊎ (v ≤ c) → get_or table (c * n + d) 0 ≡ get_or first (c * n + d) 0

pub zeroed-more :
    {n v : ℕ} {first table : List ℕ} → Zeroed n v first table → v < n → v * n + v < length table → Zeroed n (v + 1) first (set table (v * n + v) 0)
zeroed-more {n} {v} {first} {table} done below inside = record {
  size = length-set table (v * n + v) 0 ∙ done.size;
  itself = λ c l. next c l (order v c);
  others = λ c d l k which.
      get_or-set_other table (v * n + v) (c * n + d) 0 0 (places-apart n c d v v k below (other c d which (order c v) (order v c))) ∙
      done.others c d l k (earlier which);
}
  where
    next : (c : ℕ) → c < v + 1 → (v ≤ c) ⊎ (c < v) → get_or (set table (v * n + v) 0) (c * n + c) 0 ≡ 0
    next c l (inl h) =
        let same : c ≡ v = omega arith in
        ap (λ (x : ℕ). get_or (set table (v * n + v) 0) (x * n + x) 0) same ∙ get_or-set_same table (v * n + v) 0 0 inside
    next c l (inr h) =
        get_or-set_other table (v * n + v) (c * n + c) 0 0 (places-apart n c c v v (omega arith) below (inl (λ q. omega arith))) ∙ done.itself c h

    earlier : {c d : ℕ} → (c ≢ d) ⊎ (v + 1 ≤ c) → (c ≢ d) ⊎ (v ≤ c)
    earlier (inl apart) = inl apart
    earlier (inr l) = inr (omega arith)

    other : (c d : ℕ) → (c ≢ d) ⊎ (v + 1 ≤ c) → (c ≤ v) ⊎ (v < c) → (v ≤ c) ⊎ (c < v) → (c ≢ v) ⊎ (d ≢ v)
    other c d (inr l) up down = inl (λ q. omega arith)
    other c d (inl apart) (inr h) down = inl (λ q. omega arith)
    other c d (inl apart) (inl h) (inr k) = inl (λ q. omega arith)
    other c d (inl apart) (inl h) (inl k) = inr (λ q. apart (omega arith))

-- ── All of them ──

module _ {n : ℕ} {first table : List ℕ} (done : Zeroed n n first table) (es : List Edge) (least : first ≡ delay_table n es) where
  delay-at : (c d : ℕ) → c < n → d < n → c ≢ d → get_or table (c * n + d) 0 ≡ entry (least_delay n es c d)
  delay-at c d l k apart =
      done.others c d l k (inl apart) ∙ (ap (λ (xs : List ℕ). get_or xs (c * n + d) 0) least ∙ table_at n es c d l k)

  counting-at : (c d : ℕ) → c < n → d < n → get_or table (c * n + d) 0 ≡ entry (counting n es c d)
  unfolding counting if_same entry
  counting-at c d l k = go (eqb c d) refl
    where
      go : (b : Bool) → eqb c d ≡ b → get_or table (c * n + d) 0 ≡ entry (if_same b (least_delay n es c d))
      go true q =
          let same : d ≡ c = sym (eqb-true c d q) in
          ap (λ (x : ℕ). get_or table (c * n + x) 0) same ∙ done.itself c l
      go false q = delay-at c d l k (eqb-false c d q)

  pub zeroed-all : length first ≡ n * n → table ≡ count_table n es
  unfolding count_table
  zeroed-all square = rows_of n n (λ a b. entry (counting n es a b)) table (done.size ∙ square) counting-at
