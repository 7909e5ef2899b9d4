-- A table is copied line by line into rows of 64 numbers: what is copied stays, since each line goes past it, and every number stays small.
use mathlib.Core.Path.{◌≡◌, sym, ap, ◌∙◌, subst}
use mathlib.Core.Logic.{◌⊎◌, inl, inr}
use mathlib.Core.List.{List}
use Prim.Native.Nat.{ℕ, ◌+◌, ◌-◌, ◌*◌, ◌≤◌, ◌<◌, min}
use native.Mathlib.Nat.{not-suc-le-zero}
use native.Mathlib.Omega.{arith}
use lib.ListN.{length}
use Rattle.model.proofs.Basics.{order}
use Rattle.records.specs.Columns.{at}
use Rattle.records.proofs.Rows.{place-within}
use Rattle.updates.specs.Updates.{Small, LineSpread, Spread}

-- the first `many` rows have the entries of these lines
pub record LinesSpread (table : List ℕ) (outer inner tasks many : ℕ) (lines : List ℕ) : Type 0 where
  pub size : tasks * 64 ≤ length lines
  pub small : Small lines
  pub inside : (a b : ℕ) → a < many → b < tasks → at lines (a * 64 + b) ≡ min (at table (a * outer + b * inner)) 16383

pub lines_none :
    (table : List ℕ) (outer inner tasks : ℕ) {lines : List ℕ} → tasks * 64 ≤ length lines → Small lines → LinesSpread table outer inner tasks 0 lines
lines_none table outer inner tasks size small = record { size = size; small = small; inside = λ a b l k. absurd (not-suc-le-zero l) }

pub lines_more :
    {table : List ℕ} {outer inner tasks a first : ℕ} {lines after : List ℕ} → LinesSpread table outer inner tasks a lines → tasks ≤ 64
    → first ≡ a * outer → LineSpread table first inner (a * 64) tasks lines after → LinesSpread table outer inner tasks (a + 1) after
lines_more {table} {outer} {inner} {tasks} {a} {first} {lines} {after} done few starts next = record {
  size = omega (arith, next.size, done.size);
  small = λ i. low i (order (a * 64) i) (order (a * 64 + tasks) i);
  inside = λ c b l k. go c b l k (order a c);
}
  where
    low : (i : ℕ) → (a * 64 ≤ i) ⊎ (i < a * 64) → (a * 64 + tasks ≤ i) ⊎ (i < a * 64 + tasks) → at after i ≤ 16383
    low i (inr h) past = omega (arith, next.outside i (inl h), done.small i)
    low i (inl h) (inl past) = omega (arith, next.outside i (inr past), done.small i)
    low i (inl h) (inr within) =
        let b = i - a * 64 in
        let place : a * 64 + b ≡ i = omega arith in
        subst (λ (j : ℕ). at after j ≤ 16383) place (omega (arith, next.inside b (omega arith)))

    go : (c b : ℕ) → c < a + 1 → b < tasks → (a ≤ c) ⊎ (c < a) → at after (c * 64 + b) ≡ min (at table (c * outer + b * inner)) 16383
    go c b l k (inl h) =
        let same : c ≡ a = omega arith in
        let line : first ≡ c * outer = starts ∙ ap (λ (x : ℕ). x * outer) (sym same) in
        ap (λ (x : ℕ). at after (x * 64 + b)) same ∙ (next.inside b k ∙ ap (λ (x : ℕ). min (at table (x + b * inner)) 16383) line)
    go c b l k (inr h) = next.outside (c * 64 + b) (inl (place-within 64 a c b h (omega arith))) ∙ done.inside c b h k

pub lines-all :
    {table : List ℕ} {outer inner tasks a : ℕ} {lines : List ℕ} → LinesSpread table outer inner tasks a lines → a ≡ tasks
    → Spread table outer inner tasks lines
lines-all done whole = record { size = done.size; small = done.small; inside = λ a b l k. done.inside a b (omega arith) k }
