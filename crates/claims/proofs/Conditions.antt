-- The tests of 1 to 8, 16 and 17 decide the conditions that demand 1 states.
use mathlib.Core.Path.{◌≡◌, subst}
use mathlib.Core.Logic.{◌⊎◌, inl, inr, ◌≢◌}
use mathlib.Core.Bool.{Bool, true, false, not, ◌||◌}
use mathlib.Core.List.{List}
use Prim.Native.Nat.{ℕ, zero, suc, ◌+◌, ◌*◌, ◌-◌, ◌≤◌, ◌<◌}
use native.Mathlib.Omega.{arith}
use lib.Dec.{T, eqb, ltb}
use lib.ListN.{length}
use Rattle.model.specs.Tasks.{Task, Edge}
use Rattle.model.specs.Theorems.{Decides}
use Rattle.model.proofs.Tests.{decided, decides-iff, decides-true, decides_not, eqb-decides, ltb-decides}
use Rattle.bits.specs.Bits.{bit_at, field}
use Rattle.bits.proofs.Laws.{zero_bits}
use Rattle.layout.specs.Layout.{filling}
use Rattle.files.specs.Files.{end_outside, within_processor}
use Rattle.claims.specs.Demand1.{Outside, FillingBit, NotBelow, SameProcessor}

-- what decides a condition decides what it is equivalent to
pub decides-same : {b : Bool} {p q : Type 0} → Decides b p → (p → q) → (q → p) → Decides b q
decides-same d to back = decides-iff (λ t. to (d.if_true t)) (λ x. decides-true d (back x))

pub decides_or : {a b : Bool} {p q : Type 0} → Decides a p → Decides b q → Decides (a || b) (p ⊎ q)
decides_or {a = true} {b} c d = record { if_true = λ t. inl (c.if_true tt); if_false = λ n. absurd n }
decides_or {a = false} {b} {p} {q} c d = record { if_true = λ t. inr (d.if_true t); if_false = λ n. neither n }
  where
    neither : T (not b) → p ⊎ q → ⊥
    neither n (inl x) = c.if_false tt x
    neither n (inr x) = d.if_false n x

pub differs : (a b : ℕ) → Decides (not (eqb a b)) (a ≢ b)
differs a b = decides_not (eqb-decides a b)

pub outside : (low high n : ℕ) → Decides (ltb n low || ltb high n) (Outside low high n)
outside low high n = decides_or (ltb-decides n low) (ltb-decides high n)

pub not-below : (n v : ℕ) → Decides (not (ltb v n)) (n ≤ v)
not-below n v = decides-same (decides_not (ltb-decides v n)) (λ not. omega (arith, not)) (λ least less. omega arith)

pub end-outside : {k n : ℕ} → k ≡ n → (e : Edge) → Decides (end_outside k e) (NotBelow n e)
unfolding end_outside
end-outside {k} {n} same e =
    subst (λ (m : ℕ). Decides (end_outside k e) (NotBelow m e)) same (decides_or (not-below k e.source) (not-below k e.sink))

pub within-processor : (ts : List Task) (e : Edge) → Decides (within_processor ts e) (SameProcessor ts e)
unfolding within_processor
within-processor ts e = eqb-decides _ _

-- ── Filling ──

-- a field that is not 0 has a bit that is not 0
some-bit :
    (bytes : List ℕ) (position width : ℕ) → field bytes position width ≢ 0 → (i : ℕ) × (i < width) × (bit_at bytes (position + i) ≢ 0)
unfolding field
some-bit bytes position zero some = absurd (some (omega arith))
some-bit bytes position (suc width) some = go (decided (eqb-decides (bit_at bytes (position + width)) 0)) (some-bit bytes position width)
  where
    go : (bit_at bytes (position + width) ≡ 0) ⊎ (bit_at bytes (position + width) ≢ 0) →
        (field bytes position width ≢ 0 → (i : ℕ) × (i < width) × (bit_at bytes (position + i) ≢ 0)) →
        (i : ℕ) × (i < suc width) × (bit_at bytes (position + i) ≢ 0)
    go (inl zero-last) earlier =
        let r = earlier (λ none. some (omega arith)) in
        let l = r.1 in
        (r.0, omega arith, r.2)
    go (inr last) earlier = (width, omega arith, last)

pub filling-bit : (s : List ℕ) (used : ℕ) → Decides (not (eqb (filling s used) 0)) (FillingBit s used)
unfolding filling
filling-bit s used = decides-same (differs (filling s used) 0) to back
  where
    to : field s used (8 * length s - used) ≢ 0 → FillingBit s used
    to some =
        let r = some-bit s used (8 * length s - used) some in
        let l = r.1 in
        (used + r.0, omega arith, omega arith, r.2)

    back : FillingBit s used → field s used (8 * length s - used) ≢ 0
    back (i, least, below, set) none =
        let at-bit : used + (i - used) ≡ i = omega arith in
        set (subst (λ (k : ℕ). bit_at s k ≡ 0) at-bit (zero_bits s used (8 * length s - used) none (i - used) (omega arith)))
