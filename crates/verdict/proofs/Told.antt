-- Which numbers have latency and margin: 15 in its refusal, 0 beside it, every other none; so it is enough to know the latency where the judgement
-- tells it.
use mathlib.Core.Path.{◌≡◌, refl, sym, subst}
use mathlib.Core.Logic.{◌⊎◌, inl, inr, ◌≢◌}
use mathlib.Core.Bool.{Bool}
use Prim.Native.Nat.{ℕ}
use native.Mathlib.Omega.{arith}
use lib.Dec.{eqb}
use lib.IntN.{ℤ, pos}
use borrow.Author.Tests.{eq-eqb, ne_eqb}
use Rattle.std.proofs.Common.{Result, Ok, Err}
use Rattle.model.specs.Lists.{counted}
use Rattle.files.specs.declared.Fault.{Fault}
use Rattle.files.specs.declared.Fault.TheVariants.{Late}
use Rattle.files.specs.declared.Refusal.{Refusal}
use Rattle.files.specs.Refusals.{not_refused, refusal_of, refusal_in, if_passed}
use Rattle.files.proofs.First.{fault-number, if-passed, if-refused}
use Rattle.acceptance.specs.declared.Outcome.{Outcome}
use Rattle.acceptance.specs.Outcomes.{outcome}
use Rattle.judgement.specs.Judgement.{latency_told}
use Rattle.judgement.proofs.Judging.{late-or-not}
use Rattle.verdict.specs.Verdict.{margin, counted_margin, told_late}

module _ (r : Refusal) (bound latency : ℕ) where
  -- by the test for 15
  told-by : {b : Bool} → eqb r.number 15 ≡ b →
      told_late r bound latency ≡
      record { number = r.number; place = r.place; latency = counted b latency; margin = counted_margin b (margin bound latency) }
  unfolding told_late
  told-by is = λ i. record { number = r.number; place = r.place; latency = counted (is i) latency; margin = counted_margin (is i) (margin bound latency) }

  pub told-plain : r.number ≢ 15 → told_late r bound latency ≡ outcome r
  unfolding outcome counted counted_margin
  told-plain other = told-by (ne_eqb r.number 15 other)

  pub told-late :
      r.number ≡ 15 → told_late r bound latency ≡ record { number = r.number; place = r.place; latency = latency; margin = margin bound latency }
  unfolding counted counted_margin
  told-late late = told-by (eq-eqb r.number 15 late)

-- ── What the answer to a judgement tells ──

-- outcome, latency and margin, beside a bound
abbrev pub Tells : ℕ → Result ℕ Fault → Outcome → ℕ → ℤ → Type 0
Tells bound answer o l m =
    (o ≡ told_late (refusal_in answer) bound (latency_told answer)) × (l ≡ if_passed (refusal_in answer).number (latency_told answer) 0) ×
    (m ≡ if_passed (refusal_in answer).number (margin bound (latency_told answer)) (pos 0))

module _ (bound : ℕ) {answer : Result ℕ Fault} where
  pub accepted-told : {latency : ℕ} → answer ≡ Ok latency → Tells bound answer (outcome not_refused) latency (margin bound latency)
  accepted-told {latency} is =
      subst (λ (x : Result ℕ Fault). Tells bound x (outcome not_refused) latency (margin bound latency)) (sym is)
      (sym (told-plain not_refused bound latency (λ z. omega arith)), sym (if-passed 0 latency 0 refl), sym (if-passed 0 (margin bound latency) (pos 0) refl))

  pub late-told :
      {latency : ℕ} → answer ≡ Err (Late latency) →
      Tells bound answer (record { number = 15; place = 0; latency = latency; margin = margin bound latency }) 0 (pos 0)
  late-told {latency} is =
      subst (λ (x : Result ℕ Fault). Tells bound x (record { number = 15; place = 0; latency = latency; margin = margin bound latency }) 0 (pos 0)) (sym is)
      (sym (told-late (refusal_of (Late latency)) bound latency refl), sym (if-refused 15 latency 0 (λ z. omega arith)), sym (if-refused 15 (margin bound latency) (pos 0) (λ z. omega arith)))

  pub plain-told :
      {fault : Fault} → answer ≡ Err fault → ((latency : ℕ) → fault ≢ Late latency) → Tells bound answer (outcome (refusal_of fault)) 0 (pos 0)
  plain-told {fault} is not_late =
      let some = fault-number fault in
      subst (λ (x : Result ℕ Fault). Tells bound x (outcome (refusal_of fault)) 0 (pos 0)) (sym is)
      (sym (told-plain (refusal_of fault) bound (latency_told (Err fault)) (go (late-or-not fault))), sym (if-refused (refusal_of fault).number _ 0 some), sym (if-refused (refusal_of fault).number _ (pos 0) some))
    where
      go : ((latency : ℕ) × (fault ≡ Late latency)) ⊎ (((refusal_of fault).number ≢ 15) × (latency_told (Err fault) ≡ 0)) → (refusal_of fault).number ≢ 15
      go (inl late) = absurd (not_late late.0 late.1)
      go (inr other) = other.0
