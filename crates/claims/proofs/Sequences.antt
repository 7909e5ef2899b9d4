-- A chain of refusals follows a sequence of checks if it passes where no condition holds, and else stops with the number and the place of the first
-- that does. Shown of one check, of chains one after the other and of those of each place; and a sequence says one number and one place only.
use mathlib.Core.Path.{◌≡◌, refl, sym, ◌∙◌, subst}
use mathlib.Core.Logic.{◌⊎◌, inl, inr, ◌≢◌}
use mathlib.Core.Bool.{Bool}
use mathlib.Core.List.{List, [], ◌∷◌, ◌++◌}
use Prim.Native.Nat.{ℕ, zero, suc, ◌<◌}
use native.Mathlib.Omega.{arith}
use Rattle.model.specs.Lists.{tabulate}
use Rattle.model.specs.Theorems.{Decides}
use Rattle.model.proofs.Tests.{decided, decides-yes, decides-no}
use Rattle.files.specs.declared.Refusal.{Refusal}
use Rattle.files.specs.Files.{first_of}
use Rattle.files.specs.Refusals.{refuse, first}
use Rattle.files.proofs.First.{passes, stops, refused, not-refused, number_same, no-checks, passed-all, stopped-before}
use Rattle.claims.specs.Demand1.{Sequence, Says, ◌at◌when◌, ◌then◌, each}

-- no condition of the sequence holds
abbrev pub Passes : Sequence → Type 0
Passes [] = Unit {0}
Passes (check ∷ later) = (check.condition → ⊥) × Passes later

-- some condition holds, and number and place are those of the first one
abbrev pub Stops : Sequence → ℕ → ℕ → Type 0
Stops [] number place = ⊥
Stops (check ∷ later) number place =
    (check.condition × (number ≡ check.number) × (place ≡ check.place)) ⊎ ((check.condition → ⊥) × Stops later number place)

pub data Follows (checks : Sequence) (r : Refusal) : Type 0 where
  passing : r.number ≡ 0 → Passes checks → Follows checks r
  stopping : r.number ≢ 0 → Stops checks r.number r.place → Follows checks r

-- ── What a followed sequence says ──

none_said : (checks : Sequence) (number place : ℕ) → Passes checks → number ≡ 0 → place ≡ 0 → Says checks number place
none_said [] m p held z nowhere = (z, nowhere)
none_said (check ∷ later) m p held z nowhere = inr (held.0, none_said later m p held.1 z nowhere)

first_said : (checks : Sequence) (number place : ℕ) → Stops checks number place → Says checks number place
first_said [] m p h = absurd h
first_said (check ∷ later) m p (inl h) = inl h
first_said (check ∷ later) m p (inr h) = inr (h.0, first_said later m p h.1)

pub says : (checks : Sequence) (r : Refusal) → Follows checks r → (r.number ≡ 0 → r.place ≡ 0) → Says checks r.number r.place
says checks r (passing none held) nowhere = none_said checks r.number r.place held none (nowhere none)
says checks r (stopping some h) nowhere = first_said checks r.number r.place h

-- ── One check ──

pub one : {b : Bool} {c : Type 0} {number place : ℕ} → Decides b c → number ≢ 0 → Follows (number at place when c) (refuse b number place)
one {b} {c} {number} {place} d some = go (decided d)
  where
    go : c ⊎ (c → ⊥) → Follows (number at place when c) (refuse b number place)
    go (inl holds) =
        subst (Follows (number at place when c)) (sym (refused number place (decides-yes d holds))) (stopping some (inl (holds, refl, refl)))
    go (inr not) = subst (Follows (number at place when c)) (sym (not-refused number place (decides-no d not))) (passing refl (not, tt))

-- ── One chain after another ──

passes-both : (a b : Sequence) → Passes a → Passes b → Passes (a ++ b)
passes-both [] b h k = k
passes-both (check ∷ a) b h k = (h.0, passes-both a b h.1 k)

stops-earlier : (a b : Sequence) (number place : ℕ) → Stops a number place → Stops (a ++ b) number place
stops-earlier [] b m p h = absurd h
stops-earlier (check ∷ a) b m p (inl h) = inl h
stops-earlier (check ∷ a) b m p (inr h) = inr (h.0, stops-earlier a b m p h.1)

stops-later : (a b : Sequence) (number place : ℕ) → Passes a → Stops b number place → Stops (a ++ b) number place
stops-later [] b m p h k = k
stops-later (check ∷ a) b m p h k = inr (h.0, stops-later a b m p h.1 k)

-- the whole is the later chain where the earlier one passes, and else the earlier one
module _ (a b : Sequence) {r q whole : Refusal} (goes_on : r.number ≡ 0 → whole ≡ q) (ends : r.number ≢ 0 → whole ≡ r) where
  both : Follows a r → (r.number ≡ 0 → Follows b q) → Follows (a ++ b) whole
  both (passing none h) later = subst (Follows (a ++ b)) (sym (goes_on none)) (onward (later none))
    where
      onward : Follows b q → Follows (a ++ b) q
      onward (passing none' k) = passing none' (passes-both a b h k)
      onward (stopping some k) = stopping some (stops-later a b q.number q.place h k)
  both (stopping some h) later = subst (Follows (a ++ b)) (sym (ends some)) (stopping some (stops-earlier a b r.number r.place h))

pub and_then :
    (a b : Sequence) {r : Refusal} (rs : List Refusal) → Follows a r → (r.number ≡ 0 → Follows b (first rs)) → Follows (a ++ b) (first (r ∷ rs))
and_then a b {r} rs = both a b (passes r rs) (stops r rs)

pub only : {a : Sequence} {r : Refusal} → Follows a r → Follows a (first (r ∷ []))
only {a} {r} (passing none h) = passing (number_same (passes r [] none ∙ no-checks)) h
only {a} {r} (stopping some h) = subst (Follows a) (sym (stops r [] some)) (stopping some h)

-- a check in front of others
pub check-then :
    {b : Bool} {c : Type 0} {number place : ℕ} {later : Sequence} (rs : List Refusal) → Decides b c → number ≢ 0 → Follows later (first rs) →
    Follows (number at place when c then later) (first (refuse b number place ∷ rs))
check-then {c = c} {number = number} {place = place} {later = later} rs d some rest =
    and_then (number at place when c) later rs (one d some) (λ none. rest)

module _ (checks : ℕ → Sequence) (f : ℕ → Refusal) where
  all-below : (n : ℕ) → ((j : ℕ) → j < n → Follows (checks j) (f j)) → Follows (each n checks) (first_of n f)
  unfolding each first_of tabulate
  all-below zero follow = passing (number_same no-checks) tt
  all-below (suc n) follow =
      both (each n checks) (checks n) (passed-all (tabulate n f) (f n ∷ [])) (stopped-before (tabulate n f) (f n ∷ []))
      (all-below n (λ j l. follow j (omega arith))) (λ none. only (follow n (omega arith)))

  pub each-follows : {n k : ℕ} → ((j : ℕ) → j < n → Follows (checks j) (f j)) → n ≡ k → Follows (each k checks) (first_of n f)
  each-follows {n} {k} follow same = subst (λ (m : ℕ). Follows (each m checks) (first_of n f)) same (all-below n follow)

-- ── A sequence says one thing only ──

pub says-one : (checks : Sequence) (m n p q : ℕ) → Says checks m p → Says checks n q → (m ≡ n) × (p ≡ q)
says-one [] m n p q h k = (h.0 ∙ sym k.0, h.1 ∙ sym k.1)
says-one (check ∷ later) m n p q (inl h) (inl k) = (h.1 ∙ sym k.1, h.2 ∙ sym k.2)
says-one (check ∷ later) m n p q (inl h) (inr k) = absurd (k.0 h.0)
says-one (check ∷ later) m n p q (inr h) (inl k) = absurd (h.0 k.0)
says-one (check ∷ later) m n p q (inr h) (inr k) = says-one later m n p q h.1 k.1
