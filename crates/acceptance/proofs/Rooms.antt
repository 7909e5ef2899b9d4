-- Refusal 16, and chains of checks. A chain of checks gives a number exactly if the checks before it pass and its own condition holds; the checks up to 12
-- pass exactly for an accepted file, and give neither 16 nor 17.
use mathlib.Core.Path.{◌≡◌, refl, sym, ◌∙◌}
use mathlib.Core.Logic.Iff
use mathlib.Core.Logic.{◌↔◌, ◌⊎◌, inl, inr, ◌≢◌}
use mathlib.Core.Bool.{Bool, true, false}
use mathlib.Core.List.{List, [], ◌∷◌}
use Prim.Native.Nat.{ℕ, ◌≤◌, ◌<◌}
use native.Mathlib.Omega.{arith}
use lib.Dec.{ltb}
use borrow.Author.Tests.{lt-ltb}
use Rattle.std.proofs.Common.{Ok}
use Rattle.model.specs.Theorems.{Decides}
use Rattle.model.proofs.Basics.{order}
use Rattle.model.proofs.Tests.{decides-yes, decides-no, decided, ltb-decides}
use Rattle.files.specs.declared.Refusal.{Refusal}
use Rattle.files.specs.Files.{graph_of}
use Rattle.files.specs.Refusals.{refuse, first, not_refused}
use Rattle.files.proofs.First.{passes, stops, check-passes, check-stops, no-checks, number_same, zero_or_not, none-refused, one-check, goes_on}
use Rattle.acceptance.specs.declared.Acceptance.{Acceptance}
use Rattle.acceptance.specs.Acceptance.{acceptance_refusal, Accepts}
use Rattle.acceptance.specs.Outcomes.{outcome, room_refusal}
use Rattle.acceptance.specs.Theorems.{Judged, zero-cycle, input_waits, not_joined, bound_below, passes as in_order, AcceptedFile, SuccessPlain, ShortNoPlace, OutcomePlain}
use Rattle.acceptance.proofs.Judged.{accepted-iff-passed, refused-iff-judged}

-- ── Chains of checks ──

-- a number that the first refusal is not, or 0
pub first-later :
    (r : Refusal) (rs : List Refusal) (m : ℕ) → (r.number ≡ m → m ≡ 0) → ((first (r ∷ rs)).number ≡ m) ↔ ((r.number ≡ 0) × ((first rs).number ≡ m))
first-later r rs m not-this = (λ is. to is (zero_or_not r.number), λ h. number_same (passes r rs h.0) ∙ h.1)
  where
    to : (first (r ∷ rs)).number ≡ m → (r.number ≡ 0) ⊎ (r.number ≢ 0) → (r.number ≡ 0) × ((first rs).number ≡ m)
    to is (inl none) = (none, number_same (sym (passes r rs none)) ∙ is)
    to is (inr some) =
        let this : r.number ≡ m = number_same (sym (stops r rs some)) ∙ is in
        absurd (some (this ∙ not-this this))

-- a check whose condition is decided, in front of others
module _ {b : Bool} {p : Type 0} (d : Decides b p) (n : ℕ) (some : n ≢ 0) (rs : List Refusal) where
  refuses : p → (first (refuse b n 0 ∷ rs)).number ≡ n
  refuses holds = number_same (check-stops n 0 rs some (decides-yes d holds))

  lets_by : (p → ⊥) → (first (refuse b n 0 ∷ rs)).number ≡ (first rs).number
  lets_by not = number_same (check-passes n 0 rs (decides-no d not))

  pub gives-it : (first rs).number ≢ n → ((first (refuse b n 0 ∷ rs)).number ≡ n) ↔ p
  gives-it other = (λ is. to is (decided d), refuses)
    where
      to : (first (refuse b n 0 ∷ rs)).number ≡ n → p ⊎ (p → ⊥) → p
      to is (inl holds) = holds
      to is (inr not) = absurd (other (sym (lets_by not) ∙ is))

  pub gives-later : (m : ℕ) → n ≢ m → ((first (refuse b n 0 ∷ rs)).number ≡ m) ↔ ((p → ⊥) × ((first rs).number ≡ m))
  gives-later m other = (λ is. to is (decided d), λ h. lets_by h.0 ∙ h.1)
    where
      to : (first (refuse b n 0 ∷ rs)).number ≡ m → p ⊎ (p → ⊥) → (p → ⊥) × ((first rs).number ≡ m)
      to is (inl holds) = absurd (other (sym (refuses holds) ∙ is))
      to is (inr not) = (not, sym (lets_by not) ∙ is)

-- ── The checks up to 12 ──

pub up-to-12 : (s : List ℕ) → (acceptance_refusal s).number ≤ 12
up-to-12 s = go (order (acceptance_refusal s).number 12)
  where
    never : {m : ℕ} → 12 < m → Judged (graph_of s) m → ⊥
    never high (zero-cycle is z) = omega arith
    never high (input_waits is a e m t z) = omega arith
    never high (not_joined is a f j) = omega arith
    never high (bound_below is a f j l e b) = omega arith
    never high (in_order is a f j l e b) = omega arith

    go : ((acceptance_refusal s).number ≤ 12) ⊎ (12 < (acceptance_refusal s).number) → (acceptance_refusal s).number ≤ 12
    go (inl low) = low
    go (inr high) =
        let nine : 9 ≤ (acceptance_refusal s).number = omega arith in
        absurd (never high ((refused-iff-judged s (acceptance_refusal s).number nine).0 refl).1)

-- ── The check of the list's room ──

module _ (needed room : ℕ) where
  room-given : ((first (room_refusal needed room ∷ [])).number ≡ 0) ↔ (needed ≤ room)
  unfolding room_refusal
  room-given =
      Iff.trans (gives-later (ltb-decides room needed) 16 (λ z. omega arith) [] 0 (λ z. omega arith))
      (λ h. let not : room < needed → ⊥ = h.0 in omega arith, λ enough. (λ short. omega arith, number_same no-checks))

  room-short : ((first (room_refusal needed room ∷ [])).number ≡ 16) ↔ (room < needed)
  unfolding room_refusal
  room-short = gives-it (ltb-decides room needed) 16 (λ z. omega arith) [] (λ is. let z = number_same no-checks in omega arith)

  module _ (s : List ℕ) where
    pub accepted-given : ((first (acceptance_refusal s ∷ room_refusal needed room ∷ [])).number ≡ 0) ↔ (AcceptedFile s × (needed ≤ room))
    accepted-given =
        Iff.trans (first-later (acceptance_refusal s) (room_refusal needed room ∷ []) 0 (λ is. refl)) (Iff.and (accepted-iff-passed s) room-given)

    pub accepted-short : ((first (acceptance_refusal s ∷ room_refusal needed room ∷ [])).number ≡ 16) ↔ (AcceptedFile s × (room < needed))
    accepted-short =
        Iff.trans (first-later (acceptance_refusal s) (room_refusal needed room ∷ []) 16 (λ is. let low = up-to-12 s in absurd (omega arith)))
        (Iff.and (accepted-iff-passed s) room-short)

-- ── 16 as the code tests it ──

module _ (earlier : Refusal) (needed room : ℕ) where
  pub refused-earlier : earlier.number ≢ 0 → first (earlier ∷ room_refusal needed room ∷ []) ≡ earlier
  refused-earlier some = stops earlier (room_refusal needed room ∷ []) some

  module _ (none : earlier.number ≡ 0) where
    pub too_short : room < needed → first (earlier ∷ room_refusal needed room ∷ []) ≡ record { number = 16; place = 0 }
    unfolding room_refusal
    too_short short =
        passes earlier (room_refusal needed room ∷ []) none ∙ check-stops 16 0 [] (λ z. omega arith) (lt-ltb room needed short)

  -- nothing refused: nothing earlier, and there is room
  pub room-there : (first (earlier ∷ room_refusal needed room ∷ [])).number ≡ 0 → (earlier.number ≡ 0) × (needed ≤ room)
  room-there none = go (zero_or_not earlier.number) (order needed room)
    where
      go : (earlier.number ≡ 0) ⊎ (earlier.number ≢ 0) → (needed ≤ room) ⊎ (room < needed) → (earlier.number ≡ 0) × (needed ≤ room)
      go (inl passed) (inl long) = (passed, long)
      go (inl passed) (inr short) = absurd (omega (arith, sym (number_same (too_short passed short)) ∙ none))
      go (inr some) long = absurd (some (number_same (sym (refused-earlier some)) ∙ none))

-- ── 16 of an accepted file ──

module _ (needed room : ℕ) where
  last-room : first (room_refusal needed room ∷ []) ≡ room_refusal needed room
  unfolding room_refusal
  last-room = one-check (ltb room needed) 16 0 (λ z. omega arith)

  pub room-enough : not_refused ≡ room_refusal needed room → needed ≤ room
  room-enough is = (room-given needed room).0 (number_same (last-room ∙ sym is))

  -- what the check of the room gives is what the chain gives, for as many elements as the file needs
  pub room-checked :
      (s : List ℕ) {r : Acceptance} → Accepts s (Ok r) → {q : Refusal} {needed' : ℕ} → q ≡ room_refusal needed room → needed ≡ needed' →
      q ≡ first (acceptance_refusal s ∷ room_refusal needed' room ∷ [])
  room-checked s given is same =
      is ∙ sym last-room ∙ (λ i. first (room_refusal (same i) room ∷ [])) ∙ sym (goes_on _ given.refusal refl)

-- ── Refused answers ──

pub no_place : (b : Bool) (n : ℕ) → (refuse b n 0).place ≡ 0
unfolding refuse
no_place true n = refl
no_place false n = refl

pub short-no-place : ShortNoPlace
unfolding room_refusal
short-no-place needed room = no_place (ltb room needed) 16

pub outcome-plain : OutcomePlain
unfolding outcome
outcome-plain r = (refl, refl, refl, refl)

pub success-plain : SuccessPlain
unfolding acceptance_refusal
success-plain s = none-refused _
