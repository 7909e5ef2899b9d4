-- When the timetable is given, and when it gets 16 or 17: a chain of checks gives a number exactly if the checks before it pass and its own condition holds.
use mathlib.Core.Path.{◌≡◌, ◌∙◌}
use mathlib.Core.Logic.Iff
use mathlib.Core.Logic.{◌↔◌, ◌⊎◌, inl, inr, ⊎_elim, ◌≢◌}
use mathlib.Core.Bool.{Bool, true, false, ◌||◌}
use mathlib.Core.List.{List, [], ◌∷◌}
use Prim.Native.Nat.{ℕ, ◌*◌, ◌≤◌, ◌<◌}
use native.Mathlib.Omega.{arith}
use lib.Dec.{ltb}
use Rattle.model.specs.Theorems.{Decides}
use Rattle.model.proofs.Tests.{decides-no, ltb-decides}
use Rattle.files.specs.declared.Refusal.{Refusal}
use Rattle.files.specs.Refusals.{first}
use Rattle.files.proofs.First.{stops, check-passes, no-checks, number_same, none-refused}
use Rattle.acceptance.specs.Acceptance.{acceptance_refusal}
use Rattle.acceptance.specs.Outcomes.{room_refusal, tasks_of}
use Rattle.acceptance.proofs.Rooms.{first-later, gives-it, gives-later, up-to-12, accepted-given, accepted-short, no_place}
use Rattle.timetable.specs.Theorems.{TimetableGiven, TimetableShort, TurnsOutside, TimetableRefused, OutsideNoPlace, TimetablePlain}
use Rattle.timetable.specs.Timetable.{turns_refusal, timetable_refusal}

-- a list's room and the checks up to 12 do not give 17
module _ (needed room : ℕ) where
  room-not-17 : (first (room_refusal needed room ∷ [])).number ≢ 17
  unfolding room_refusal
  room-not-17 is =
      let h = (gives-later (ltb-decides room needed) 16 (λ z. omega arith) [] 17 (λ z. omega arith)).0 is in
      let last = h.1 in
      let z = number_same no-checks in
      omega arith

  accepted-not-17 : (s : List ℕ) → (first (acceptance_refusal s ∷ room_refusal needed room ∷ [])).number ≢ 17
  accepted-not-17 s is =
      room-not-17
      ((first-later (acceptance_refusal s) (room_refusal needed room ∷ []) 17 (λ this. let low = up-to-12 s in absurd (omega arith))).0 is).1

either-decides : (a b : Bool) {p q : Type 0} → Decides a p → Decides b q → Decides (a || b) (p ⊎ q)
either-decides true b c d = record { if_true = λ t. inl (c.if_true tt); if_false = λ n. absurd n }
either-decides false b c d = record { if_true = λ t. inr (d.if_true t); if_false = λ n. ⊎_elim (c.if_false tt) (d.if_false n) }

outside-decides : (turns : ℕ) → Decides (ltb turns 1 || ltb 64 turns) ((turns < 1) ⊎ (64 < turns))
outside-decides turns = either-decides (ltb turns 1) (ltb 64 turns) (ltb-decides turns 1) (ltb-decides 64 turns)

inside : (turns : ℕ) → ((turns < 1) ⊎ (64 < turns) → ⊥) ↔ ((1 ≤ turns) × (turns ≤ 64))
inside turns = (to, back)
  where
    to : ((turns < 1) ⊎ (64 < turns) → ⊥) → (1 ≤ turns) × (turns ≤ 64)
    to not =
        let low : turns < 1 → ⊥ = λ h. not (inl h) in
        let high : 64 < turns → ⊥ = λ h. not (inr h) in
        (omega arith, omega arith)

    back : (1 ≤ turns) × (turns ≤ 64) → (turns < 1) ⊎ (64 < turns) → ⊥
    back h (inl low) = let one = h.0 in omega arith
    back h (inr high) = let most = h.1 in omega arith

-- turns that pass, then what the rest of the chain gives
turns_then :
    (turns : ℕ) (rs : List Refusal) (m : ℕ) → 17 ≢ m → {A B : Type 0} → ((first rs).number ≡ m) ↔ (A × B) →
    ((first (turns_refusal turns ∷ rs)).number ≡ m) ↔ ((1 ≤ turns) × (turns ≤ 64) × A × B)
unfolding turns_refusal
turns_then turns rs m other rest =
    Iff.trans (gives-later (outside-decides turns) 17 (λ z. omega arith) rs m other)
    (λ h. let t = (inside turns).0 h.0 in let r = rest.0 h.1 in (t.0, t.1, r.0, r.1), λ h. ((inside turns).1 (h.0, h.1), rest.1 (h.2, h.3)))

pub turns-outside : TurnsOutside
unfolding timetable_refusal turns_refusal
turns-outside s turns room =
    gives-it (outside-decides turns) 17 (λ z. omega arith) (acceptance_refusal s ∷ room_refusal (tasks_of s * turns) room ∷ [])
    (accepted-not-17 (tasks_of s * turns) room s)

pub timetable-short : TimetableShort
unfolding timetable_refusal
timetable-short s turns room =
    turns_then turns (acceptance_refusal s ∷ room_refusal (tasks_of s * turns) room ∷ []) 16 (λ z. omega arith) (accepted-short (tasks_of s * turns) room s)

pub timetable_given : TimetableGiven
unfolding timetable_refusal
timetable_given s turns room =
    turns_then turns (acceptance_refusal s ∷ room_refusal (tasks_of s * turns) room ∷ []) 0 (λ z. omega arith) (accepted-given (tasks_of s * turns) room s)

pub timetable-refused : TimetableRefused
unfolding timetable_refusal turns_refusal
timetable-refused s turns room one most some =
    check-passes 17 0 (acceptance_refusal s ∷ room_refusal (tasks_of s * turns) room ∷ []) (decides-no (outside-decides turns) ((inside turns).1 (one, most))) ∙
    stops (acceptance_refusal s) (room_refusal (tasks_of s * turns) room ∷ []) some

pub outside-no-place : OutsideNoPlace
unfolding turns_refusal
outside-no-place turns = no_place (ltb turns 1 || ltb 64 turns) 17

pub timetable-plain : TimetablePlain
unfolding timetable_refusal
timetable-plain s turns room = none-refused _
