-- Document 01, "Who caused a refusal": a refusal's number and place, and "Sequence": of several, the first holds.
use Rattle.std.specs.Prelude.{◌≡◌, Bool, true, false, List, [], ◌∷◌, ℕ, zero, suc, Result, Ok, Err, IfOk}
use Rattle.files.specs.declared.Fault.{Fault}
use Rattle.files.specs.declared.Fault.TheVariants.{FewerBytes, OtherVersion, CountOutside, MoreBytes, FillingBit, TimeOfZero, EndOutside, HeaderOutside, WithinProcessor, RepeatedEdge, ZeroCycle, InputWaits, NotJoined, BoundBelow, OnCycle, LostOrder, Late, ShortList, TurnsOutside}
use Rattle.files.specs.declared.Refusal.{Refusal}

-- number 0: nothing is refused
abbrev pub not_refused : Refusal
not_refused = record { number = 0; place = 0 }

-- refused with a number and a place if the condition holds
unfoldable pub refuse : Bool → ℕ → ℕ → Refusal
refuse true n p = record { number = n; place = p }
refuse false n p = not_refused

-- "Who caused a refusal": the number of each fault, with the place where 01 names one
abbrev pub refusal_of : Fault → Refusal
refusal_of FewerBytes = record { number = 1; place = 0 }
refusal_of OtherVersion = record { number = 2; place = 0 }
refusal_of CountOutside = record { number = 3; place = 0 }
refusal_of MoreBytes = record { number = 4; place = 0 }
refusal_of FillingBit = record { number = 4; place = 0 }
refusal_of (TimeOfZero task) = record { number = 5; place = task }
refusal_of (EndOutside edge) = record { number = 6; place = edge }
refusal_of HeaderOutside = record { number = 6; place = 0 }
refusal_of (WithinProcessor edge) = record { number = 7; place = edge }
refusal_of (RepeatedEdge edge) = record { number = 8; place = edge }
refusal_of ZeroCycle = record { number = 9; place = 0 }
refusal_of InputWaits = record { number = 10; place = 0 }
refusal_of NotJoined = record { number = 11; place = 0 }
refusal_of BoundBelow = record { number = 12; place = 0 }
refusal_of (OnCycle edge) = record { number = 13; place = edge }
refusal_of (LostOrder edge) = record { number = 14; place = edge }
refusal_of (Late latency) = record { number = 15; place = 0 }
refusal_of ShortList = record { number = 16; place = 0 }
refusal_of TurnsOutside = record { number = 17; place = 0 }

-- what a check or a call refuses: nothing if it succeeds
abbrev pub refusal_in : {A : Type 0} → Result A Fault → Refusal
refusal_in (Ok a) = not_refused
refusal_in (Err fault) = refusal_of fault

-- What is answered to a caller who is refused or handed a value: the refusal, and the value if nothing is refused.
pub record Gives {A : Type 0} (answer : Result A Fault) (q : Refusal) (a : A) : Type 0 where
  pub refusal : refusal_in answer ≡ q
  pub value : IfOk answer (λ b. b ≡ a)

-- a refusal, if its number is not 0, else what comes later
unfoldable pub choose : ℕ → Refusal → Refusal → Refusal
choose zero r later = later
choose (suc n) r later = r

-- "Sequence": the first of the checks that refuses
unfoldable pub first : List Refusal → Refusal
unfolding choose
first [] = not_refused
first (r ∷ rs) = choose r.number r (first rs)

-- what a call hands over: one thing if the number says that nothing is refused, another if it is
unfoldable pub if_passed : {A : Type 0} → ℕ → A → A → A
if_passed zero given refused = given
if_passed (suc n) given refused = refused
