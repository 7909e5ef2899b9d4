-- The first refusal of a list of checks: a check that passes is left out, one that refuses is the answer. Over the places below n it is the one at
-- the place where every earlier one passes; and where it goes by a test that decides something, that place is the first which has it.
use mathlib.Core.Path.{◌≡◌, refl, sym, ap, ◌∙◌, subst}
use mathlib.Core.Logic.{◌⊎◌, inl, inr, ◌≢◌}
use mathlib.Core.Bool.{Bool, true, false}
use mathlib.Core.List.{List, [], ◌∷◌, ◌++◌}
use mathlib.Core.Option.{Option}
use Prim.Native.Nat.{ℕ, zero, suc, ◌<◌, ◌≤◌}
use native.Mathlib.Nat.{not-suc-le-zero}
use native.Mathlib.Omega.{arith}
use Rattle.model.specs.Lists.{tabulate}
use Rattle.model.specs.Theorems.{Decides}
use Rattle.model.proofs.Basics.{is_true, is_false, order, below_suc, FirstFrom, found, missing, first-from}
use Rattle.model.proofs.Tests.{decided, eqb-decides}
use Rattle.std.proofs.Common.{Result, Ok, Err}
use Rattle.std.specs.Result.{IsErr, IsErrAnd}
use Rattle.std.proofs.lemmas.Result.{err_from_is_err_and, IfOk-from_err}
use Rattle.files.specs.declared.Fault.{Fault}
use Rattle.files.specs.declared.Fault.TheVariants.{FewerBytes, OtherVersion, CountOutside, MoreBytes, FillingBit, TimeOfZero, EndOutside, HeaderOutside, WithinProcessor, RepeatedEdge, ZeroCycle, InputWaits, NotJoined, BoundBelow, OnCycle, LostOrder, Late, ShortList, TurnsOutside}
use Rattle.files.specs.declared.Refusal.{Refusal}
use Rattle.files.specs.Refusals.{not_refused, refusal_of, refusal_in, Gives, refuse, choose, first, if_passed}
use Rattle.files.specs.Files.{first_of}

pub choose-later : (n : ℕ) (r later : Refusal) → n ≡ 0 → choose n r later ≡ later
unfolding choose
choose-later n r later none = ap (λ (m : ℕ). choose m r later) none

pub choose-this : (n : ℕ) (r later : Refusal) → n ≢ 0 → choose n r later ≡ r
unfolding choose
choose-this zero r later some = absurd (some refl)
choose-this (suc n) r later some = refl

pub passes : (r : Refusal) (rs : List Refusal) → r.number ≡ 0 → first (r ∷ rs) ≡ first rs
unfolding first
passes r rs none = choose-later r.number r (first rs) none

pub stops : (r : Refusal) (rs : List Refusal) → r.number ≢ 0 → first (r ∷ rs) ≡ r
unfolding first
stops r rs some = choose-this r.number r (first rs) some

pub refused : {b : Bool} (n p : ℕ) → b ≡ true → refuse b n p ≡ record { number = n; place = p }
unfolding refuse
refused n p is = ap (λ (b : Bool). refuse b n p) is

pub not-refused : {b : Bool} (n p : ℕ) → b ≡ false → refuse b n p ≡ not_refused
unfolding refuse
not-refused n p is = ap (λ (b : Bool). refuse b n p) is

pub number_same : {r q : Refusal} → r ≡ q → r.number ≡ q.number
number_same e = ap (λ (x : Refusal). x.number) e

-- one check at the front of the others
pub check-passes : {b : Bool} (n p : ℕ) (rs : List Refusal) → b ≡ false → first (refuse b n p ∷ rs) ≡ first rs
check-passes n p rs is = ap (λ (r : Refusal). first (r ∷ rs)) (not-refused n p is) ∙ passes not_refused rs refl

pub check-stops : {b : Bool} (n p : ℕ) (rs : List Refusal) → n ≢ 0 → b ≡ true → first (refuse b n p ∷ rs) ≡ record { number = n; place = p }
check-stops n p rs some is =
    ap (λ (r : Refusal). first (r ∷ rs)) (refused n p is) ∙ stops (record { number = n; place = p }) rs some

pub no-checks : first [] ≡ not_refused
unfolding first
no-checks = refl

-- a number is 0 or not
pub zero_or_not : (n : ℕ) → (n ≡ 0) ⊎ (n ≢ 0)
zero_or_not n = decided (eqb-decides n 0)

-- of two lists of checks, one after the other
pub passed-all : (rs later : List Refusal) → (first rs).number ≡ 0 → first (rs ++ later) ≡ first later
passed-all [] later none = refl
passed-all (r ∷ rs) later none = go (zero_or_not r.number) (passed-all rs later)
  where
    go : (r.number ≡ 0) ⊎ (r.number ≢ 0) → ((first rs).number ≡ 0 → first (rs ++ later) ≡ first later) → first (r ∷ rs ++ later) ≡ first later
    go (inl z) rest = passes r (rs ++ later) z ∙ rest (number_same (sym (passes r rs z)) ∙ none)
    go (inr s) rest = absurd (s (number_same (sym (stops r rs s)) ∙ none))

pub stopped-before : (rs later : List Refusal) → (first rs).number ≢ 0 → first (rs ++ later) ≡ first rs
unfolding first
stopped-before [] later some = absurd (some refl)
stopped-before (r ∷ rs) later some = go (zero_or_not r.number) (stopped-before rs later)
  where
    go : (r.number ≡ 0) ⊎ (r.number ≢ 0) → ((first rs).number ≢ 0 → first (rs ++ later) ≡ first rs) → first (r ∷ rs ++ later) ≡ first (r ∷ rs)
    go (inl z) rest = passes r (rs ++ later) z ∙ (rest (λ e. some (number_same (passes r rs z) ∙ e)) ∙ sym (passes r rs z))
    go (inr s) rest = stops r (rs ++ later) s ∙ sym (stops r rs s)

pub nowhere : (n : ℕ) (f : ℕ → Refusal) → ((i : ℕ) → i < n → f i ≡ not_refused) → first_of n f ≡ not_refused
unfolding first_of first tabulate
nowhere zero f none = refl
nowhere (suc n) f none =
    let before : first_of n f ≡ not_refused = nowhere n f (λ i l. none i (omega arith)) in
    passed-all (tabulate n f) (f n ∷ []) (number_same before) ∙
    passes (f n) [] (number_same (none n (omega arith)))

pub at_place : (n : ℕ) (f : ℕ → Refusal) (k : ℕ) → k < n → ((i : ℕ) → i < k → f i ≡ not_refused) → (f k).number ≢ 0 → first_of n f ≡ f k
unfolding first_of first tabulate
at_place zero f k below none some = absurd (not-suc-le-zero below)
at_place (suc n) f k below none some = go (below_suc below) (λ l. at_place n f k l none some)
  where
    go : (k < n) ⊎ (k ≡ n) → (k < n → first_of n f ≡ f k) → first (tabulate n f ++ (f n ∷ [])) ≡ f k
    go (inl l) shorter =
        stopped-before (tabulate n f) (f n ∷ []) (λ e. some (number_same (sym (shorter l)) ∙ e)) ∙ shorter l
    go (inr e) shorter =
        passed-all (tabulate n f) (f n ∷ []) (number_same (nowhere n f (λ i l. none i (subst (λ (m : ℕ). i < m) (sym e) l)))) ∙
        (stops (f n) [] (subst (λ (m : ℕ). (f m).number ≢ 0) e some) ∙ ap f (sym e))

-- a search that ends at place k with a refusal
pub stops_at :
    (n : ℕ) (f : ℕ → Refusal) {k : ℕ} {r : Refusal} → k < n → ((i : ℕ) → i < k → f i ≡ not_refused) → f k ≡ r → r.number ≢ 0
    → first_of n f ≡ r
stops_at n f {k} below none is some = at_place n f k below none (λ z. some (number_same (sym is) ∙ z)) ∙ is

-- a search that ends after place n
pub stops_nowhere : (n : ℕ) (f : ℕ → Refusal) {k : ℕ} → n ≤ k → ((i : ℕ) → i < k → f i ≡ not_refused) → first_of n f ≡ not_refused
stops_nowhere n f end none = nowhere n f (λ i l. none i (omega arith))

-- ── A search by one test ──

module _ (n number : ℕ) (test : ℕ → Bool) where
  pub found_first :
      number ≢ 0 → (j : ℕ) → j < n → ((i : ℕ) → i < j → test i ≡ false) → test j ≡ true →
      first_of n (λ i. refuse (test i) number (suc i)) ≡ record { number = number; place = suc j }
  found_first some j below none is =
      stops_at n (λ i. refuse (test i) number (suc i)) below (λ i l. not-refused number (suc i) (none i l)) (refused number (suc j) is) some

  pub found_nowhere : ((i : ℕ) → i < n → test i ≡ false) → first_of n (λ i. refuse (test i) number (suc i)) ≡ not_refused
  found_nowhere none = nowhere n (λ i. refuse (test i) number (suc i)) (λ i l. not-refused number (suc i) (none i l))

-- what is looked for stands at no place and nothing is refused, or the refusal is that of the first place where it stands
pub data Finds (n number : ℕ) (P : ℕ → Type 0) (r : Refusal) : Type 0 where
  at_none : ((j : ℕ) → j < n → P j → ⊥) → r ≡ not_refused → Finds n number P r
  at_first : (j : ℕ) → j < n → P j → ((i : ℕ) → i < j → P i → ⊥) → r ≡ record { number = number; place = suc j } → Finds n number P r

pub finds :
    (n number : ℕ) (test : ℕ → Bool) {P : ℕ → Type 0} → number ≢ 0 → ((j : ℕ) → j < n → Decides (test j) (P j)) →
    Finds n number P (first_of n (λ i. refuse (test i) number (suc i)))
finds n number test {P} some decides = go (first-from test 0 n)
  where
    go : {o : Option ℕ} → FirstFrom test 0 n o → Finds n number P (first_of n (λ i. refuse (test i) number (suc i)))
    go (found {u = u} from below holds none) =
        at_first u (omega arith) ((decides u (omega arith)).if_true holds) (λ i l. (decides i (omega arith)).if_false (none i (omega arith) l))
        (found_first n number test some u (omega arith) (λ i l. is_false (test i) (none i (omega arith) l)) (is_true (test u) holds))
    go (missing all) =
        at_none (λ j l. (decides j l).if_false (all j (omega arith) (omega arith)))
        (found_nowhere n number test (λ i l. is_false (test i) (all i (omega arith) (omega arith))))

module _ {n number : ℕ} {P : ℕ → Type 0} {r : Refusal} where
  -- what is refused, from where it stands
  pub nothing-there : Finds n number P r → ((j : ℕ) → j < n → P j → ⊥) → r ≡ not_refused
  nothing-there (at_none none is) clear = is
  nothing-there (at_first j below there none is) clear = absurd (clear j below there)

  pub first-there :
      Finds n number P r → (j : ℕ) → j < n → P j → ((i : ℕ) → i < j → P i → ⊥) → r ≡ record { number = number; place = suc j }
  first-there (at_none none is) j below there earlier = absurd (none j below there)
  first-there (at_first k inside stands before is) j below there earlier = is ∙ ap (λ (i : ℕ). record { number = number; place = suc i }) (same (order j k) (order k j))
    where
      same : (j ≤ k) ⊎ (k < j) → (k ≤ j) ⊎ (j < k) → k ≡ j
      same (inr l) other = absurd (earlier k l stands)
      same (inl l) (inr m) = absurd (before j m there)
      same (inl l) (inl m) = omega arith

  -- where it stands, from what is refused
  pub nothing-found : Finds n number P r → number ≢ 0 → r.number ≡ 0 → (j : ℕ) → j < n → P j → ⊥
  nothing-found (at_none clear is) some none = clear
  nothing-found (at_first j below there earlier is) some none = absurd (some (number_same (sym is) ∙ none))

  pub number-found : Finds n number P r → r.number ≢ 0 → r.number ≡ number
  number-found (at_none none is) some = absurd (some (number_same is))
  number-found (at_first j below there none is) some = number_same is

-- a check that was made: the chain ends with it, or goes on
pub ends_with : {r q : Refusal} (rs : List Refusal) → r ≡ q → r.number ≢ 0 → first (q ∷ rs) ≡ r
ends_with {r} {q} rs is some = stops q rs (λ z. some (number_same is ∙ z)) ∙ sym is

pub goes_on : {r q : Refusal} (rs : List Refusal) → r ≡ q → r.number ≡ 0 → first (q ∷ rs) ≡ first rs
goes_on {r} {q} rs is none = passes q rs (number_same (sym is) ∙ none)

-- Every fault has a number.
pub fault-number : (fault : Fault) → (refusal_of fault).number ≢ 0
fault-number FewerBytes = λ z. omega arith
fault-number OtherVersion = λ z. omega arith
fault-number CountOutside = λ z. omega arith
fault-number MoreBytes = λ z. omega arith
fault-number FillingBit = λ z. omega arith
fault-number (TimeOfZero task) = λ z. omega arith
fault-number (EndOutside edge) = λ z. omega arith
fault-number HeaderOutside = λ z. omega arith
fault-number (WithinProcessor edge) = λ z. omega arith
fault-number (RepeatedEdge edge) = λ z. omega arith
fault-number ZeroCycle = λ z. omega arith
fault-number InputWaits = λ z. omega arith
fault-number NotJoined = λ z. omega arith
fault-number BoundBelow = λ z. omega arith
fault-number (OnCycle edge) = λ z. omega arith
fault-number (LostOrder edge) = λ z. omega arith
fault-number (Late latency) = λ z. omega arith
fault-number ShortList = λ z. omega arith
fault-number TurnsOutside = λ z. omega arith

-- what a `?` hands back of a fault
pub handed_back : {A : Type 0} (r : Result A Fault) (fault : Fault) → IsErrAnd r (λ f. f ≡ fault) → refusal_in r ≡ refusal_of fault
handed_back r fault is = let p = err_from_is_err_and r is in ap refusal_in p.1 ∙ ap refusal_of p.2

-- what a `?` hands back gives the fault's refusal, and no value
pub gives-fault :
    {A : Type 0} (r : Result A Fault) (fault : Fault) {q : Refusal} {value : A} → IsErr r → IsErrAnd r (λ f. f ≡ fault) → refusal_of fault ≡ q → Gives r q value
gives-fault r fault failed is same = record { refusal = handed_back r fault is ∙ same; value = IfOk-from_err r _ failed }

-- where nothing is refused, the value is given
pub passed-gives : {A : Type 0} (r : Result A Fault) {q : Refusal} {value : A} → Gives r q value → q.number ≡ 0 → r ≡ Ok value
passed-gives (Ok a) given none = ap Ok given.value
passed-gives (Err fault) given none = absurd (fault-number fault (number_same given.refusal ∙ none))

-- a check with a fault ends a chain, and its fault is the chain's
pub fault_ends :
    {A : Type 0} (r : Result A Fault) (fault : Fault) {q : Refusal} (rs : List Refusal) → IsErrAnd r (λ f. f ≡ fault) → refusal_of fault ≡ q
    → refusal_in r ≡ first (q ∷ rs)
fault_ends r fault rs is same = handed_back r fault is ∙ sym (ends_with rs same (fault-number fault))

-- a check that does not refuse gives place 0 too, so the last one of a chain is its answer
pub one-check : (b : Bool) (n p : ℕ) → n ≢ 0 → first (refuse b n p ∷ []) ≡ refuse b n p
one-check true n p some = check-stops n p [] some refl ∙ sym (refused n p refl)
one-check false n p some = check-passes n p [] refl ∙ (no-checks ∙ sym (not-refused n p refl))

pub none-refused : (rs : List Refusal) → (first rs).number ≡ 0 → first rs ≡ not_refused
none-refused [] none = no-checks
none-refused (r ∷ rs) none = go (zero_or_not r.number) (none-refused rs)
  where
    go : (r.number ≡ 0) ⊎ (r.number ≢ 0) → ((first rs).number ≡ 0 → first rs ≡ not_refused) → first (r ∷ rs) ≡ not_refused
    go (inl z) rest = passes r rs z ∙ rest (number_same (sym (passes r rs z)) ∙ none)
    go (inr s) rest = absurd (s (number_same (sym (stops r rs s)) ∙ none))

pub last-answer : (rs : List Refusal) → first (first rs ∷ []) ≡ first rs
last-answer rs = go (zero_or_not (first rs).number)
  where
    go : ((first rs).number ≡ 0) ⊎ ((first rs).number ≢ 0) → first (first rs ∷ []) ≡ first rs
    go (inl z) = passes (first rs) [] z ∙ (no-checks ∙ sym (none-refused rs z))
    go (inr s) = stops (first rs) [] s

-- ── What is handed over ──

pub if-passed : {A : Type 0} (n : ℕ) (given refused : A) → n ≡ 0 → if_passed n given refused ≡ given
unfolding if_passed
if-passed n given refused none = ap (λ (m : ℕ). if_passed m given refused) none

pub if-refused : {A : Type 0} (n : ℕ) (given refused : A) → n ≢ 0 → if_passed n given refused ≡ refused
unfolding if_passed
if-refused zero given refused some = absurd (some refl)
if-refused (suc n) given refused some = refl
