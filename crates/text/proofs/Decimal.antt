-- The digits of a number: those of n / 10 and the last one, whatever number of steps was allowed for, as long as it is enough. So std's are the same.
use mathlib.Core.Path.{◌≡◌, sym, ap, ◌∙◌}
use mathlib.Core.Logic.{◌⊎◌, inl, inr, ⊎_elim}
use mathlib.Core.List.{List, [], ◌∷◌, ◌++◌}
use Prim.Native.Nat.{ℕ, zero, suc, ◌+◌, ◌*◌, ◌/◌, ◌%◌, ◌^◌, ◌≤◌, ◌<◌, zero-le, suc-le-suc}
use native.Mathlib.Nat.{pow-suc}
use native.Mathlib.Omega.{arith}
use lib.ListN.{length, length-append}
use borrow.Author.Tests.{lt-ltb, le-ltb}
use Rattle.std.specs.Fmt as fmt
use Rattle.std.proofs.lemmas.Fmt.{decimal_from_appends, length-decimal-le_succ}
use Rattle.text.specs.Text.{digit, digits_within, decimal}

pub order : (a b : ℕ) → (a ≤ b) ⊎ (b < a)
order zero b = inl zero-le
order (suc a) zero = inr (suc-le-suc zero-le)
order (suc a) (suc b) = ⊎_elim (λ p. inl (suc-le-suc p)) (λ q. inr (suc-le-suc q)) (order a b)

-- one step, by whether the number has one digit
within-last : (f n : ℕ) → n < 10 → digits_within (suc f) n ≡ digit n ∷ []
unfolding digits_within
within-last f n h = let same : n % 10 ≡ n = omega arith in rw (lt-ltb n 10 h, same)

within_more : (f n : ℕ) → 10 ≤ n → digits_within (suc f) n ≡ digits_within f (n / 10) ++ (digit (n % 10) ∷ [])
unfolding digits_within
within_more f n h = rw (le-ltb n 10 h)

-- any number of steps above n gives the same digits
enough : (f g n : ℕ) → n < f → n < g → digits_within f n ≡ digits_within g n
enough zero g n h k = absurd (omega arith)
enough (suc f) zero n h k = absurd (omega arith)
enough (suc f) (suc g) n h k = go (order 10 n) (λ p q. enough f g (n / 10) p q)
  where
    go :
        (10 ≤ n) ⊎ (n < 10) → (n / 10 < f → n / 10 < g → digits_within f (n / 10) ≡ digits_within g (n / 10)) →
        digits_within (suc f) n ≡ digits_within (suc g) n
    go (inl more) rest =
        let p : n / 10 < f = omega arith in
        let q : n / 10 < g = omega arith in
        within_more f n more ∙ (ap (λ (z : List ℕ). z ++ (digit (n % 10) ∷ [])) (rest p q) ∙ sym (within_more g n more))
    go (inr last) rest = within-last f n last ∙ sym (within-last g n last)

pub decimal-last : (n : ℕ) → n < 10 → decimal n ≡ digit n ∷ []
unfolding decimal
decimal-last n last = within-last n n last

pub decimal-more : (n : ℕ) → 10 ≤ n → decimal n ≡ decimal (n / 10) ++ (digit (n % 10) ∷ [])
unfolding decimal
decimal-more n more =
    let p : n / 10 < n = omega arith in
    let q : n / 10 < suc (n / 10) = omega arith in
    within_more n n more ∙ ap (λ (z : List ℕ). z ++ (digit (n % 10) ∷ [])) (enough n (suc (n / 10)) (n / 10) p q)

-- std's digits of a number are these
pub std_decimal : (n : ℕ) → n < 2 ^ 64 → fmt.decimal n ≡ decimal n
unfolding digit decimal
std_decimal n small =
    sym (decimal_from_appends digits_within (record { one = within-last; more = within_more }) (suc n) n small (omega (arith, length-decimal-le_succ n small)))

-- ── How many digits ──

pub digits_more : (n : ℕ) → 10 ≤ n → length (decimal n) ≡ length (decimal (n / 10)) + 1
digits_more n more = ap length (decimal-more n more) ∙ length-append (decimal (n / 10)) (digit (n % 10) ∷ [])

pub digits_last : (n : ℕ) → n < 10 → length (decimal n) ≡ 1
digits_last n last = ap length (decimal-last n last)

pub digits-some : (n : ℕ) → 1 ≤ length (decimal n)
digits-some n = ⊎_elim (λ more. omega (arith, digits_more n more)) (λ last. omega (arith, digits_last n last)) (order 10 n)

-- numbers that differ in their last digit alone have as many
pub digits_alike : (m n : ℕ) → m / 10 ≡ n / 10 → length (decimal m) ≡ length (decimal n)
digits_alike m n tens = go (order 10 n)
  where
    go : (10 ≤ n) ⊎ (n < 10) → length (decimal m) ≡ length (decimal n)
    go (inl more) =
        digits_more m (omega (arith, more, tens)) ∙
        (ap (λ (k : ℕ). length (decimal k) + 1) tens ∙ sym (digits_more n more))
    go (inr last) = digits_last m (omega (arith, last, tens)) ∙ sym (digits_last n last)

-- a number below the power of ten of k has at most k digits
pub digits-within : (k n : ℕ) → n < 10 ^ suc k → length (decimal n) ≤ suc k
digits-within zero n h = let last : n < 10 = h in omega (arith, digits_last n last)
digits-within (suc k) n h = go (order 10 n) (digits-within k (n / 10))
  where
    go : (10 ≤ n) ⊎ (n < 10) → (n / 10 < 10 ^ suc k → length (decimal (n / 10)) ≤ suc k) → length (decimal n) ≤ suc (suc k)
    go (inl more) rest =
        let bound : n < 10 ^ suc k * 10 = rw pow-suc at h in
        let fewer : n / 10 < 10 ^ suc k = omega arith in
        omega (arith, digits_more n more, rest fewer)
    go (inr last) rest = omega (arith, digits_last n last)
