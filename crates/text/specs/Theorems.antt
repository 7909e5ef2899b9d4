-- What a number's digits mean, as statements. proofs/Meaning.antt proves them. Together they leave no other writing of a number.
use Rattle.std.specs.Prelude.{◌≡◌, ◌≢◌, List, [], ◌∷◌, ℕ, ◌+◌, ◌-◌, ◌*◌, ◌≤◌, ◌<◌, length, get_or}
use Rattle.text.specs.Text.{digit, decimal}

-- the number that digits make, behind those that made v
unfoldable pub value_from : ℕ → List ℕ → ℕ
value_from v [] = v
value_from v (b ∷ bs) = value_from (10 * v + (b - digit 0)) bs

-- The digits make the number.
abbrev pub DecimalReads : Type 0
DecimalReads = (n : ℕ) → value_from 0 (decimal n) ≡ n

-- Each byte is one of `0` to `9`.
abbrev pub DecimalDigits : Type 0
DecimalDigits = (n i : ℕ) → i < length (decimal n) → (digit 0 ≤ get_or (decimal n) i 0) × (get_or (decimal n) i 0 ≤ digit 9)

-- No number begins with a 0 but 0 itself, which is that digit.
abbrev pub NoLeadingZero : Type 0
NoLeadingZero = (n : ℕ) → 1 ≤ n → get_or (decimal n) 0 0 ≢ digit 0

abbrev pub DecimalZero : Type 0
DecimalZero = decimal 0 ≡ digit 0 ∷ []
