-- Document 01, "Example desk": how what is printed is written in bytes. "Fields are one space apart and each line ends in one newline byte."
use Rattle.std.specs.Prelude.{◌≡◌, cond, List, [], ◌∷◌, ◌++◌, ℕ, zero, suc, ◌+◌, ◌/◌, ◌%◌, ◌≤◌, ltb, ℤ, pos, negsuc, length, take, drop}

-- the byte of a digit 0 to 9, that of a minus sign, a space, a newline
unfoldable pub digit : ℕ → ℕ
digit d = 48 + d

abbrev pub minus : ℕ
minus = 45

abbrev pub space : ℕ
space = 32

abbrev pub newline : ℕ
newline = 10

-- a number's decimal digits, at most `most` of them: those of n / 10, unless that is 0, then that of n % 10
unfoldable pub digits_within : ℕ → ℕ → List ℕ
unfolding digit
digits_within zero n = []
digits_within (suc most) n = cond (ltb n 10) [] (digits_within most (n / 10)) ++ (digit (n % 10) ∷ [])

-- all its decimal digits: n has at most n + 1
unfoldable pub decimal : ℕ → List ℕ
decimal n = digits_within (suc n) n

-- "printed with its sign": a number below 0 has a minus sign in front (negsuc n is -(n + 1))
unfoldable pub signed : ℤ → List ℕ
signed (pos n) = decimal n
signed (negsuc n) = minus ∷ decimal (suc n)

-- "Fields are one space apart": each field after one space
unfoldable pub spaced : List (List ℕ) → List ℕ
spaced [] = []
spaced (f ∷ fs) = (space ∷ f) ++ spaced fs

-- numbers as fields
unfoldable pub numbers : List ℕ → List (List ℕ)
numbers [] = []
numbers (n ∷ ns) = decimal n ∷ numbers ns

-- a line: a word, its fields, and "each line ends in one newline byte"
unfoldable pub line : List ℕ → List (List ℕ) → List ℕ
line word fields = word ++ (spaced fields ++ (newline ∷ []))

-- Bytes put into a list from a place on, everything else kept; `next` is the place behind them. Places count from 0.
pub record Appended (at : ℕ) (bytes before after : List ℕ) (next : ℕ) : Type 0 where
  pub next_is : next ≡ at + length bytes
  pub room : next ≤ length before
  pub after_is : after ≡ take at before ++ (bytes ++ drop next before)
