-- Document 01, "The two files": "Fields are packed without gaps, most significant bit first."
use Rattle.std.specs.Prelude.{List, ℕ, zero, suc, ◌+◌, ◌-◌, ◌*◌, ◌/◌, ◌%◌, ◌^◌, get_or}

-- The bit at a position of a list of bytes, the most significant bit of each byte first. Past the end it is 0.
unfoldable pub bit_at : List ℕ → ℕ → ℕ
bit_at bytes i = get_or bytes (i / 8) 0 / 2 ^ (7 - i % 8) % 2

-- The field of a width from a bit position: the number whose binary digits are the single bits, the first the most significant.
unfoldable pub field : List ℕ → ℕ → ℕ → ℕ
unfolding bit_at
field bytes position zero = 0
field bytes position (suc width) = 2 * field bytes position width + bit_at bytes (position + width)
