-- Paper 01, "The job sheet": "Fields are packed, most significant bit first." s holds bytes, as many as there are.
use Rattle.std.specs.Prelude.{ℕ, zero, suc, ◌+◌, ◌-◌, ◌*◌, ◌/◌, ◌%◌, ◌^◌, List, get_or}

-- the bit at a place, counted from the top of the first byte
abbrev pub bit_of : List ℕ → ℕ → ℕ
bit_of s k = get_or s (k / 8) 0 / 2 ^ (7 - k % 8) % 2

-- the number that so many bits from place `at` on make
unfoldable pub field_of : List ℕ → (at bits : ℕ) → ℕ
field_of s at zero = 0
field_of s at (suc bits) = 2 * field_of s at bits + bit_of s (at + bits)
