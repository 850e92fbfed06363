-- Numbers of several bytes, as jobs and answers have them.
use Rattle.std.specs.Prelude.{ℕ, ◌+◌, ◌*◌, List, get_or}

-- the 16-bit number at bytes k and k + 1, most significant bit first
abbrev pub number_from : List ℕ → ℕ → ℕ
number_from s k = get_or s k 0 * 256 + get_or s (k + 1) 0

-- the 32-bit word of the first four bytes
abbrev pub word_from : List ℕ → ℕ
word_from s = number_from s 0 * 65536 + number_from s 2
