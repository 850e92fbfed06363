-- Paper 01, "The job sheet": "L rows follow, each a point and n values, 16 bits a number".
use Rattle.std.specs.Prelude.{ℕ, ◌+◌, ◌*◌, cond, List, ltb}
use Rattle.format.specs.Numbers.{number_from}
use Rattle.header.specs.Header.{header_length_of, bounds_of}

-- the number in row r and column c, behind the header: column 0 is the point, columns 1 to n are the values
unfoldable pub number_at : List ℕ → ℕ → ℕ → ℕ
number_at s r c = number_from s (header_length_of s + 2 * (r * (1 + (bounds_of s).outputs) + c))

-- the point of row r, counted from 0
abbrev pub job_point : List ℕ → ℕ → ℕ
job_point s r = number_at s r 0

-- the value of output i in row r, both counted from 0
abbrev pub job_value : List ℕ → ℕ → ℕ → ℕ
job_value s r i = number_at s r (1 + i)

-- the same, with 0 for outputs that do not exist
abbrev pub value_or_zero : List ℕ → ℕ → ℕ → ℕ
value_or_zero s r i = cond (ltb i (bounds_of s).outputs) (job_value s r i) 0
