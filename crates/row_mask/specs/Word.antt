-- Paper 01, "The recovered sheet": the 32-bit word of wrong rows.
use Rattle.std.specs.Prelude.{ℕ, zero, suc, ◌+◌, ◌-◌, ◌*◌, ◌/◌, ◌%◌, ◌^◌, Bool, cond, eqb}
use Rattle.lists.specs.Counting.{one_if, count_below}

-- "counting from 0, row r has the bit r places below the top" of 32
abbrev pub bit_at : ℕ → ℕ → ℕ
bit_at word r = word / 2 ^ (31 - r) % 2

-- the word with row r's bit put in, which was 0 before: "1 if the row is wrong"
abbrev pub with_row : ℕ → ℕ → Bool → ℕ
with_row word r wrong = word + one_if wrong * 2 ^ (31 - r)

-- the word of rows 0 to n - 1; "rows that don't exist have 0"
unfoldable pub word_of : ℕ → (ℕ → Bool) → ℕ
word_of zero wrong = 0
word_of (suc n) wrong = with_row (word_of n wrong) n (wrong n)

-- the first wrong row among the n rows from row r on, 32 where there is none
unfoldable pub first_from : ℕ → ℕ → (ℕ → Bool) → ℕ
first_from zero r wrong = 32
first_from (suc n) r wrong = cond (wrong r) r (first_from n (suc r) wrong)

-- the first wrong row among rows 0 to n - 1, 32 where there is none
abbrev pub first_wrong : ℕ → (ℕ → Bool) → ℕ
first_wrong n wrong = first_from n 0 wrong

-- whether the word says that row r is wrong
abbrev pub is_set : ℕ → ℕ → Bool
is_set word r = eqb (bit_at word r) 1

-- "how many rows are wrong, counted as the ones in the word"
abbrev pub wrong_count_of : ℕ → ℕ
wrong_count_of word = count_below 32 (is_set word)

-- the first row whose bit is 1, 32 where there is none
abbrev pub first_wrong_of : ℕ → ℕ
first_wrong_of word = first_wrong 32 (is_set word)
