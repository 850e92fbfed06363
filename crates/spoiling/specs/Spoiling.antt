-- Paper 02, item 1: "spoil w different rows" of L, modulo the prime p.
use Rattle.std.specs.Prelude.{ℕ, zero, suc, ◌+◌, ◌-◌, ◌*◌, ◌%◌, Bool, cond, not, ◌==◌, Option, Some, None}
use Rattle.lists.specs.Search.{first_below}
use Rattle.spoiling.specs.Draws.{drawn, top_bits}

-- the number that a search found, 0 where it found none
abbrev pub number_in : Option ℕ → ℕ
number_in (Some i) = i
number_in None = 0

-- row d where it is not taken, else "the next unspoiled row", "from the last row to row 0"
unfoldable pub untaken_from : (L : ℕ) (taken : ℕ → Bool) (d : ℕ) → ℕ
untaken_from L taken d = (d + number_in (first_below L (λ k. not (taken ((d + k) % L))))) % L

-- the row that a draw chooses: "the top 16 bits of one draw modulo L choose it, moving to the next unspoiled row if it is taken and from the
-- last row to row 0". Here added r is what was added to the first value of row r so far, and 0 exactly where row r is not spoiled.
unfoldable pub chosen_row : (L : ℕ) (added : ℕ → ℕ) (word : ℕ) → ℕ
chosen_row L added word = untaken_from L (λ r. not (added r == 0)) (top_bits word % L)

-- "the top 16 bits of the next draw modulo p − 1, plus 1, are added to its first value": from 1 to p - 1
abbrev pub amount_of : (p word : ℕ) → ℕ
amount_of p word = top_bits word % (p - 1) + 1

-- what the first j spoilings add to the first value of row r: from 1 to p - 1 where one of them spoils the row, 0 where none does.
-- Spoiling j, counted from 0, has draws 2 j + 1 and 2 j + 2.
unfoldable pub added_by : (p L start : ℕ) → ℕ → ℕ → ℕ
added_by p L start zero r = 0
added_by p L start (suc j) r =
    cond
    (r == chosen_row L (added_by p L start j) (drawn start (2 * j + 1)))
    (amount_of p (drawn start (2 * j + 2)))
    (added_by p L start j r)

-- row r is one of the w spoiled rows
abbrev pub spoiled_by : (p L start w : ℕ) → ℕ → Bool
spoiled_by p L start w r = not (added_by p L start w r == 0)
