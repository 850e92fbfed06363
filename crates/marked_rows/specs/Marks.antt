-- Paper 02, item 6: "With the first flag bit set, a row whose values are all 65535 reports a pole"; "A row whose values are all 65534 is silent".
-- "Points carry no marks. Without the flag 01's reading holds."
use Rattle.std.specs.Prelude.{ℕ, Bool, true, false, not, cond, ◌&&◌, List, eqb, Option, Some, None}
use Rattle.lists.specs.Counting.{count_below}
use Rattle.lists.specs.Search.{any_below}
use Rattle.header.specs.Header.{flags_of, marks_allowed, bounds_of}
use Rattle.rows.specs.Rows.{job_value}
use Rattle.marked_rows.specs.declared.Mark.{Mark}
use Rattle.marked_rows.specs.declared.Mark.TheVariants.{Pole, Silent}

-- the n values y are all m
abbrev pub all_are : (n : ℕ) (y : ℕ → ℕ) (m : ℕ) → Bool
all_are n y m = not (any_below n (λ i. not (eqb (y i) m)))

-- what a row with the n values y is marked with, where marks are allowed or not
unfoldable pub mark_of : (allowed : Bool) (n : ℕ) (y : ℕ → ℕ) → Option Mark
mark_of allowed n y = cond (allowed && all_are n y 65535) (Some Pole) (cond (allowed && all_are n y 65534) (Some Silent) None)

-- what row r of the job s is marked with
abbrev pub mark_at : List ℕ → ℕ → Option Mark
mark_at s r = mark_of (marks_allowed (flags_of s)) (bounds_of s).outputs (job_value s r)

-- the row's values are numbers
abbrev pub is_unmarked : Option Mark → Bool
is_unmarked None = true
is_unmarked (Some Pole) = false
is_unmarked (Some Silent) = false

-- all but silent rows speak
abbrev pub speaking : Option Mark → Bool
speaking None = true
speaking (Some Pole) = true
speaking (Some Silent) = false

abbrev pub speaks : List ℕ → ℕ → Bool
speaks s r = speaking (mark_at s r)

-- how many rows of the job do
unfoldable pub speaking_count : List ℕ → ℕ
speaking_count s = count_below (bounds_of s).rows (speaks s)
