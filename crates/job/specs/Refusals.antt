-- Paper 01's table of refusals with paper 02's 11 and 12: the conditions 3 to 7 and 12 on the bytes s of a job and the length of the answer area. Those
-- of 1 and 11 stand with the header's rules.
use Rattle.std.specs.Prelude.{ℕ, Bool, not, ◌&&◌, ◌||◌, List, ◌≡◌, ltb, leb, eqb, length, Option, Some, None, Result, Ok}
use Rattle.field.specs.Primes.{modulus_of}
use Rattle.format.specs.Bounds.{answer_length_of}
use Rattle.format.specs.declared.Reason.{Reason}
use Rattle.format.specs.declared.Reason.TheVariants.{TooShort, AddedHeader, ByteCount, TooFewRows, OutOfRange, TooFewSpeaking, RepeatedPoint, AreaTooShort}
use Rattle.format.specs.declared.Refusal.{Refusal}
use Rattle.format.specs.Outcomes.{refused}
use Rattle.lists.specs.Search.{if_holds, first_below, any_below}
use Rattle.header.specs.Header.{bounds_of, header_of, job_length_of, rows_needed_of}
use Rattle.header_rules.specs.Rules.{too_short, added_header_broken}
use Rattle.rows.specs.Rows.{job_point, job_value}
use Rattle.marked_rows.specs.Marks.{mark_at, is_unmarked, speaking_count}

-- 3: "byte count differs from the formula"
abbrev pub byte_count_differs : List ℕ → Bool
byte_count_differs s = not (eqb (length s) (job_length_of (header_of s)))

-- 4: "L below df + dg + 2 × E + 1"
abbrev pub too_few_rows : List ℕ → Bool
too_few_rows s = ltb (bounds_of s).rows (rows_needed_of (header_of s))

-- 5: in row r "a point or value is p or more". The values of a marked row are no numbers; "a row only partly marked or mixing marks" is not marked.
abbrev pub out_of_range : List ℕ → ℕ → Bool
out_of_range s r =
    leb (modulus_of (bounds_of s).prime) (job_point s r)
    || (is_unmarked (mark_at s r) && any_below (bounds_of s).outputs (λ i. leb (modulus_of (bounds_of s).prime) (job_value s r i)))

-- 12: "if too few rows speak", where "Rows that speak must number at least df + dg + 2E + 1"
abbrev pub too_few_speaking : List ℕ → Bool
too_few_speaking s = ltb (speaking_count s) (rows_needed_of (header_of s))

-- 6: the point of row r "stands in an earlier row"
abbrev pub repeated_point : List ℕ → ℕ → Bool
repeated_point s r = any_below r (λ q. eqb (job_point s q) (job_point s r))

-- 7: "answer area shorter than the sheet needs"
abbrev pub area_too_short : List ℕ → ℕ → Bool
area_too_short s area = ltb area (answer_length_of (bounds_of s))

-- the refusal with its row where its test found one, and otherwise what the later tests say
abbrev pub refuse : Reason → Option ℕ → Result (Unit {0}) Refusal → Result (Unit {0}) Refusal
refuse reason (Some row) later = refused reason row
refuse reason None later = later

-- tests 5, 12 and 6, and where none applies what the later ones say: of 5 "first such row", of 6 "first such later row"; 12 is "tested between 5 and 6"
abbrev pub row_tests : List ℕ → Result (Unit {0}) Refusal → Result (Unit {0}) Refusal
row_tests s later =
    refuse OutOfRange (first_below (bounds_of s).rows (out_of_range s))
    (refuse TooFewSpeaking (if_holds (too_few_speaking s) 0) (refuse RepeatedPoint (first_below (bounds_of s).rows (repeated_point s)) later))

-- these, and then 7
unfoldable pub outcome_of_rows : List ℕ → ℕ → Result (Unit {0}) Refusal
outcome_of_rows s area = row_tests s (refuse AreaTooShort (if_holds (area_too_short s area) 0) (Ok tt))

-- "Tests run in the order of the numbers, and the first that applies is returned", 11 being "tested after 1"; "the row is 0 where none is named"
unfoldable pub outcome_of : List ℕ → ℕ → Result (Unit {0}) Refusal
outcome_of s area =
    refuse TooShort (if_holds (too_short s) 0)
    (refuse AddedHeader (if_holds (added_header_broken s) 0)
    (refuse ByteCount (if_holds (byte_count_differs s) 0) (refuse TooFewRows (if_holds (too_few_rows s) 0) (outcome_of_rows s area))))

-- "A job is well formed when no test that stands before 8 sends it back." Test 7 is one of them, so this speaks of the area's length too.
abbrev pub WellFormed : List ℕ → ℕ → Type 0
WellFormed s area = outcome_of s area ≡ Ok tt
