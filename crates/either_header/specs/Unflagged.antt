-- Paper 02, item 6: "Without the flag 01's reading holds." What a job whose first flag bit is not set, with either header, says by that reading. b are its
-- bounds, and n r c is the number in row r and column c, where column 0 is the point.
use Rattle.std.specs.Prelude.{◌≡◌, Bool, not, ◌&&◌, ◌||◌, List, ℕ, ◌+◌, ltb, leb, eqb, Result, Ok}
use Rattle.format.specs.declared.Bounds.{Bounds}
use Rattle.format.specs.declared.Reason.TheVariants.{TooShort, AddedHeader, ByteCount, TooFewRows, OutOfRange, RepeatedPoint, AreaTooShort}
use Rattle.format.specs.declared.Refusal.{Refusal}
use Rattle.format.specs.Bounds.{prime_of, largest_bound, answer_length_of}
use Rattle.lists.specs.Search.{if_holds, first_below, any_below}
use Rattle.header.specs.Header.{df_of, header_length_of, flags_of, bounds_of}
use Rattle.header_rules.specs.Rules.{too_short, bounds_absent}
use Rattle.rows.specs.Rows.{number_at}
use Rattle.job.specs.Refusals.{byte_count_differs, too_few_rows, refuse, outcome_of}
use Rattle.problem.specs.Rows.{wrong_row}
use Rattle.problem.specs.Answers.{wrong_at}

-- tests 5 to 7 of paper 01's table: "a point or value is p or more", "a point stands in an earlier row", "answer area shorter than the sheet needs"
abbrev pub plain_row_tests : (b : Bounds) (n : ℕ → ℕ → ℕ) (area : ℕ) → Result (Unit {0}) Refusal
plain_row_tests b n area =
    refuse OutOfRange (first_below b.rows (λ r. leb (prime_of b) (n r 0) || any_below b.outputs (λ i. leb (prime_of b) (n r (1 + i)))))
    (refuse RepeatedPoint (first_below b.rows (λ r. any_below r (λ q. eqb (n q 0) (n r 0))))
    (refuse AreaTooShort (if_holds (ltb area (answer_length_of b)) 0) (Ok tt)))

-- row r is wrong, its values being numbers
abbrev pub plain_wrong : (b : Bounds) (n : ℕ → ℕ → ℕ) (f : ℕ → List ℕ) (g : List ℕ) (r : ℕ) → Bool
plain_wrong b n f g r = wrong_row (prime_of b) b.outputs (n r 0) (λ i. n r (1 + i)) f g

-- 11 as item 5 has it: "12 flag bits, all 0 for now"
abbrev pub item5_broken : List ℕ → Bool
item5_broken s =
    eqb (header_length_of s) 7
    && (not (eqb (flags_of s) 0) || bounds_absent (bounds_of s) || not (eqb (df_of s) (largest_bound (bounds_of s) (bounds_of s).outputs)))

-- tests 1, 11, 3, 4, 5, 6 and 7 in this order
abbrev pub item5_outcome : List ℕ → ℕ → Result (Unit {0}) Refusal
item5_outcome s area =
    refuse TooShort (if_holds (too_short s) 0)
    (refuse AddedHeader (if_holds (item5_broken s) 0)
    (refuse ByteCount (if_holds (byte_count_differs s) 0) (refuse TooFewRows (if_holds (too_few_rows s) 0) (plain_row_tests (bounds_of s) (number_at s) area))))

-- the job is tested and its rows are judged as they were before item 6
pub record Unflagged (s : List ℕ) : Type 0 where
  pub tests : (area : ℕ) → outcome_of s area ≡ item5_outcome s area
  pub wrong : (f : ℕ → List ℕ) (g : List ℕ) (r : ℕ) → wrong_at s f g r ≡ plain_wrong (bounds_of s) (number_at s) f g r
