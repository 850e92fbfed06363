-- Paper 02, item 1: when no trial job is written, in the order "1, 2, 3 (coefficient bytes), 4, 9, 5 (row 0), 10, 7", where since item 5
-- 11 stands in the place of 2. h holds the header's
-- bytes, c those of the coefficients, w is the number of rows to be spoiled.
use Rattle.std.specs.Prelude.{ℕ, Bool, not, ◌||◌, List, ltb, eqb, length, Result, Ok}
use Rattle.format.specs.Bounds.{prime_of}
use Rattle.format.specs.declared.Bounds.{Bounds}
use Rattle.format.specs.declared.Reason.TheVariants.{TooShort, AddedHeader, ByteCount, TooFewRows, OutOfRange, AreaTooShort, TooManyRows, NotReduced}
use Rattle.format.specs.declared.Refusal.{Refusal}
use Rattle.lists.specs.Search.{if_holds}
use Rattle.header.specs.Header.{header_length_of, bounds_of, header_of, job_length_of}
use Rattle.header_rules.specs.Rules.{too_short, added_header_broken}
use Rattle.job.specs.Refusals.{too_few_rows, refuse}
use Rattle.answer.specs.Coefficients.{coefficient_length_of, any_too_large}

-- 3: the header is "followed by surplus bytes", or the coefficients have another number of bytes than they need
abbrev pub byte_counts_differ : (h c : List ℕ) → Bool
byte_counts_differ h c = not (eqb (length h) (header_length_of h)) || not (eqb (length c) (coefficient_length_of (bounds_of h)))

-- 9: "L exceeds p or w exceeds L"
abbrev pub too_many_rows : Bounds → (w : ℕ) → Bool
too_many_rows b w = ltb (prime_of b) b.rows || ltb b.rows w

-- 7, "the last for the job area"
abbrev pub job_area_too_short : (h : List ℕ) (area : ℕ) → Bool
job_area_too_short h area = ltb area (job_length_of (header_of h))

-- 9, then 5, whose row is 0, and then what the later tests say
unfoldable pub numbers_outcome : (b : Bounds) (c : List ℕ) (w : ℕ) → Result (Unit {0}) Refusal → Result (Unit {0}) Refusal
numbers_outcome b c w later = refuse TooManyRows (if_holds (too_many_rows b w) 0) (refuse OutOfRange (if_holds (any_too_large b c) 0) later)

-- 3, 4, 9 and 5, and then what the later tests say
unfoldable pub lengths_outcome : (h c : List ℕ) (w : ℕ) → Result (Unit {0}) Refusal → Result (Unit {0}) Refusal
lengths_outcome h c w later =
    refuse ByteCount (if_holds (byte_counts_differ h c) 0) (refuse TooFewRows (if_holds (too_few_rows h) 0) (numbers_outcome (bounds_of h) c w later))

-- 1, 11, and these, and then what the later tests say
unfoldable pub outcome_before10 : (h c : List ℕ) (w : ℕ) → Result (Unit {0}) Refusal → Result (Unit {0}) Refusal
outcome_before10 h c w later =
    refuse TooShort (if_holds (too_short h) 0) (refuse AddedHeader (if_holds (added_header_broken h) 0) (lengths_outcome h c w later))

-- all tests, where `reduced` says whether the polynomials are: 10 is refused if they are not, and 7 is the last
unfoldable pub trial_outcome : (h c : List ℕ) (w area : ℕ) (reduced : Bool) → Result (Unit {0}) Refusal
trial_outcome h c w area reduced =
    outcome_before10 h c w
    (refuse NotReduced (if_holds (not reduced) 0) (refuse AreaTooShort (if_holds (job_area_too_short h area) 0) (Ok tt)))
