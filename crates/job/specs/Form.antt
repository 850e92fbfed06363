-- Paper 02, item 4: "checks thousands of jobs for form only". Tests 1, 11, 3, 4, 5, 12 and 6, which need no answer area.
use Rattle.std.specs.Prelude.{ℕ, cond, not, List, ltb, eqb, get_or, Option, Result, Ok}
use Rattle.format.specs.declared.Reason.TheVariants.{TooShort, AddedHeader, ByteCount, TooFewRows, OutOfRange, TooFewSpeaking, RepeatedPoint}
use Rattle.format.specs.declared.Refusal.{Refusal}
use Rattle.format.specs.Outcomes.{refused}
use Rattle.lists.specs.Search.{if_holds, first_below, any_below}
use Rattle.header.specs.declared.Header.{Header}
use Rattle.header.specs.Header.{job_length_of, rows_needed_of}
use Rattle.header_rules.specs.Rules.{too_short, added_header_broken, rules_then}
use Rattle.job.specs.Refusals.{byte_count_differs, too_few_rows, refuse, row_tests}

-- tests 1, 11, 3, 4, 5, 12 and 6 in this order, and where none applies what the later ones say
abbrev pub first_tests : List ℕ → Result (Unit {0}) Refusal → Result (Unit {0}) Refusal
first_tests s later =
    refuse TooShort (if_holds (too_short s) 0)
    (refuse AddedHeader (if_holds (added_header_broken s) 0)
    (refuse ByteCount (if_holds (byte_count_differs s) 0) (refuse TooFewRows (if_holds (too_few_rows s) 0) (row_tests s later))))

-- the refusal by the first of them that applies, if one does
unfoldable pub form_outcome_of : List ℕ → Result (Unit {0}) Refusal
form_outcome_of s = first_tests s (Ok tt)

-- the first of tests 1, 11, 3 and 4 that applies to so many bytes that begin with a header
abbrev pub header_outcome_of : (bytes : ℕ) → Header → Result (Unit {0}) Refusal
header_outcome_of bytes h =
    rules_then bytes h
    (cond (not (eqb bytes (job_length_of h))) (refused ByteCount 0) (cond (ltb h.bounds.rows (rows_needed_of h)) (refused TooFewRows 0) (Ok tt)))

-- the first of tests 5, 12 and 6 that applies, by what a pass over the rows found: a row that 5 refuses or nothing, how many rows speak, of which so
-- many are needed, and the rows' points
abbrev pub table_outcome_of : (rows needed : ℕ) (found : Option ℕ) (speaking : ℕ) (points : List ℕ) → Result (Unit {0}) Refusal
table_outcome_of rows needed found speaking points =
    refuse OutOfRange found
    (refuse TooFewSpeaking (if_holds (ltb speaking needed) 0)
    (refuse RepeatedPoint (first_below rows (λ r. any_below r (λ q. eqb (get_or points q 0) (get_or points r 0)))) (Ok tt)))
