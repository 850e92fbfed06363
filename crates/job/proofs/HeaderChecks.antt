-- What tests 1, 11, 3 and 4 decide.
use mathlib.Core.Bool.{Bool, true, false, cond}
use mathlib.Core.List.{List}
use mathlib.Core.Path.{◌≡◌, refl}
use Prim.Native.Nat.{ℕ}
use borrow.Author.Tests.{eqb-true, not-false}
use lib.ListN.{length}
use Rattle.std.specs.Prelude.{Result, Ok, Err}
use Rattle.format.specs.declared.Refusal.{Refusal}
use Rattle.format.specs.declared.Reason.TheVariants.{TooShort, AddedHeader, ByteCount, TooFewRows}
use Rattle.lists.specs.Search.{if_holds}
use Rattle.header.specs.Header.{header_of, job_length_of}
use Rattle.header_rules.specs.Rules.{too_short, added_header_broken}
use Rattle.job.specs.Refusals.{byte_count_differs, too_few_rows, refuse, row_tests, outcome_of_rows, outcome_of}
use Rattle.job.specs.Form.{header_outcome_of, first_tests}
use Rattle.job.proofs.Facts.{refused_not_accepted}
use Rattle.format.specs.Outcomes.{refused}

-- a refusal by the header, and otherwise what the tests of the rows say
abbrev pub after_header : Result (Unit {0}) Refusal → Result (Unit {0}) Refusal → Result (Unit {0}) Refusal
after_header (Ok _) later = later
after_header (Err e) later = Err e

-- four tests, a to d, and what they are refused for
abbrev four_tests : (a b c d : Bool) → Result (Unit {0}) Refusal
four_tests a b c d = cond a (refused TooShort 0) (cond b (refused AddedHeader 0) (cond c (refused ByteCount 0) (cond d (refused TooFewRows 0) (Ok tt))))

four_decide : (a b c d : Bool) (later : Result (Unit {0}) Refusal)
    → refuse TooShort (if_holds a 0) (refuse AddedHeader (if_holds b 0) (refuse ByteCount (if_holds c 0) (refuse TooFewRows (if_holds d 0) later)))
    ≡ after_header (four_tests a b c d) later
four_decide true b c d later = refl
four_decide false true c d later = refl
four_decide false false true d later = refl
four_decide false false false true later = refl
four_decide false false false false later = refl

four-passed : (a b c d : Bool) → four_tests a b c d ≡ Ok tt → c ≡ false
four-passed true b c d e = absurd (refused_not_accepted e)
four-passed false true c d e = absurd (refused_not_accepted e)
four-passed false false true d e = absurd (refused_not_accepted e)
four-passed false false false true e = absurd (refused_not_accepted e)
four-passed false false false false e = refl

module _ (s : List ℕ) where
  pub outcome_by_header : (area : ℕ) → outcome_of s area ≡ after_header (header_outcome_of (length s) (header_of s)) (outcome_of_rows s area)
  unfolding outcome_of
  outcome_by_header area = four_decide (too_short s) (added_header_broken s) (byte_count_differs s) (too_few_rows s) (outcome_of_rows s area)

  pub first_by_header : (later : Result (Unit {0}) Refusal) → first_tests s later ≡ after_header (header_outcome_of (length s) (header_of s)) (row_tests s later)
  first_by_header later = four_decide (too_short s) (added_header_broken s) (byte_count_differs s) (too_few_rows s) (row_tests s later)

  -- what is known where none of them refuses
  pub header-passed : header_outcome_of (length s) (header_of s) ≡ Ok tt → length s ≡ job_length_of (header_of s)
  header-passed e = eqb-true _ _ (not-false _ (four-passed (too_short s) (added_header_broken s) (byte_count_differs s) (too_few_rows s) e))
