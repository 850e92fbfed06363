-- Without the first flag bit no row is isSet, all rows speak, and 4 has made sure that they are enough; so 12 never applies.
use mathlib.Core.Path.{◌≡◌, refl, ap, ◌∙◌}
use mathlib.Core.Bool.{Bool, true, false, cond, not, ◌&&◌, ◌||◌}
use mathlib.Core.List.{List}
use Prim.Native.Nat.{ℕ, ◌/◌, ◌%◌, ◌<◌}
use native.Mathlib.Omega.{arith}
use borrow.Author.Tests.{eqb-false}
use lib.Dec.{ltb, leb, eqb}
use Rattle.format.specs.declared.Reason.TheVariants.{TooShort, AddedHeader, ByteCount, TooFewRows}
use Rattle.format.specs.Bounds.{prime_of, largest_bound}
use Rattle.cursor.specs.Bits.{field_of}
use Rattle.cursor.proofs.Fields.{field_below}
use Rattle.lists.specs.Search.{if_holds, first_below, any_below}
use Rattle.lists.proofs.FirstBelow.{first_cong}
use Rattle.header.specs.Header.{df_of, header_length_of, spare_bit_of, flags_of, marks_allowed, bounds_of, header_of, rows_needed_of}
use Rattle.header_rules.specs.Rules.{too_short, bounds_absent, added_header_broken}
use Rattle.rows.specs.Rows.{number_at, job_point, job_value}
use Rattle.lists.proofs.Counting.{count_all}
use Rattle.std.specs.Prelude.{None}
use Rattle.marked_rows.specs.Marks.{mark_at, is_unmarked, speaking, speaks, speaking_count}
use Rattle.marked_rows.proofs.Marks.{unmarked_if_not_allowed}
use Rattle.job.specs.Refusals.{byte_count_differs, too_few_rows, too_few_speaking, out_of_range, refuse, outcome_of_rows, outcome_of}
use Rattle.problem.proofs.Rows.{unmarked_verdict}
use Rattle.either_header.specs.Unflagged.{plain_row_tests, item5_broken, item5_outcome, Unflagged}

module _ (s : List ℕ) (unset : marks_allowed (flags_of s) ≡ false) where
  none : (r : ℕ) → mark_at s r ≡ None
  none r = unmarked_if_not_allowed (marks_allowed (flags_of s)) (bounds_of s).outputs (job_value s r) unset

  -- the flags are what the eleven bits behind the first say
  flags_below : flags_of s % 2048 ≡ flags_of s
  unfolding flags_of
  flags_below = let n = eqb-false (flags_of s / 2048) 1 unset in let low = by (eqb (spare_bit_of s) 1) in omega arith
    where
      by : (longer : Bool) → cond longer (field_of s 44 12) 0 < 4096
      by true = omega (arith, field_below s 44 12)
      by false = omega arith

  broken_same : added_header_broken s ≡ item5_broken s
  broken_same =
      ap (λ x. eqb (header_length_of s) 7 && (not (eqb x 0) || bounds_absent (bounds_of s) || not (eqb (df_of s) (largest_bound (bounds_of s) (bounds_of s).outputs)))) flags_below

  pub all_speak : speaking_count s ≡ (bounds_of s).rows
  unfolding speaking_count
  all_speak = count_all (bounds_of s).rows (speaks s) (λ r l. ap speaking (none r))

  -- so 12 applies where 4 does
  speaking-same : too_few_speaking s ≡ too_few_rows s
  speaking-same = ap (λ m. ltb m (rows_needed_of (header_of s))) all_speak

  range_same : first_below (bounds_of s).rows (out_of_range s)
      ≡ first_below (bounds_of s).rows (λ r. leb (prime_of (bounds_of s)) (job_point s r) || any_below (bounds_of s).outputs (λ i. leb (prime_of (bounds_of s)) (job_value s r i)))
  range_same =
      first_cong (bounds_of s).rows _ _
      (λ r l. ap (λ m. leb (prime_of (bounds_of s)) (job_point s r) || (is_unmarked m && any_below (bounds_of s).outputs (λ i. leb (prime_of (bounds_of s)) (job_value s r i)))) (none r))

  rows_same : (area : ℕ) → refuse TooFewRows (if_holds (too_few_rows s) 0) (outcome_of_rows s area)
      ≡ refuse TooFewRows (if_holds (too_few_rows s) 0) (plain_row_tests (bounds_of s) (number_at s) area)
  unfolding outcome_of_rows
  rows_same area = by (too_few_rows s) refl
    where
      by : (few : Bool) → too_few_rows s ≡ few → refuse TooFewRows (if_holds few 0) (outcome_of_rows s area)
          ≡ refuse TooFewRows (if_holds few 0) (plain_row_tests (bounds_of s) (number_at s) area)
      by true e = refl
      by false e = rw (range_same, speaking-same ∙ e) refl

  tests_same : (area : ℕ) → outcome_of s area ≡ item5_outcome s area
  unfolding outcome_of
  tests_same area =
      rw broken_same
      (ap (λ o. refuse TooShort (if_holds (too_short s) 0) (refuse AddedHeader (if_holds (item5_broken s) 0) (refuse ByteCount (if_holds (byte_count_differs s) 0) o))) (rows_same area))

  pub unflagged : Unflagged s
  unflagged = record {
    tests = tests_same;
    wrong = λ f g r. unmarked_verdict (prime_of (bounds_of s)) (bounds_of s).outputs (job_point s r) (job_value s r) f g (none r);
  }

-- a short header sets no flag
pub short_unset : (s : List ℕ) → spare_bit_of s ≡ 0 → marks_allowed (flags_of s) ≡ false
unfolding flags_of
short_unset s spare = rw spare refl
