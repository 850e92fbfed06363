-- What paper 01 says of jobs, for every job.
use mathlib.Core.Bool.{Bool, true, false, not}
use mathlib.Core.List.{List}
use mathlib.Core.Logic.{◌⊎◌, inl, inr}
use mathlib.Core.Path.{◌≡◌, refl, ap, ◌∙◌}
use Prim.Native.Nat.{ℕ, ◌+◌, ◌<◌, ◌≤◌}
use native.Mathlib.Nat.{mul-le-mul_right}
use native.Mathlib.Omega.{arith}
use borrow.Author.Tests.{lt-ltb, le-ltb, eq-eqb}
use lib.ListN.{length}
use Rattle.std.specs.Prelude.{Option, Some, None, Result, Ok, Err}
use Rattle.format.specs.declared.Refusal.{Refusal}
use Rattle.field.specs.Primes.{modulus_of}
use Rattle.format.specs.Bounds.{answer_length_of}
use Rattle.format.proofs.Sizes.{counts_most}
use Rattle.format.specs.declared.Reason.TheVariants.{TooFewRows, OutOfRange, TooFewSpeaking, RepeatedPoint}
use Rattle.header.specs.Header.{df_of, bounds_of, spare_bit_of, header_length_of, header_of, job_length_of, rows_needed_of}
use Rattle.header.proofs.Fields.{fits_fields, fits-header, rows_bytes}
use Rattle.header_rules.specs.Rules.{too_short, added_header_broken}
use Rattle.header_rules.proofs.Rules.{short_unbroken, bound_within_df}
use Rattle.lists.specs.Search.{first_below}
use Rattle.rows.specs.Rows.{job_point}
use Rattle.job.specs.Refusals.{byte_count_differs, too_few_rows, out_of_range, too_few_speaking, repeated_point, outcome_of_rows, outcome_of, WellFormed}
use Rattle.job.specs.declared.parsed_job.ParsedJob.{ParsedJob}
use Rattle.job.specs.ParsedJob.{accepted_job, parsed_with, parsed_job_of}
use Rattle.lists.proofs.Truth.{clash}
use Rattle.job.proofs.Deciding.{at_4, at_5, at_12, at_6, past_4}
use Rattle.job.proofs.Facts.{well_formed_facts, points_below, points_distinct}
use Rattle.job.proofs.Pigeonhole.{pigeonhole}
use Rattle.format.specs.Outcomes.{refused}

module _ (s : List ℕ) (area : ℕ) where
  -- 4 more than paper 01's "313 at most", with the longer header
  pub job-length_most : WellFormed s area → length s ≤ 317
  job-length_most h = omega (arith, (well_formed_facts s area h).byte_count, rows_bytes (bounds_of s) (fits_fields s), (fits-header s).length_most)

  -- "254 at most"
  pub answer_length_most : WellFormed s area → answer_length_of (bounds_of s) ≤ 254
  answer_length_most h =
      let f = well_formed_facts s area h in
      let n = mul-le-mul_right {n = 4} (df_of s + 1) (fits_fields s).outputs_most in
      omega (arith, f.enough_rows, (fits_fields s).rows_most, counts_most (bounds_of s) (df_of s) (bounds_of s).outputs (bound_within_df s f.rules))

  -- "A job of three bytes with L = 0 and spare bit 0 meets 4."
  pub no_rows : length s ≡ 3 → (bounds_of s).rows ≡ 0 → spare_bit_of s ≡ 0 → outcome_of s area ≡ refused TooFewRows 0
  no_rows three none spare =
      let bytes : length s ≡ job_length_of (header_of s) = rw (spare, none) (omega arith) in
      at_4 s area (le-ltb (length s) (header_length_of s) (omega arith)) (short_unbroken s spare)
      (ap not (eq-eqb (length s) (job_length_of (header_of s)) bytes)) (lt-ltb (bounds_of s).rows (rows_needed_of (header_of s)) (omega arith))

  -- one of tests 5, 12 and 6 refuses the job
  abbrev pub RefusedByRows : Type 0
  RefusedByRows =
      ((r : ℕ) × (outcome_of s area ≡ refused OutOfRange r)) ⊎ ((outcome_of s area ≡ refused TooFewSpeaking 0) ⊎ ((r : ℕ) × (outcome_of s area ≡ refused RepeatedPoint r)))

  -- "More than p rows, where 1 to 4 don't apply, meet 5 or 6", and with paper 02, item 6, "may meet 12 as well"
  pub too_many_rows : too_short s ≡ false → added_header_broken s ≡ false → byte_count_differs s ≡ false → too_few_rows s ≡ false
      → modulus_of (bounds_of s).prime < (bounds_of s).rows → RefusedByRows
  unfolding outcome_of_rows
  too_many_rows n1 n11 n3 n4 many = five (first_below (bounds_of s).rows (out_of_range s)) refl
    where
      past : outcome_of s area ≡ outcome_of_rows s area
      past = past_4 s area n1 n11 n3 n4

      six : first_below (bounds_of s).rows (out_of_range s) ≡ None → too_few_speaking s ≡ false → (f : Option ℕ) → first_below (bounds_of s).rows (repeated_point s) ≡ f → RefusedByRows
      six n5 n12 (Some r) e = inr (inr (r, past ∙ at_6 s _ n5 n12 e))
      six n5 n12 None e =
          absurd (let h = pigeonhole (bounds_of s).rows (modulus_of (bounds_of s).prime) (job_point s) (points_below s n5) (points_distinct s e) in omega arith)

      twelve : first_below (bounds_of s).rows (out_of_range s) ≡ None → (b : Bool) → too_few_speaking s ≡ b → RefusedByRows
      twelve n5 true e = inr (inl (past ∙ at_12 s _ n5 e))
      twelve n5 false e = six n5 e (first_below (bounds_of s).rows (repeated_point s)) refl

      five : (f : Option ℕ) → first_below (bounds_of s).rows (out_of_range s) ≡ f → RefusedByRows
      five (Some r) e = inl (r, past ∙ at_5 s _ e)
      five None e = twelve e (too_few_speaking s) refl

-- a well-formed job is read whole
pub parsed_accepted : (s : List ℕ) (area : ℕ) → WellFormed s area → parsed_job_of s area ≡ Ok (accepted_job s)
parsed_accepted s area h = ap (λ (o : Result (Unit {0}) Refusal). parsed_with o s) h

-- and only a well-formed one is read
pub parsed_well_formed : (s : List ℕ) (area : ℕ) {job : ParsedJob} → parsed_job_of s area ≡ Ok job → WellFormed s area × (job ≡ accepted_job s)
parsed_well_formed s area e = by (outcome_of s area) e
  where
    by : {job : ParsedJob} (o : Result (Unit {0}) Refusal) → parsed_with o s ≡ Ok job → (o ≡ Ok tt) × (job ≡ accepted_job s)
    by (Ok _) e = (refl, cc)
    by (Err _) e = absurd (clash cc)

-- a job that is not read is refused by the tests
pub parsed_refused : (s : List ℕ) (area : ℕ) {e : Refusal} → parsed_job_of s area ≡ Err e → outcome_of s area ≡ Err e
parsed_refused s area h = by (outcome_of s area) h
  where
    by : {e : Refusal} (o : Result (Unit {0}) Refusal) → parsed_with o s ≡ Err e → o ≡ Err e
    by (Ok _) h = absurd (clash cc)
    by (Err _) h = cc
