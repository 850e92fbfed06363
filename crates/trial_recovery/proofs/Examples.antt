-- The examples hold.
use mathlib.Core.Path.{◌≡◌, refl, ap, ap₂, ◌∙◌}
use mathlib.Core.List.{◌++◌}
use native.Mathlib.Nat.{le_refl}
use native.Mathlib.Omega.{arith}
use Rattle.lists.specs.Tabulated.{tabulate}
use Rattle.field.proofs.Moduli.{modulus_prime}
use Rattle.field.specs.declared.Prime.TheVariants.{P7}
use Rattle.format.specs.Bounds.{largest_bound, numerator_count, answer_length_of}
use Rattle.std.specs.Prelude.{Ok}
use Rattle.format.specs.Outcomes.{recovered_report, written_report}
use Rattle.cursor.specs.Bits.{field_of}
use Rattle.header.specs.Header.{outputs_of, df_of, spare_bit_of, numerator_bounds_of, flags_of, bounds_of, header_of, job_length_of}
use Rattle.lists.specs.Search.{first_below}
use Rattle.poly.specs.Operations.{value_of, length_of, length_below}
use Rattle.row_mask.specs.Word.{word_of}
use Rattle.lists.specs.Counting.{count_below}
use Rattle.answer.specs.Bytes.{four_bytes, coefficient_bytes}
use Rattle.lists.specs.Overwriting.{overwritten}
use Rattle.reciprocal.specs.Reciprocals.{reciprocal_of}
use Rattle.euclid.specs.Division.{remainder_of, remainder_from, degree_of, division_step, cancelled_of, cancelled_at, cancel_factor, leading_reciprocal, shifted}
use Rattle.euclid.specs.Euclid.{gcd_from, gcd_of}
use Rattle.reduced.specs.CommonDivisor.{common_divisor_of}
use Rattle.reduced.proofs.Decision.{constant_reduced}
use Rattle.answer.specs.Coefficients.{polynomial_from}
use Rattle.spoiling.specs.Draws.{drawn}
use Rattle.spoiling.specs.Spoiling.{untaken_from, chosen_row, added_by}
use Rattle.trial.specs.Rows.{right_value, value_before, trial_number, trial_numbers}
use Rattle.trial.specs.Refusals.{numbers_outcome, lengths_outcome, outcome_before10, trial_outcome}
use Rattle.trial.specs.Trial.{trial_job, TrialReduced}
use Rattle.answer.proofs.Ranges.{denominator_stored, numerator_stored}
use Rattle.header.proofs.Fields.{fits_polynomials}
use Rattle.trial.proofs.Facts.{TrialFacts, trial_facts}
use Rattle.trial.proofs.Settling.{settle_written}
use Rattle.trial.proofs.Laws.{trial_unique}
use Rattle.trial_recovery.specs.TrialRecovery.{pole_or_spoiled, poles_and_spoiled}
use Rattle.trial_recovery.specs.Examples.{header, coefficients, job, FlaggedJob, PageWritten, PageRecovered, EachRefusal}

each_refusal : EachRefusal
unfolding trial_outcome outcome_before10 lengths_outcome numbers_outcome tabulate largest_bound numerator_count field_of outputs_of df_of spare_bit_of numerator_bounds_of flags_of bounds_of first_below
each_refusal = record {
  short-header = refl;
  spare_bit = refl;
  last_flag = refl;
  absent = refl;
  df_below = refl;
  longer = refl;
  first_flag = refl;
  long_header = refl;
  coefficient_bytes_lem = refl;
  few-rows = refl;
  many_rows = refl;
  many_spoiled = refl;
  too_large = refl;
  not_reduced = refl;
  short_area = refl;
}

page_passes : outcome_before10 header coefficients 2 (Ok tt) ≡ Ok tt
unfolding outcome_before10 lengths_outcome numbers_outcome tabulate largest_bound numerator_count field_of outputs_of df_of spare_bit_of numerator_bounds_of flags_of bounds_of first_below
page_passes = refl

page_facts : TrialFacts header coefficients 2
page_facts = trial_facts header coefficients 2 page_passes

page_reduced : TrialReduced header coefficients
unfolding field_of outputs_of df_of spare_bit_of numerator_bounds_of flags_of bounds_of polynomial_from numerator_count tabulate length_of length_below common_divisor_of gcd_of gcd_from remainder_of remainder_from degree_of division_step cancelled_of cancelled_at cancel_factor leading_reciprocal reciprocal_of first_below shifted
page_reduced =
    constant_reduced 7 (modulus_prime P7) 2 _
    (denominator_stored (bounds_of header) (fits_polynomials header) coefficients page_facts.coefficient_bytes_lem page_facts.coefficients_in_range)
    (numerator_stored (bounds_of header) (fits_polynomials header) coefficients page_facts.coefficient_bytes_lem page_facts.coefficients_in_range)
    (λ e. omega arith) refl refl

page_job : trial_job header coefficients 14 2 ≡ job
unfolding trial_job trial_numbers trial_number value_before right_value value_of polynomial_from numerator_count added_by chosen_row untaken_from drawn coefficient_bytes tabulate first_below field_of outputs_of df_of spare_bit_of numerator_bounds_of flags_of bounds_of
page_job = refl

flagged-job : FlaggedJob
unfolding trial_job trial_numbers trial_number value_before right_value value_of polynomial_from numerator_count added_by chosen_row untaken_from drawn coefficient_bytes tabulate first_below field_of outputs_of df_of spare_bit_of numerator_bounds_of flags_of bounds_of
flagged-job = refl

page_length : job_length_of (header_of header) ≡ 45
unfolding field_of outputs_of df_of spare_bit_of numerator_bounds_of flags_of bounds_of
page_length = refl

page_written : PageWritten
page_written area r after enough T =
    let here = settle_written header coefficients 14 2 area page_passes page_reduced (rw page_length enough) refl in
    let same = trial_unique header coefficients 14 2 area T here in
    (same.0 ∙ ap written_report page_length, same.1 ∙ ap (λ t. overwritten t area) page_job)

-- row 6 is a pole and spoiled, and row 0 is spoiled
page_count : poles_and_spoiled header coefficients 14 2 ≡ 2
unfolding count_below value_of polynomial_from added_by chosen_row untaken_from drawn tabulate first_below field_of outputs_of df_of spare_bit_of numerator_bounds_of flags_of bounds_of
page_count = refl

page_word : word_of (bounds_of header).rows (pole_or_spoiled header coefficients 14 2) ≡ 2181038080
unfolding word_of value_of polynomial_from added_by chosen_row untaken_from drawn tabulate first_below field_of outputs_of df_of spare_bit_of numerator_bounds_of flags_of bounds_of
page_word = refl

page_answer_length : answer_length_of (bounds_of header) ≡ 12
unfolding tabulate numerator_count field_of outputs_of df_of spare_bit_of numerator_bounds_of flags_of bounds_of
page_answer_length = refl

page_errors : (bounds_of header).errors ≡ 2
unfolding field_of bounds_of
page_errors = refl

page_recovered : PageRecovered
page_recovered jobArea r jobAfter area r' after room enough T =
    let first = page_written jobArea r jobAfter room T.first in
    let back = T.recovered (ap (λ t. t.refusal) first.0) (rw page_answer_length enough) (rw (page_count, page_errors) (le_refl 2)) in
    (back.report ∙ ap₂ recovered_report page_answer_length page_count, back.written ∙ ap (λ word. overwritten (four_bytes word ++ coefficients) area) page_word)
