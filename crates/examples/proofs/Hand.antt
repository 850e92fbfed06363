-- The claim over the table, by one computation over all its entries.
use mathlib.Core.Path.{◌≡◌, refl, subst}
use mathlib.Core.List.{List, [], ◌∷◌, map}
use Prim.Native.Nat.{ℕ}
use lib.ListN.{length}
use Rattle.lists.specs.Tabulated.{tabulate}
use Rattle.lists.proofs.Maps.{same_maps}
use Rattle.poly.specs.Operations.{value_of, combination_at, combination_of, times_linear_at, times_linear_of, scaled_at, scaled_of, length_below, length_of, sum_below, product_at, product_of}
use Rattle.reciprocal.specs.Reciprocals.{reciprocal_of}
use Rattle.euclid.specs.Division.{shifted, cancelled_at, cancelled_of, cancel_factor, division_step, remainder_from, quotient_from, degree_of, leading_reciprocal, remainder_of, quotient_of}
use Rattle.euclid.specs.Euclid.{gcd_from, gcd_of}
use Rattle.fraction.specs.LowestTerms.{unit_of, reduced_numerator, reduced_denominator}
use Rattle.pairs.specs.Pairs.{discrepancy_of, advanced_of, combined_of, step_by, start_of, pairs_after, smaller_of}
use Rattle.column.specs.Columns.{column_at, column_of}
use Rattle.candidate.specs.Extensions.{raised_at, raised_below, with_output, extended_of}
use Rattle.candidate.specs.Candidates.{start_candidate, with_fraction, next_of, candidate_after}
use Rattle.format.specs.Bounds.{largest_bound, numerator_count}
use Rattle.cursor.specs.Bits.{field_of}
use Rattle.header.specs.Header.{outputs_of, df_of, spare_bit_of, numerator_bounds_of, flags_of, bounds_of}
use Rattle.lists.specs.Search.{first_below}
use Rattle.rows.specs.Rows.{number_at}
use Rattle.marked_rows.specs.Marks.{mark_of, speaking_count}
use Rattle.marked_rows.specs.Table.{job_points, job_weights, job_values}
use Rattle.job.specs.Refusals.{outcome_of_rows, outcome_of}
use Rattle.wrong_rows.specs.Rows.{fails_row}
use Rattle.row_mask.specs.Word.{word_of}
use Rattle.lists.specs.Counting.{count_below}
use Rattle.answer.specs.Bytes.{coefficient_bytes, output_bytes}
use Rattle.lists.specs.Overwriting.{overwritten}
use Rattle.format.specs.declared.Report.{Report}
use Rattle.recovery.specs.Recovery.{Settled}
use Rattle.solver.specs.Solutions.{word_by, counted_solution}
use Rattle.recovery.proofs.Laws.{settled_unique}
use Rattle.examples.specs.Hand.{Example, one_pole, two_poles, table, ExampleHolds, EveryHolds}
use Rattle.examples.specs.Enlargement.{smaller, larger}
use Rattle.examples.proofs.Model.{Computed, result_of, result_settled}

abbrev computed : Example → Computed
computed e = result_of e.job e.room

abbrev expected : Example → Computed
expected e = record { report = e.report; bytes = e.bytes }

-- where the definition gives what is expected at every entry, the claim holds
each : (l : List Example) → map computed l ≡ map expected l → EveryHolds l
each [] h = tt
each (e ∷ l) h =
    let both = same_maps computed expected e l h in (
      (λ area n. subst (λ r. Settled e.job area r.report (overwritten r.bytes area)) both.0 (result_settled e.job area e.room n)),
      each l both.1,
    )

-- H1 to H12, and before them the two jobs of the enlargement rule's example and those of paper 02, item 6
abbrev all : List Example
all = larger ∷ smaller ∷ two_poles ∷ one_pole ∷ table

as_expected : map computed all ≡ map expected all
unfolding table result_of outcome_of outcome_of_rows largest_bound numerator_count field_of outputs_of df_of spare_bit_of numerator_bounds_of flags_of bounds_of first_below number_at mark_of speaking_count job_points job_weights job_values tabulate
    counted_solution word_by candidate_after next_of with_fraction extended_of with_output raised_below raised_at column_of column_at
    start_candidate pairs_after step_by start_of smaller_of combined_of advanced_of discrepancy_of value_of combination_of
    combination_at times_linear_of times_linear_at scaled_of scaled_at length_of length_below sum_below product_at product_of unit_of reduced_numerator
    reduced_denominator gcd_of gcd_from remainder_of quotient_of leading_reciprocal degree_of quotient_from remainder_from division_step cancel_factor cancelled_of
    cancelled_at shifted reciprocal_of fails_row word_of count_below coefficient_bytes output_bytes
as_expected = refl

pub all_hold : EveryHolds all
all_hold = each all as_expected

-- H1 to H12
pub hand_examples : EveryHolds table
hand_examples = all_hold.1.1.1.1

-- and the jobs with marks
pub marked_examples : ExampleHolds one_pole × ExampleHolds two_poles
marked_examples = (all_hold.1.1.1.0, all_hold.1.1.0)

-- and a call of the recovery for a job of the table reports and leaves nothing else
pub only_result : (e : Example) → ExampleHolds e → (area : List ℕ) → length area ≡ e.room → {r : Report} {after : List ℕ} → Settled e.job area r after
    → (r ≡ e.report) × (after ≡ overwritten e.bytes area)
only_result e h area n S = settled_unique e.job area S (h area n)
