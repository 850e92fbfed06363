-- What the tests before 10 say where none of them applies, and that they either refuse or leave the word to the later ones.
use mathlib.Core.Bool.{false}
use mathlib.Core.List.{List}
use mathlib.Core.Logic.{inl, inr}
use mathlib.Core.Path.{◌≡◌, refl, sym, ◌∙◌}
use Prim.Native.Nat.{ℕ, ◌*◌, ◌/◌, ◌<◌, ◌≤◌}
use borrow.Author.Tests.{eqb-true, ltb-false, not-false}
use lib.ListN.{length}
use Rattle.format.specs.Bounds.{prime_of}
use Rattle.format.specs.Numbers.{number_from}
use Rattle.format.specs.declared.Reason.{Reason}
use Rattle.format.specs.declared.Reason.TheVariants.{TooShort, AddedHeader, ByteCount, TooFewRows, OutOfRange, TooManyRows}
use Rattle.std.specs.Prelude.{Result, Ok, Err}
use Rattle.format.specs.declared.Refusal.{Refusal}
use Rattle.header.specs.Header.{header_length_of, bounds_of, header_of, rows_needed_of}
use Rattle.header_rules.specs.Rules.{too_short, added_header_broken}
use Rattle.lists.proofs.Truth.{or-false}
use Rattle.lists.specs.Search.{if_holds}
use Rattle.job.specs.Refusals.{too_few_rows}
use Rattle.job.proofs.Forms.{Decisive, refuse_decisive}
use Rattle.job.proofs.Facts.{refused_not_accepted, passed, does_not_hold}
use Rattle.answer.specs.Coefficients.{coefficient_length_of, any_too_large}
use Rattle.answer.proofs.Ranges.{not_large}
use Rattle.trial.specs.Refusals.{byte_counts_differ, too_many_rows, numbers_outcome, lengths_outcome, outcome_before10}

-- where no test before 10 applies
pub record TrialFacts (h c : List ℕ) (w : ℕ) : Type 0 where
  pub header_bytes : length h ≡ header_length_of h
  pub rules : added_header_broken h ≡ false
  pub coefficient_bytes_lem : length c ≡ coefficient_length_of (bounds_of h)
  pub enough_rows : rows_needed_of (header_of h) ≤ (bounds_of h).rows
  pub distinct_points : (bounds_of h).rows ≤ prime_of (bounds_of h)
  pub few_spoiled : w ≤ (bounds_of h).rows
  pub coefficients_in_range : (k : ℕ) → k < length c / 2 → number_from c (2 * k) < prime_of (bounds_of h)

pub trial_facts : (h c : List ℕ) (w : ℕ) → outcome_before10 h c w (Ok tt) ≡ Ok tt → TrialFacts h c w
unfolding outcome_before10 lengths_outcome numbers_outcome
trial_facts h c w accepted =
    let t1 = passed TooShort (if_holds (too_short h) 0) _ accepted in
    let t2 = passed AddedHeader (if_holds (added_header_broken h) 0) _ t1.1 in
    let t3 = passed ByteCount (if_holds (byte_counts_differ h c) 0) _ t2.1 in
    let t4 = passed TooFewRows (if_holds (too_few_rows h) 0) _ t3.1 in
    let t9 = passed TooManyRows (if_holds (too_many_rows (bounds_of h) w) 0) _ t4.1 in
    let t5 = passed OutOfRange (if_holds (any_too_large (bounds_of h) c) 0) _ t9.1 in
    let counts = or-false _ _ (does_not_hold (byte_counts_differ h c) t3.0) in
    let rows = or-false _ _ (does_not_hold (too_many_rows (bounds_of h) w) t9.0) in
    record {
      header_bytes = eqb-true _ _ (not-false _ counts.0);
      rules = does_not_hold (added_header_broken h) t2.0;
      coefficient_bytes_lem = eqb-true _ _ (not-false _ counts.1);
      enough_rows = ltb-false _ _ (does_not_hold (too_few_rows h) t4.0);
      distinct_points = ltb-false _ _ rows.0;
      few_spoiled = ltb-false _ _ rows.1;
      coefficients_in_range = not_large (bounds_of h) c (does_not_hold (any_too_large (bounds_of h) c) t5.0);
    }

-- no matter for which reason
abbrev AnyReason : Reason → Type 0
AnyReason reason = Unit

module _ (h c : List ℕ) (w : ℕ) where
  before_decisive : Decisive AnyReason (outcome_before10 h c w)
  unfolding outcome_before10 lengths_outcome numbers_outcome
  before_decisive =
      refuse_decisive AnyReason TooShort (if_holds (too_short h) 0) _ tt
      (refuse_decisive AnyReason AddedHeader (if_holds (added_header_broken h) 0) _ tt
      (refuse_decisive AnyReason ByteCount (if_holds (byte_counts_differ h c) 0) _ tt
      (refuse_decisive AnyReason TooFewRows (if_holds (too_few_rows h) 0) _ tt
      (refuse_decisive AnyReason TooManyRows (if_holds (too_many_rows (bounds_of h) w) 0) _ tt
      (refuse_decisive AnyReason OutOfRange (if_holds (any_too_large (bounds_of h) c) 0) (λ later. later) tt (inr (λ later. refl)))))))

  pub refused_whatever : {q : Refusal} → outcome_before10 h c w (Ok tt) ≡ Err q → (later : Result (Unit {0}) Refusal) → outcome_before10 h c w later ≡ Err q
  refused_whatever {q} e later = by before_decisive
    where
      by : Decisive AnyReason (outcome_before10 h c w) → outcome_before10 h c w later ≡ Err q
      by (inl d) = d.3 later ∙ sym (d.3 (Ok tt)) ∙ e
      by (inr d) = absurd (refused_not_accepted (sym e ∙ d (Ok tt)))

  pub accepted_later : outcome_before10 h c w (Ok tt) ≡ Ok tt → (later : Result (Unit {0}) Refusal) → outcome_before10 h c w later ≡ later
  accepted_later e later = by before_decisive
    where
      by : Decisive AnyReason (outcome_before10 h c w) → outcome_before10 h c w later ≡ later
      by (inl d) = absurd (refused_not_accepted (sym (d.3 (Ok tt)) ∙ e))
      by (inr d) = d later
