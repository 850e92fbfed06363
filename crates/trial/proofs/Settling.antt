-- What each way through the tests settles.
use mathlib.Core.Bool.{Bool, true, false}
use mathlib.Core.List.{List, ◌++◌}
use mathlib.Core.Logic.{◌↔◌}
use mathlib.Core.Path.{◌≡◌, refl, sym, ap, ◌∙◌}
use Prim.Native.Nat.{ℕ, ◌+◌, ◌*◌, ◌<◌, ◌≤◌}
use borrow.Author.Tests.{lt-ltb, le-ltb}
use lib.ListN.{length}
use Rattle.lists.proofs.Truth.{clash}
use Rattle.format.specs.declared.Bounds.{Bounds}
use Rattle.format.specs.Bounds.{prime_of}
use Rattle.format.specs.declared.Reason.TheVariants.{AreaTooShort}
use Rattle.std.specs.Prelude.{Result, Ok, Err}
use Rattle.format.specs.declared.Refusal.{Refusal}
use Rattle.format.specs.Outcomes.{refused, refused_writing, written_report, writing_report_of}
use Rattle.header.specs.Header.{bounds_of, header_of, job_length_of}
use Rattle.job.proofs.Facts.{refused_not_accepted}
use Rattle.answer.specs.Bytes.{coefficient_bytes}
use Rattle.lists.specs.Overwriting.{overwritten}
use Rattle.spoiling.specs.Spoiling.{added_by}
use Rattle.trial.proofs.Numbers.{numbers_cong}
use Rattle.answer.specs.Coefficients.{denominator_of, numerator_of}
use Rattle.trial.specs.Refusals.{outcome_before10, trial_outcome}
use Rattle.trial.specs.Trial.{job_bytes, trial_job, TrialReduced, trial_report, trial_area, Trial}
use Rattle.trial.proofs.Facts.{refused_whatever, accepted_later}

-- the job of a vector that has these polynomials
pub job_of : (h c : List ℕ) (start w : ℕ) {b : Bounds} {f : ℕ → List ℕ} {g : List ℕ} → b ≡ bounds_of h → ((i : ℕ) → i < (bounds_of h).outputs → f i ≡ numerator_of (bounds_of h) c i)
    → g ≡ denominator_of (bounds_of h) c → job_bytes b h f g (added_by (prime_of b) b.rows start w) ≡ trial_job h c start w
unfolding trial_job
job_of h c start w {f = f} eb ef eg =
    rw (eb, eg)
    (ap (λ l. h ++ coefficient_bytes l ((bounds_of h).rows * (1 + (bounds_of h).outputs)))
    (numbers_cong (prime_of (bounds_of h)) f (numerator_of (bounds_of h) c) (denominator_of (bounds_of h) c) _ (bounds_of h).rows (bounds_of h).outputs ef))

module _ (h c : List ℕ) (start w : ℕ) (area : List ℕ) where
  abbrev outcome : Bool → Result (Unit {0}) Refusal
  outcome = trial_outcome h c w (length area)

  -- from the outcome
  settle : (reduced : Bool) → (outcome_before10 h c w (Ok tt) ≡ Ok tt → (reduced ≡ true) ↔ TrialReduced h c) → {o : Result (Unit {0}) Refusal} → outcome reduced ≡ o
      → {after : List ℕ} → after ≡ trial_area o (trial_job h c start w) area → Trial h c start w area (trial_report o (job_length_of (header_of h))) after
  settle reduced decided e written = record {
    reduced = reduced;
    decided = decided;
    report = sym (ap (λ o. trial_report o (job_length_of (header_of h))) e);
    written = written ∙ sym (ap (λ o. trial_area o (trial_job h c start w) area) e);
  }

  -- a test before 10 refuses
  pub settle_early : (q : Refusal) → outcome_before10 h c w (Ok tt) ≡ Err q → Trial h c start w area (writing_report_of (Err q)) area
  unfolding trial_outcome
  settle_early q e = settle true (λ accepted. absurd (refused_not_accepted (sym e ∙ accepted))) (refused_whatever h c w e _) refl

  -- the tests before 10 let the polynomials pass
  module _ (passes : outcome_before10 h c w (Ok tt) ≡ Ok tt) where
    pub settle_not_reduced : (TrialReduced h c → ⊥) → Trial h c start w area (refused_writing 10 0) area
    unfolding trial_outcome
    settle_not_reduced never = settle false (λ accepted. (λ e. clash (sym e), λ R. absurd (never R))) (accepted_later h c w passes _) refl

    module _ (R : TrialReduced h c) where
      is_reduced_lem : outcome_before10 h c w (Ok tt) ≡ Ok tt → (true ≡ true) ↔ TrialReduced h c
      is_reduced_lem accepted = (λ e. R, λ r. refl)

      pub settle_short : length area < job_length_of (header_of h) → Trial h c start w area (refused_writing 7 0) area
      unfolding trial_outcome
      settle_short l = settle true is_reduced_lem {o = refused AreaTooShort 0} (accepted_later h c w passes _ ∙ rw (lt-ltb _ _ l) refl) refl

      pub settle_written : job_length_of (header_of h) ≤ length area → {after : List ℕ} → after ≡ overwritten (trial_job h c start w) area
          → Trial h c start w area (written_report (job_length_of (header_of h))) after
      unfolding trial_outcome
      settle_written l written = settle true is_reduced_lem {o = Ok tt} (accepted_later h c w passes _ ∙ rw (le-ltb _ _ l) refl) written
