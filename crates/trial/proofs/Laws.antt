-- What a call says: it wrote the job of reduced polynomials, or it was refused. Its report, what it returns and the area are determined.
use mathlib.Core.Bool.{Bool, true, false}
use mathlib.Core.List.{List}
use mathlib.Core.Logic.{◌⊎◌, inl, inr}
use mathlib.Core.Path.{◌≡◌, refl, sym, ap, ◌∙◌}
use Prim.Native.Nat.{ℕ, ◌≤◌}
use native.Mathlib.Omega.{arith}
use borrow.Author.Tests.{ltb-false}
use lib.ListN.{length}
use Rattle.format.specs.declared.Reason.{Reason}
use Rattle.format.specs.declared.Reason.TheVariants.{AreaTooShort, NotReduced}
use Rattle.format.specs.declared.Refusal.{Refusal}
use Rattle.format.specs.declared.WritingReport.{WritingReport}
use Rattle.std.specs.Prelude.{Result, Ok, Err}
use Rattle.format.specs.Outcomes.{refusal_number, refused_writing, written_report, writing_report_of}
use Rattle.format.proofs.Numbers.{number_positive}
use Rattle.format.proofs.Reports.{writing_injective}
use Rattle.header.specs.Header.{header_of, job_length_of}
use Rattle.lists.specs.Overwriting.{overwritten}
use Rattle.trial.specs.Refusals.{job_area_too_short, outcome_before10, trial_outcome}
use Rattle.trial.specs.Trial.{trial_job, TrialReduced, trial_report, trial_area, Trial}
use Rattle.trial.proofs.Facts.{refused_whatever, accepted_later}

-- the job is written
pub record Wrote (h c : List ℕ) (start w : ℕ) (area : List ℕ) (r : WritingReport) (after : List ℕ) : Type 0 where
  pub passes : outcome_before10 h c w (Ok tt) ≡ Ok tt
  pub reduced : TrialReduced h c
  pub enough : job_length_of (header_of h) ≤ length area
  pub report : r ≡ written_report (job_length_of (header_of h))
  pub written : after ≡ overwritten (trial_job h c start w) area

-- a refusal, which leaves the area as it was
pub record RefusedTrial (area : List ℕ) (r : WritingReport) (after : List ℕ) : Type 0 where
  pub reason : Reason
  pub row : ℕ
  pub report : r ≡ refused_writing (refusal_number reason) row
  pub untouched : after ≡ area

module _ (h c : List ℕ) (start w : ℕ) (area : List ℕ) {r : WritingReport} {after : List ℕ} (T : Trial h c start w area r after) where
  refused_by : (q : Refusal) → trial_outcome h c w (length area) T.reduced ≡ Err q → RefusedTrial area r after
  refused_by q e = record {
    reason = q.reason;
    row = q.row;
    report = T.report ∙ ap (λ o. trial_report o (job_length_of (header_of h))) e;
    untouched = T.written ∙ ap (λ o. trial_area o (trial_job h c start w) area) e;
  }

  pub trial_cases : Wrote h c start w area r after ⊎ RefusedTrial area r after
  unfolding trial_outcome
  trial_cases = by (outcome_before10 h c w (Ok tt)) refl
    where
      last : outcome_before10 h c w (Ok tt) ≡ Ok tt → (reduced short : Bool) → T.reduced ≡ reduced → job_area_too_short h (length area) ≡ short
          → Wrote h c start w area r after ⊎ RefusedTrial area r after
      last e false short er es = inr (refused_by (record { reason = NotReduced; row = 0 }) (accepted_later h c w e _ ∙ rw er refl))
      last e true true er es = inr (refused_by (record { reason = AreaTooShort; row = 0 }) (accepted_later h c w e _ ∙ rw (er, es) refl))
      last e true false er es =
          let accepted : trial_outcome h c w (length area) T.reduced ≡ Ok tt = accepted_later h c w e _ ∙ rw (er, es) refl in
          inl (record {
            passes = e;
            reduced = (T.decided e).0 er;
            enough = ltb-false _ _ es;
            report = T.report ∙ ap (λ o. trial_report o (job_length_of (header_of h))) accepted;
            written = T.written ∙ ap (λ o. trial_area o (trial_job h c start w) area) accepted;
          })

      by : (o : Result (Unit {0}) Refusal) → outcome_before10 h c w (Ok tt) ≡ o → Wrote h c start w area r after ⊎ RefusedTrial area r after
      by (Ok _) e = last e T.reduced (job_area_too_short h (length area)) refl refl
      by (Err q) e = inr (refused_by q (refused_whatever h c w e _))

  -- the report tells the two cases apart
  pub wrote_if_not_refused : r.refusal ≡ 0 → Wrote h c start w area r after
  wrote_if_not_refused zero = by trial_cases
    where
      by : Wrote h c start w area r after ⊎ RefusedTrial area r after → Wrote h c start w area r after
      by (inl wrote) = wrote
      by (inr not) = absurd (let e = ap (λ t. t.refusal) not.report in let l = number_positive not.reason in omega arith)

  pub refused_otherwise : (r.refusal ≡ 0 → ⊥) → RefusedTrial area r after
  refused_otherwise nonzero = by trial_cases
    where
      by : Wrote h c start w area r after ⊎ RefusedTrial area r after → RefusedTrial area r after
      by (inl wrote) = absurd (nonzero (ap (λ t. t.refusal) wrote.report))
      by (inr not) = not

-- what is reported and every byte of the area are determined by what the call was given
pub trial_unique : (h c : List ℕ) (start w : ℕ) (area : List ℕ) {r r' : WritingReport} {after after' : List ℕ}
    → Trial h c start w area r after → Trial h c start w area r' after' → (r ≡ r') × (after ≡ after')
unfolding trial_outcome
trial_unique h c start w area {r} {r'} {after} {after'} T T' = by (outcome_before10 h c w (Ok tt)) refl
  where
    from : trial_outcome h c w (length area) T.reduced ≡ trial_outcome h c w (length area) T'.reduced → (r ≡ r') × (after ≡ after')
    from e = (
      T.report ∙ ap (λ o. trial_report o (job_length_of (header_of h))) e ∙ sym T'.report,
      T.written ∙ ap (λ o. trial_area o (trial_job h c start w) area) e ∙ sym T'.written,
    )

    same : outcome_before10 h c w (Ok tt) ≡ Ok tt → (b b' : Bool) → T.reduced ≡ b → T'.reduced ≡ b' → b ≡ b'
    same e true true t t' = refl
    same e false false t t' = refl
    same e true false t t' = sym ((T'.decided e).1 ((T.decided e).0 t)) ∙ t' ∙ refl
    same e false true t t' = sym t ∙ (T.decided e).1 ((T'.decided e).0 t')

    by : (o : Result (Unit {0}) Refusal) → outcome_before10 h c w (Ok tt) ≡ o → (r ≡ r') × (after ≡ after')
    by (Ok _) e = from (ap (trial_outcome h c w (length area)) (same e T.reduced T'.reduced refl refl))
    by (Err q) e = from (refused_whatever h c w e _ ∙ sym (refused_whatever h c w e _))

-- and so is what `trial` returns
pub writing_unique : (h c : List ℕ) (start w : ℕ) (area : List ℕ) {v v' : Result ℕ Refusal} {after after' : List ℕ}
    → Trial h c start w area (writing_report_of v) after → Trial h c start w area (writing_report_of v') after' → v ≡ v'
writing_unique h c start w area {v} {v'} T T' = writing_injective v v' (trial_unique h c start w area T T').0
