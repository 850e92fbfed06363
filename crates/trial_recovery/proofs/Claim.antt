-- The claim about the two calls: a trial job has its vector as its answer, and the recovery of the bytes that were written gives it back.
use mathlib.Core.Path.{◌≡◌, sym, ap, subst, ◌∙◌}
use mathlib.Core.Logic.{◌⊎◌, inl, inr}
use mathlib.Core.List.{List, [], ◌++◌}
use Prim.Native.Nat.{ℕ, ◌+◌, ◌≤◌, ◌<◌}
use native.Mathlib.Omega.{arith}
use borrow.Author.Tests.{lt-ltb}
use lib.ListN.{length, take, drop}
use lib.Seq.{take_at}
use Rattle.format.specs.Bounds.{prime_of, answer_length_of}
use Rattle.format.specs.declared.Bounds.{Bounds}
use Rattle.format.specs.declared.Reason.TheVariants.{TooShort}
use Rattle.format.specs.declared.Report.{Report}
use Rattle.format.specs.declared.WritingReport.{WritingReport}
use Rattle.format.specs.Outcomes.{check_report_of, refused, refused_report, recovered_report}
use Rattle.header.specs.declared.Header.{Header}
use Rattle.header.specs.Header.{header_length_of, bounds_of, header_of, job_length_of, rows_needed_of}
use Rattle.header_rules.specs.Rules.{breaks_rule}
use Rattle.header.proofs.Fields.{fits_fields, fits_polynomials}
use Rattle.job.specs.Refusals.{outcome_of}
use Rattle.job.proofs.Deciding.{at_1}
use Rattle.job.proofs.Facts.{WellFormedFacts, facts_well_formed, refused_not_accepted}
use Rattle.row_mask.specs.Word.{word_of}
use Rattle.lists.specs.Counting.{count_below}
use Rattle.row_mask.proofs.Words.{word_same}
use Rattle.lists.proofs.Counting.{count_same}
use Rattle.answer.specs.Bytes.{four_bytes, answer_bytes}
use Rattle.lists.specs.Overwriting.{overwritten}
use Rattle.problem.specs.Reduced.{Reduced}
use Rattle.problem.specs.Answers.{wrong_at, wrong_count, Within, Answer, word_for, recovered_bytes}
use Rattle.problem.proofs.Same.{wrong_count-same, recovered-same}
use Rattle.recovery.specs.Recovery.{RefusedEarly, Answered, RefusedUnsolvable, Settled}
use Rattle.answer.specs.Coefficients.{denominator_of, numerator_of}
use Rattle.trial.specs.Trial.{trial_job, TrialReduced, Trial}
use Rattle.trial.proofs.Facts.{TrialFacts, trial_facts}
use Rattle.answer.proofs.Written.{Bytes, coefficients_written}
use Rattle.answer.proofs.Ranges.{denominator_bounded, numerator_bounded}
use Rattle.trial.proofs.Laws.{Wrote, RefusedTrial, trial_cases, wrote_if_not_refused, refused_otherwise}
use Rattle.trial_recovery.specs.TrialRecovery.{pole_or_spoiled, poles_and_spoiled, GivenBack, TrialRecovered}
use Rattle.trial_recovery.proofs.Reading.{job-length, header-same, bounds_same, number_below, number_read, point_read, all_speak}
use Rattle.trial_recovery.proofs.Judging.{wrong_rows_lem}

module _ (h c : List ℕ) (start w : ℕ) (F : TrialFacts h c w) (R : TrialReduced h c) where
  abbrev s : List ℕ
  s = trial_job h c start w

  abbrev f : ℕ → List ℕ
  f = numerator_of (bounds_of h) c

  abbrev g : List ℕ
  g = denominator_of (bounds_of h) c

  header : header_of s ≡ header_of h
  header = header-same h c start w F

  bounds : bounds_of s ≡ bounds_of h
  bounds = bounds_same h c start w F

  row_there : {r : ℕ} → r < (bounds_of s).rows → r < (bounds_of h).rows
  row_there l = rw bounds at l

  -- the job is well formed
  job_facts : (area : ℕ) → answer_length_of (bounds_of h) ≤ area → WellFormedFacts s area
  job_facts area enough = record {
    fields = fits_fields s;
    rules = ap breaks_rule header ∙ F.rules;
    byte_count = job-length h c start w F ∙ sym (ap job_length_of header);
    enough_rows = subst (λ (x : Header). rows_needed_of x ≤ x.bounds.rows) (sym header) F.enough_rows;
    points_in_range = λ r l. rw (bounds, number_read h c start w F r 0 (row_there l) (omega arith)) (number_below h c start w F r 0 (row_there l));
    values_in_range = λ r i l m unmarked.
        let m' = rw bounds at m in
        rw (bounds, number_read h c start w F r (1 + i) (row_there l) (omega arith)) (number_below h c start w F r (1 + i) (row_there l));
    enough_speaking = rw (all_speak h c start w F) (subst (λ (x : Header). rows_needed_of x ≤ (bounds_of h).rows) (sym header) F.enough_rows);
    distinct = λ q r l m e. sym (point_read h c start w F q (row_there l)) ∙ e ∙ point_read h c start w F r (row_there m);
    enough_area = rw bounds enough;
  }

  count_is : wrong_count s f g ≡ poles_and_spoiled h c start w
  count_is = ap (λ (b : Bounds). count_below b.rows (wrong_at s f g)) bounds ∙ count_same (bounds_of h).rows _ _ (wrong_rows_lem h c start w F R)

  word_is : word_of (bounds_of s).rows (wrong_at s f g) ≡ word_of (bounds_of h).rows (pole_or_spoiled h c start w)
  word_is = ap (λ (b : Bounds). word_of b.rows (wrong_at s f g)) bounds ∙ word_same (bounds_of h).rows _ _ (wrong_rows_lem h c start w F R)

  -- and its vector is its answer, where the poles and spoiled rows are few enough
  job_answer : poles_and_spoiled h c start w ≤ (bounds_of h).errors → Answer s f g
  job_answer few = record {
    within = subst (λ b. Within b f g) (sym bounds) (record {
      numerators = numerator_bounded (bounds_of h) (fits_polynomials h) c F.coefficient_bytes_lem F.coefficients_in_range;
      denominator = denominator_bounded (bounds_of h) (fits_polynomials h) c F.coefficient_bytes_lem F.coefficients_in_range;
    });
    reduced = subst (λ (b : Bounds). Reduced (prime_of b) b.outputs f g) (sym bounds) R;
    few_wrong = subst (λ (b : Bounds). wrong_count s f g ≤ b.errors) (sym bounds) (subst (λ k. k ≤ (bounds_of h).errors) (sym count_is) few);
  }

  bytes_are : Bytes c → recovered_bytes s f g ≡ four_bytes (word_of (bounds_of h).rows (pole_or_spoiled h c start w)) ++ c
  bytes_are bytes =
      ap (λ b. answer_bytes b (word_for s f g) g f) bounds
      ∙ ap (λ word. answer_bytes (bounds_of h) word g f) word_is
      ∙ ap (λ l. four_bytes (word_of (bounds_of h).rows (pole_or_spoiled h c start w)) ++ l) (coefficients_written c bytes (bounds_of h) (fits_polynomials h) F.coefficient_bytes_lem)

  given_back : Bytes c → (area : List ℕ) {r : Report} {after : List ℕ} → Settled s area r after → answer_length_of (bounds_of h) ≤ length area
      → poles_and_spoiled h c start w ≤ (bounds_of h).errors → GivenBack h c start w area r after
  given_back bytes area {r} {after} S enough few = by S.cases
    where
      by : RefusedEarly s area r after ⊎ (Answered s area r after ⊎ RefusedUnsolvable s area r after) → GivenBack h c start w area r after
      by (inl early) = absurd (early.malformed (facts_well_formed s (length area) (job_facts (length area) enough)))
      by (inr (inr none)) = absurd (none.none _ _ (job_answer few))
      by (inr (inl A)) =
          let same = A.only f g (job_answer few) in
          record {
            report =
                A.report ∙ ap (λ b. recovered_report (answer_length_of b) (wrong_count s A.f A.g)) bounds
                ∙ ap (recovered_report (answer_length_of (bounds_of h))) (wrong_count-same s same ∙ count_is);
            written = A.written ∙ ap (λ t. overwritten t area) (recovered-same s same ∙ bytes_are bytes);
          }

-- the empty job is refused with 1
empty-refused : (area : List ℕ) {r : Report} {after : List ℕ} → Settled [] area r after → (r ≡ refused_report 1 0) × (after ≡ area)
empty-refused area {r} {after} S = by S.cases
  where
    short : outcome_of [] (length area) ≡ refused TooShort 0
    short = at_1 [] (length area) (lt-ltb 0 (header_length_of []) (omega arith))

    by : RefusedEarly [] area r after ⊎ (Answered [] area r after ⊎ RefusedUnsolvable [] area r after) → (r ≡ refused_report 1 0) × (after ≡ area)
    by (inl early) = (early.report ∙ ap check_report_of short, early.untouched)
    by (inr (inl A)) = absurd (refused_not_accepted (sym short ∙ A.well_formed))
    by (inr (inr none)) = absurd (refused_not_accepted (sym short ∙ none.well_formed))

module _ (h c : List ℕ) (start w : ℕ) (jobArea : List ℕ) {r : WritingReport} {jobAfter : List ℕ} (T : Trial h c start w jobArea r jobAfter) where
  -- the bytes that the first call wrote are the job
  written_bytes : Wrote h c start w jobArea r jobAfter → take r.written jobAfter ≡ trial_job h c start w
  written_bytes W =
      let F = trial_facts h c w W.passes in
      ap (λ t. take t.written jobAfter) W.report ∙ ap (take (job_length_of (header_of h))) W.written
      ∙ take_at (trial_job h c start w) (drop (length (trial_job h c start w)) jobArea) (job_length_of (header_of h)) (job-length h c start w F)

  none_written : RefusedTrial jobArea r jobAfter → take r.written jobAfter ≡ []
  none_written R = ap (λ t. take t.written jobAfter) R.report

  -- no more bytes than the area has
  pub written_fits : r.written ≤ length jobArea
  written_fits = by (trial_cases h c start w jobArea T)
    where
      by : Wrote h c start w jobArea r jobAfter ⊎ RefusedTrial jobArea r jobAfter → r.written ≤ length jobArea
      by (inl W) = let e = ap (λ t. t.written) W.report in omega (arith, W.enough)
      by (inr R) = let e = ap (λ t. t.written) R.report in omega arith

  pub trial-recovered : Bytes c → (area : List ℕ) {r' : Report} {after : List ℕ} → Settled (take r.written jobAfter) area r' after
      → TrialRecovered h c start w jobArea r jobAfter area r' after
  trial-recovered bytes area {r'} {after} S = record {
    first = T;
    second = S;
    refused = λ nonzero.
        let R = refused_otherwise h c start w jobArea T nonzero in
        let none = empty-refused area (subst (λ t. Settled t area r' after) (none_written R) S) in
        (R.untouched, none.0, none.1);
    recovered = λ zero enough few.
        let W = wrote_if_not_refused h c start w jobArea T zero in
        given_back h c start w (trial_facts h c w W.passes) W.reduced bytes area (subst (λ t. Settled t area r' after) (written_bytes W) S) enough few;
  }
