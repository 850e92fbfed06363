-- The claim about the two calls, from what each of them settles.
use mathlib.Core.Path.{◌≡◌, sym, ap, ap₂, ◌∙◌}
use mathlib.Core.Logic.{◌⊎◌, inl, inr, ◌↔◌}
use mathlib.Core.List.{List}
use Prim.Native.Nat.{ℕ, ◌<◌}
use native.Mathlib.Omega.{arith}
use lib.ListN.{length, take, drop}
use lib.Seq.{take_at}
use Rattle.format.specs.Bounds.{answer_length_of}
use Rattle.format.specs.declared.Report.{Report}
use Rattle.format.specs.Outcomes.{check_report_of}
use Rattle.header.specs.Header.{bounds_of}
use Rattle.job.proofs.Facts.{well_formed_facts}
use Rattle.job.proofs.Forms.{form-refused, form_accepted}
use Rattle.answer.proofs.Lengths.{length_answer}
use Rattle.problem.specs.Answers.{word_for, recovered_bytes}
use Rattle.problem.proofs.Same.{recovered-same}
use Rattle.soundness.proofs.OnlyOne.{at_most_one}
use Rattle.recovery.proofs.Settling.{answered_if_zero}
use Rattle.recovery.specs.Recovery.{RefusedEarly, Answered, RefusedUnsolvable, Settled}
use Rattle.offered_answer.specs.declared.JudgementReport.{JudgementReport}
use Rattle.offered_answer.specs.Judgements.{unjudged_report, InForm, OfAnswer, Judged}
use Rattle.offered_answer.proofs.Settling.{settle_malformed, settle_length, settle_no}
use Rattle.offered_answer.proofs.Laws.{judged_unique}
use Rattle.judged_recovery.specs.JudgedRecovery.{JudgedRecovery}

-- a job has one right answer at most, byte for byte
pub one_answer : (s a a' : List ℕ) → InForm s → OfAnswer s a → OfAnswer s a' → a ≡ a'
one_answer s a a' wf right right' =
    right.3 ∙ recovered-same s (at_most_one s (well_formed_facts s (answer_length_of (bounds_of s)) wf) right.2 right'.2) ∙ sym right'.3

module _ (s a : List ℕ) {j : JudgementReport} (J : Judged s a j) (area : List ℕ) {r : Report} {after : List ℕ} (S : Settled s area r after) where
  -- the bytes that it wrote
  bytes_written_lem : (A : Answered s area r after) → take r.written after ≡ recovered_bytes s A.f A.g
  bytes_written_lem A =
      let bytes = recovered_bytes s A.f A.g in
      ap₂ take (ap (λ t. t.written) A.report) A.written
      ∙ take_at bytes (drop (length bytes) area) (answer_length_of (bounds_of s)) (length_answer (bounds_of s) (word_for s A.f A.g) A.g A.f)

  yes_to_written : (A : Answered s area r after) → (j.yes ≡ 1) ↔ (a ≡ take r.written after)
  yes_to_written A = (
    λ y. let right = (J.yes.0 y).1 in right.3 ∙ sym (recovered-same s (A.only right.0 right.1 right.2)) ∙ sym (bytes_written_lem A),
    λ e. J.yes.1 (form_accepted s (length area) A.well_formed, (A.f, A.g, A.answer, e ∙ bytes_written_lem A)),
  )

  in_form_if : (r.refusal ≡ 0) ⊎ (r.refusal ≡ 8) → InForm s
  in_form_if (inl z) = form_accepted s (length area) (answered_if_zero s area S z).well_formed
  in_form_if (inr e) = form_accepted s (length area) (S.eight.0 e).0

  -- the job's own refusals
  refused_alike : 0 < r.refusal → (r.refusal ≡ 7 → ⊥) → (r.refusal ≡ 8 → ⊥) → j ≡ unjudged_report r.refusal r.row
  refused_alike positive not-7 not-8 = by S.cases
    where
      by : RefusedEarly s area r after ⊎ (Answered s area r after ⊎ RefusedUnsolvable s area r after) → j ≡ unjudged_report r.refusal r.row
      by (inr (inl A)) = absurd (let e = ap (λ t. t.refusal) A.report in omega arith)
      by (inr (inr none)) = absurd (not-8 (ap (λ t. t.refusal) none.report))
      by (inl early) =
          let e = ap (λ t. t.refusal) early.report in
          let same = form-refused s (length area) (omega arith) (λ seven. not-7 (e ∙ seven)) in
          judged_unique s a J (settle_malformed s a (λ wf. early.malformed (same ∙ wf)))
          ∙ ap (λ t. unjudged_report t.refusal t.row) (sym (early.report ∙ ap check_report_of same))

  pub judged_recovery : JudgedRecovery s area r after a j
  judged_recovery = record {
    first = S;
    second = J;
    answered = λ z. yes_to_written (answered_if_zero s area S z);
    unsolvable = λ e size. judged_unique s a J (settle_no s a (in_form_if (inr e)) size (λ right. (S.eight.0 e).1 right.0 right.1 right.2));
    other_length = λ e other. judged_unique s a J (settle_length s a (in_form_if e) other);
    refused = refused_alike;
  }
