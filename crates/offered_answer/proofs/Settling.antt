-- From the tests to what is said.
use mathlib.Core.Path.{◌≡◌, refl, sym, ap, subst, ◌∙◌}
use mathlib.Core.Logic.{◌⊎◌, inl, inr, ◌↔◌}
use mathlib.Core.Bool.{Bool, true, false}
use mathlib.Core.List.{List}
use Prim.Native.Nat.{ℕ}
use native.Mathlib.Nat.{le_refl}
use native.Mathlib.Omega.{arith}
use lib.ListN.{length}
use Rattle.std.specs.Prelude.{Ok, Err}
use Rattle.lists.proofs.Truth.{clash}
use Rattle.format.specs.declared.Refusal.{Refusal}
use Rattle.format.specs.Outcomes.{refusal_number, check_report_of}
use Rattle.format.specs.Bounds.{answer_length_of}
use Rattle.header.specs.Header.{bounds_of}
use Rattle.job.specs.Refusals.{outcome_of}
use Rattle.job.proofs.Facts.{refused_not_accepted}
use Rattle.job.proofs.Forms.{form-same}
use Rattle.answer.proofs.Lengths.{length_answer}
use Rattle.problem.specs.Answers.{word_for}
use Rattle.offered_answer.specs.declared.JudgementReport.{JudgementReport}
use Rattle.offered_answer.specs.Judgements.{yes_report, no_report, unjudged_report, judgement_report_of, report_with_room, InForm, OfAnswer, JobRefused, LengthRefused, Affirmed, Denied, Judged}

-- an answer's bytes have the right length
pub right-length : (s a : List ℕ) → OfAnswer s a → length a ≡ answer_length_of (bounds_of s)
right-length s a right = ap length right.3 ∙ length_answer (bounds_of s) (word_for s right.0 right.1) right.1 right.0

module _ (s a : List ℕ) where
  -- the report says yes exactly if the offered bytes are right
  judged : {r : JudgementReport} → JobRefused s r ⊎ (LengthRefused s a r ⊎ (Affirmed s a r ⊎ Denied s a r)) → Judged s a r
  judged {r} cases = record { cases = cases; yes = by cases }
    where
      by : JobRefused s r ⊎ (LengthRefused s a r ⊎ (Affirmed s a r ⊎ Denied s a r)) → (r.yes ≡ 1) ↔ (InForm s × OfAnswer s a)
      by (inl j) = ((λ y. absurd (let e = ap (λ t. t.yes) j.report in omega arith)), λ h. absurd (j.malformed h.0))
      by (inr (inl l)) = ((λ y. absurd (let e = ap (λ t. t.yes) l.report in omega arith)), λ h. absurd (l.other_length (right-length s a h.1)))
      by (inr (inr (inl y))) = ((λ e. (y.in_form, y.right)), λ h. ap (λ t. t.yes) y.report)
      by (inr (inr (inr n))) = ((λ y. absurd (let e = ap (λ t. t.yes) n.report in omega arith)), λ h. absurd (n.wrong h.1))

  -- a test refuses the job
  pub settle_malformed : (InForm s → ⊥) → Judged s a (unjudged_report (report_with_room s).refusal (report_with_room s).row)
  settle_malformed malformed = judged (inl (record { malformed = malformed; report = refl }))

  -- no test refuses it
  module _ (in_form : InForm s) where
    pub settle_length : (length a ≡ answer_length_of (bounds_of s) → ⊥) → Judged s a (unjudged_report 3 0)
    settle_length other = judged (inr (inl (record { in_form = in_form; other_length = other; report = refl })))

    pub settle_yes : OfAnswer s a → Judged s a yes_report
    settle_yes right = judged (inr (inr (inl (record { in_form = in_form; right = right; report = refl }))))

    pub settle_no : length a ≡ answer_length_of (bounds_of s) → (OfAnswer s a → ⊥) → Judged s a no_report
    settle_no size wrong = judged (inr (inr (inr (record { in_form = in_form; right-length = size; wrong = wrong; report = refl }))))

    -- by a test that is passed exactly by the right bytes
    pub settle_tested : {x : Bool} → length a ≡ answer_length_of (bounds_of s) → (x ≡ true) ↔ OfAnswer s a → Judged s a (judgement_report_of (Ok x))
    settle_tested {x = true} size decided = settle_yes (decided.0 refl)
    settle_tested {x = false} size decided = settle_no size (λ right. clash (sym (decided.1 right)))

  -- the tests before 7 as the code runs them, with an area of 254 bytes
  form : outcome_of s 254 ≡ outcome_of s (answer_length_of (bounds_of s))
  form = form-same s 254 (le_refl 254)

  pub in_form_if_read : outcome_of s 254 ≡ Ok tt → InForm s
  in_form_if_read accepted = sym form ∙ accepted

  pub settle_refused : {e : Refusal} → outcome_of s 254 ≡ Err e → Judged s a (unjudged_report (refusal_number e.reason) e.row)
  settle_refused same =
      subst (λ o. Judged s a (unjudged_report (check_report_of o).refusal (check_report_of o).row)) (sym form ∙ same)
      (settle_malformed (λ wf. refused_not_accepted (sym same ∙ form ∙ wf)))
