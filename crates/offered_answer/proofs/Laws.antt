-- What is said of an offered answer is determined.
use mathlib.Core.Bool.{Bool, true, false}
use mathlib.Core.Path.{◌≡◌, refl, sym, ap, ap₂, ◌∙◌}
use mathlib.Core.Logic.{◌⊎◌, inl, inr}
use mathlib.Core.List.{List}
use Prim.Native.Nat.{ℕ, ◌≤◌, ◌<◌}
use native.Mathlib.Omega.{arith}
use Rattle.std.specs.Prelude.{Result, Ok, Err}
use Rattle.format.specs.declared.Refusal.{Refusal}
use Rattle.format.specs.Bounds.{answer_length_of}
use Rattle.format.specs.Outcomes.{refused}
use Rattle.format.proofs.Numbers.{number_injective, number_positive}
use Rattle.header.specs.Header.{bounds_of}
use Rattle.job.specs.Refusals.{outcome_of}
use Rattle.job.proofs.Numbers.{EarlyBelow, form_early}
use Rattle.offered_answer.specs.declared.JudgementReport.{JudgementReport}
use Rattle.offered_answer.specs.Judgements.{judgement_report_of, JobRefused, LengthRefused, Affirmed, Denied, Judged}
use Rattle.offered_answer.proofs.Settling.{right-length}

module _ (s a : List ℕ) {r : JudgementReport} where
  -- what is reported is determined by the job and the offered bytes
  pub judged_unique : {r' : JudgementReport} → Judged s a r → Judged s a r' → r ≡ r'
  judged_unique {r'} J J' = by J.cases J'.cases
    where
      by : JobRefused s r ⊎ (LengthRefused s a r ⊎ (Affirmed s a r ⊎ Denied s a r)) → JobRefused s r' ⊎ (LengthRefused s a r' ⊎ (Affirmed s a r' ⊎ Denied s a r')) → r ≡ r'
      by (inl j) (inl j') = j.report ∙ sym j'.report
      by (inl j) (inr (inl l)) = absurd (j.malformed l.in_form)
      by (inl j) (inr (inr (inl y))) = absurd (j.malformed y.in_form)
      by (inl j) (inr (inr (inr n))) = absurd (j.malformed n.in_form)
      by (inr (inl l)) (inl j) = absurd (j.malformed l.in_form)
      by (inr (inl l)) (inr (inl l')) = l.report ∙ sym l'.report
      by (inr (inl l)) (inr (inr (inl y))) = absurd (l.other_length (right-length s a y.right))
      by (inr (inl l)) (inr (inr (inr n))) = absurd (l.other_length n.right-length)
      by (inr (inr (inl y))) (inl j) = absurd (j.malformed y.in_form)
      by (inr (inr (inl y))) (inr (inl l)) = absurd (l.other_length (right-length s a y.right))
      by (inr (inr (inl y))) (inr (inr (inl y'))) = y.report ∙ sym y'.report
      by (inr (inr (inl y))) (inr (inr (inr n))) = absurd (n.wrong y.right)
      by (inr (inr (inr n))) (inl j) = absurd (j.malformed n.in_form)
      by (inr (inr (inr n))) (inr (inl l)) = absurd (l.other_length n.right-length)
      by (inr (inr (inr n))) (inr (inr (inl y))) = absurd (n.wrong y.right)
      by (inr (inr (inr n))) (inr (inr (inr n'))) = n.report ∙ sym n'.report

  -- its refusals are 1, 11, 3 to 6 and 12
  pub refusals_given : Judged s a r → (r.refusal ≡ 2 → ⊥) × (6 < r.refusal → (11 ≤ r.refusal) × (r.refusal ≤ 12))
  refusals_given J = by J.cases (form_early s)
    where
      low : {n : ℕ} → r.refusal ≡ n → n < 7 → (n ≡ 2 → ⊥) → (r.refusal ≡ 2 → ⊥) × (6 < r.refusal → (11 ≤ r.refusal) × (r.refusal ≤ 12))
      low e most other = (λ two. other (sym e ∙ two), λ high. absurd (omega arith))

      by : JobRefused s r ⊎ (LengthRefused s a r ⊎ (Affirmed s a r ⊎ Denied s a r)) → EarlyBelow 7 (outcome_of s (answer_length_of (bounds_of s)))
          → (r.refusal ≡ 2 → ⊥) × (6 < r.refusal → (11 ≤ r.refusal) × (r.refusal ≤ 12))
      by (inl j) (inl accepted) = absurd (j.malformed accepted)
      by (inl j) (inr number) = let e = ap (λ t. t.refusal) j.report in (λ two. number.1 (sym e ∙ two), λ high. rw e (number.2 (omega arith)))
      by (inr (inl l)) o = low (ap (λ t. t.refusal) l.report) (omega arith) (λ two. omega arith)
      by (inr (inr (inl y))) o = low (ap (λ t. t.refusal) y.report) (omega arith) (λ two. omega arith)
      by (inr (inr (inr n))) o = low (ap (λ t. t.refusal) n.report) (omega arith) (λ two. omega arith)

-- so is the judgement: its numbers tell its cases apart
pub judgement_unique : (j j' : Result Bool Refusal) → judgement_report_of j ≡ judgement_report_of j' → j ≡ j'
judgement_unique (Ok true) (Ok true) e = refl
judgement_unique (Ok true) (Ok false) e = absurd (let y = ap (λ t. t.yes) e in omega arith)
judgement_unique (Ok true) (Err q) e = absurd (let y = ap (λ t. t.yes) e in omega arith)
judgement_unique (Ok false) (Ok true) e = absurd (let y = ap (λ t. t.yes) e in omega arith)
judgement_unique (Ok false) (Ok false) e = refl
judgement_unique (Ok false) (Err q) e = absurd (let z = ap (λ t. t.refusal) e in omega (arith, number_positive q.reason))
judgement_unique (Err q) (Ok true) e = absurd (let y = ap (λ t. t.yes) e in omega arith)
judgement_unique (Err q) (Ok false) e = absurd (let z = ap (λ t. t.refusal) e in omega (arith, number_positive q.reason))
judgement_unique (Err q) (Err q') e = ap₂ refused (number_injective q.reason q'.reason (ap (λ t. t.refusal) e)) (ap (λ t. t.row) e)
