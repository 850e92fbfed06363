-- Paper 02, item 3: what is said of an answer that somebody offers for a job, from the job's bytes s and the offered bytes a.
use Rattle.std.specs.Prelude.{◌≡◌, ◌⊎◌, ◌↔◌, Bool, true, false, List, ℕ, length, Result, Ok, Err}
use Rattle.format.specs.declared.Refusal.{Refusal}
use Rattle.format.specs.declared.Report.{Report}
use Rattle.format.specs.Outcomes.{refusal_number, check_report_of}
use Rattle.format.specs.Bounds.{answer_length_of}
use Rattle.header.specs.Header.{bounds_of}
use Rattle.job.specs.Refusals.{outcome_of, WellFormed}
use Rattle.problem.specs.Answers.{Answer, recovered_bytes}
use Rattle.offered_answer.specs.declared.JudgementReport.{JudgementReport}

-- a judgement in the papers' numbers: 1 is yes, and "A refusal carries its number and the row it speaks of"
abbrev pub yes_report : JudgementReport
yes_report = record { refusal = 0; row = 0; yes = 1 }

abbrev pub no_report : JudgementReport
no_report = record { refusal = 0; row = 0; yes = 0 }

abbrev pub unjudged_report : (number row : ℕ) → JudgementReport
unjudged_report number row = record { refusal = number; row = row; yes = 0 }

-- yes, no, or a refusal
abbrev pub judgement_report_of : Result Bool Refusal → JudgementReport
judgement_report_of (Ok true) = yes_report
judgement_report_of (Ok false) = no_report
judgement_report_of (Err e) = unjudged_report (refusal_number e.reason) e.row

-- "1 to 6 as for the job", with 11 in the place of 2 since item 5 and 12 between 5 and 6 since item 6: what its tests say with an area just as long as its
-- answer, which 7 does not refuse
abbrev pub report_with_room : List ℕ → Report
report_with_room s = check_report_of (outcome_of s (answer_length_of (bounds_of s)))

-- none of these tests refuses the job
abbrev pub InForm : List ℕ → Type 0
InForm s = WellFormed s (answer_length_of (bounds_of s))

-- "the sheet is the one that 01 defines for that job": there is an answer of the job, and the offered bytes are its bytes with its word, every
-- one of them
abbrev pub OfAnswer : (s a : List ℕ) → Type 0
OfAnswer s a = (f : ℕ → List ℕ) × (g : List ℕ) × Answer s f g × (a ≡ recovered_bytes s f g)

-- one of the tests before 7 refuses the job: its number and row are reported
pub record JobRefused (s : List ℕ) (r : JudgementReport) : Type 0 where
  pub malformed : InForm s → ⊥
  pub report : r ≡ unjudged_report (report_with_room s).refusal (report_with_room s).row

-- "then 3 again if the offered sheet's byte count differs from 01's formula"
pub record LengthRefused (s a : List ℕ) (r : JudgementReport) : Type 0 where
  pub in_form : InForm s
  pub other_length : length a ≡ answer_length_of (bounds_of s) → ⊥
  pub report : r ≡ unjudged_report 3 0

-- yes
pub record Affirmed (s a : List ℕ) (r : JudgementReport) : Type 0 where
  pub in_form : InForm s
  pub right : OfAnswer s a
  pub report : r ≡ yes_report

-- no
pub record Denied (s a : List ℕ) (r : JudgementReport) : Type 0 where
  pub in_form : InForm s
  pub right-length : length a ≡ answer_length_of (bounds_of s)
  pub wrong : OfAnswer s a → ⊥
  pub report : r ≡ no_report

-- one of the four holds, and the report says yes exactly if no test refuses the job and the offered bytes are those of an answer of it
pub record Judged (s a : List ℕ) (r : JudgementReport) : Type 0 where
  pub cases : JobRefused s r ⊎ (LengthRefused s a r ⊎ (Affirmed s a r ⊎ Denied s a r))
  pub yes : (r.yes ≡ 1) ↔ (InForm s × OfAnswer s a)
