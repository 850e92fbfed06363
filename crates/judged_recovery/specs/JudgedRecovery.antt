-- Paper 02, item 3, and demand 2: a job's recovery and the judgement on an offered answer, as one claim about two calls, with any job s, area
-- and offered bytes a. The first call reports r and leaves `after` in the area, the second reports j.
use Rattle.std.specs.Prelude.{◌≡◌, ◌⊎◌, ◌↔◌, List, ℕ, ◌<◌, length, take}
use Rattle.format.specs.Bounds.{answer_length_of}
use Rattle.format.specs.declared.Report.{Report}
use Rattle.header.specs.Header.{bounds_of}
use Rattle.recovery.specs.Recovery.{Settled}
use Rattle.offered_answer.specs.declared.JudgementReport.{JudgementReport}
use Rattle.offered_answer.specs.Judgements.{no_report, unjudged_report, Judged}

pub record JudgedRecovery (s area : List ℕ) (r : Report) (after a : List ℕ) (j : JudgementReport) : Type 0 where
  pub first : Settled s area r after
  pub second : Judged s a j
  -- where the recovery answers, yes to exactly the bytes that it wrote
  pub answered : r.refusal ≡ 0 → (j.yes ≡ 1) ↔ (a ≡ take r.written after)
  -- where it refuses with 8, no to everything of the right length
  pub unsolvable : r.refusal ≡ 8 → length a ≡ answer_length_of (bounds_of s) → j ≡ no_report
  -- in both cases 3 for everything of another length
  pub other_length : (r.refusal ≡ 0) ⊎ (r.refusal ≡ 8) → (length a ≡ answer_length_of (bounds_of s) → ⊥) → j ≡ unjudged_report 3 0
  -- where one of 1, 11, 3, 4, 5, 12 and 6 refuses the job, both calls name the same number and row
  pub refused : 0 < r.refusal → (r.refusal ≡ 7 → ⊥) → (r.refusal ≡ 8 → ⊥) → j ≡ unjudged_report r.refusal r.row
