-- What the program makes of a job's bytes.
use Rattle.std.specs.Prelude.{ℕ, ◌≡◌, List, length, replicate, Some, Result, Ok, Err}
use Rattle.field.specs.declared.Prime.TheVariants.{P7}
use Rattle.format.specs.declared.Bounds.{Bounds}
use Rattle.format.specs.declared.Recovered.{Recovered}
use Rattle.format.specs.declared.Refusal.{Refusal}
use Rattle.format.specs.Outcomes.{report_of}
use Rattle.job.specs.declared.parsed_job.ParsedJob.{ParsedJob}
use Rattle.job.specs.ParsedJob.{parsed_job_of}
use Rattle.lists.specs.Overwriting.{overwritten}
use Rattle.margin.specs.RecoveredMargin.{RecoveredMargin}
use Rattle.text.specs.Text.{text_of}
use Rattle.std.specs.Counts.{IsPrefixLen}

-- the area that the program lends to the recovery: 254 bytes, which no answer exceeds, all 0
abbrev pub answer_area : List ℕ
answer_area = replicate 254 0

-- prime code 0, and 0 everywhere else
abbrev pub no_bounds : Bounds
no_bounds = record { prime = P7; outputs = 0; rows = 0; numerators = replicate 4 0; dg = 0; errors = 0 }

-- the bounds that a text goes by: the job's, where it is read without a refusal
abbrev pub text_bounds_of : Result ParsedJob Refusal → Bounds
text_bounds_of (Ok job) = job.bounds
text_bounds_of (Err e) = no_bounds

-- the text of an outcome and a margin for the job s, where the recovery left these bytes in the area
abbrev pub text_for : List ℕ → Result Recovered Refusal → (margin : ℕ) → List ℕ → List ℕ
text_for s outcome margin left = text_of (text_bounds_of (parsed_job_of s 254)) (Some outcome) margin left

-- The recovery's outcome and what it left in the area are those of demands 1 and 2, and the margin is the answer's, 0 where there is none; the buffer, which
-- held the old bytes, then holds their text and what lay behind it, and n is the text's length.
pub record Printed (s old : List ℕ) (n : ℕ) (after : List ℕ) : Type 0 where
  pub outcome : Result Recovered Refusal
  pub left : List ℕ
  pub margin : ℕ
  pub measured : RecoveredMargin s answer_area (report_of outcome) left margin
  pub size : n ≡ length (text_for s outcome margin left)
  pub written : after ≡ overwritten (text_for s outcome margin left) old
  -- so that the text can be lent from the buffer
  pub counted : IsPrefixLen n after
