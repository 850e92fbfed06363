-- Demands 1 and 2: what a call of the recovery reports and leaves in the answer area, from the job's bytes s and the area before. A report is
-- what the call returns in paper 01's numbers: the refusal, its row, the bytes written, the wrong rows.
use Rattle.std.specs.Prelude.{◌≡◌, ◌⊎◌, ◌↔◌, List, ℕ, length}
use Rattle.format.specs.declared.Report.{Report}
use Rattle.format.specs.Outcomes.{check_report_of, refused_report, recovered_report}
use Rattle.format.specs.Bounds.{answer_length_of}
use Rattle.header.specs.Header.{bounds_of}
use Rattle.job.specs.Refusals.{outcome_of, WellFormed}
use Rattle.lists.specs.Overwriting.{overwritten}
use Rattle.problem.specs.Reduced.{Same}
use Rattle.problem.specs.Answers.{wrong_count, Answer, Unsolvable, recovered_bytes}

-- a test before 8 refuses the job: its number and row are reported, and the area is untouched
pub record RefusedEarly (s area : List ℕ) (r : Report) (after : List ℕ) : Type 0 where
  pub malformed : WellFormed s (length area) → ⊥
  pub report : r ≡ check_report_of (outcome_of s (length area))
  pub untouched : after ≡ area

-- The job is well formed and has an answer f, g, the only one. "The call returns the number of bytes written and how many rows are wrong";
-- the area then holds the answer's bytes, and what it held before behind them.
pub record Answered (s area : List ℕ) (r : Report) (after : List ℕ) : Type 0 where
  pub well_formed : WellFormed s (length area)
  pub f : ℕ → List ℕ
  pub g : List ℕ
  pub answer : Answer s f g
  pub only : (f' : ℕ → List ℕ) (g' : List ℕ) → Answer s f' g' → Same (bounds_of s).outputs f g f' g'
  pub report : r ≡ recovered_report (answer_length_of (bounds_of s)) (wrong_count s f g)
  pub written : after ≡ overwritten (recovered_bytes s f g) area

-- the job is well formed and has no answer: refusal 8, and the area is untouched
pub record RefusedUnsolvable (s area : List ℕ) (r : Report) (after : List ℕ) : Type 0 where
  pub well_formed : WellFormed s (length area)
  pub none : Unsolvable s
  pub report : r ≡ refused_report 8 0
  pub untouched : after ≡ area

-- one of the three holds, and the report says 8 exactly if the job is well formed and has no answer
pub record Settled (s area : List ℕ) (r : Report) (after : List ℕ) : Type 0 where
  pub cases : RefusedEarly s area r after ⊎ (Answered s area r after ⊎ RefusedUnsolvable s area r after)
  pub eight : (r.refusal ≡ 8) ↔ (WellFormed s (length area) × Unsolvable s)
