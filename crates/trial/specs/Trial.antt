-- Paper 02, item 1: the job that is written, and what a call reports and leaves in the area for it.
use Rattle.std.specs.Prelude.{◌≡◌, ◌↔◌, Bool, true, List, ◌++◌, ℕ, ◌+◌, ◌*◌, length, Result, Ok, Err}
use Rattle.format.specs.Bounds.{prime_of}
use Rattle.format.specs.declared.Bounds.{Bounds}
use Rattle.format.specs.declared.Refusal.{Refusal}
use Rattle.format.specs.declared.WritingReport.{WritingReport}
use Rattle.format.specs.Outcomes.{refusal_number, refused_writing, written_report}
use Rattle.header.specs.Header.{bounds_of, header_of, job_length_of}
use Rattle.answer.specs.Bytes.{coefficient_bytes}
use Rattle.lists.specs.Overwriting.{overwritten}
use Rattle.problem.specs.Reduced.{Reduced}
use Rattle.answer.specs.Coefficients.{denominator_of, numerator_of}
use Rattle.spoiling.specs.Spoiling.{added_by}
use Rattle.trial.specs.Rows.{trial_numbers}
use Rattle.trial.specs.Refusals.{outcome_before10, trial_outcome}

-- a header's bytes h, and behind them the L (1 + n) numbers of the rows of f and g, 16 bits each; added r is what spoiling adds in row r
abbrev pub job_bytes : (b : Bounds) (h : List ℕ) (f : ℕ → List ℕ) (g : List ℕ) (added : ℕ → ℕ) → List ℕ
job_bytes b h f g added = h ++ coefficient_bytes (trial_numbers (prime_of b) f g added b.rows b.outputs) (b.rows * (1 + b.outputs))

-- the job of the coefficients' bytes c with w rows spoiled
unfoldable pub trial_job : (h c : List ℕ) (start w : ℕ) → List ℕ
trial_job h c start w =
    job_bytes (bounds_of h) h (numerator_of (bounds_of h) c) (denominator_of (bounds_of h) c) (added_by (prime_of (bounds_of h)) (bounds_of h).rows start w)

-- the polynomials that the coefficients' bytes list are reduced
abbrev pub TrialReduced : (h c : List ℕ) → Type 0
TrialReduced h c = Reduced (prime_of (bounds_of h)) (bounds_of h).outputs (numerator_of (bounds_of h) c) (denominator_of (bounds_of h) c)

-- what an outcome of the tests reports: the job's bytes, or the refusal
abbrev pub trial_report : Result (Unit {0}) Refusal → (bytes : ℕ) → WritingReport
trial_report (Ok _) bytes = written_report bytes
trial_report (Err e) bytes = refused_writing (refusal_number e.reason) e.row

-- what the area then holds: the job and behind it what stood there, or after a refusal what it held before
abbrev pub trial_area : Result (Unit {0}) Refusal → (job area : List ℕ) → List ℕ
trial_area (Ok _) job area = overwritten job area
trial_area (Err e) job area = area

-- A call that reports r and leaves `after` in the area. `reduced` says whether the polynomials are reduced, where no earlier test refuses.
pub record Trial (h c : List ℕ) (start w : ℕ) (area : List ℕ) (r : WritingReport) (after : List ℕ) : Type 0 where
  pub reduced : Bool
  pub decided : outcome_before10 h c w (Ok tt) ≡ Ok tt → (reduced ≡ true) ↔ TrialReduced h c
  pub report : r ≡ trial_report (trial_outcome h c w (length area) reduced) (job_length_of (header_of h))
  pub written : after ≡ trial_area (trial_outcome h c w (length area) reduced) (trial_job h c start w) area
