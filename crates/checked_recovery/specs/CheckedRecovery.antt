-- Paper 02, item 4, and demand 1: a job's check for form and its recovery, as one claim about two calls, with any job s and area. The first call
-- returns c, the second reports r and leaves `after` in the area.
use Rattle.std.specs.Prelude.{◌≡◌, ◌⊎◌, List, ℕ, ◌<◌, length, Result, Ok}
use Rattle.format.specs.Bounds.{answer_length_of}
use Rattle.format.specs.declared.Reason.{Reason}
use Rattle.format.specs.declared.Report.{Report}
use Rattle.format.specs.declared.Refusal.{Refusal}
use Rattle.format.specs.Outcomes.{refusal_number, refused, refused_report}
use Rattle.header.specs.Header.{bounds_of}
use Rattle.job.specs.Form.{form_outcome_of}
use Rattle.recovery.specs.Recovery.{Settled}

pub record CheckedRecovery (s area : List ℕ) (c : Result (Unit {0}) Refusal) (r : Report) (after : List ℕ) : Type 0 where
  pub first : c ≡ form_outcome_of s
  pub second : Settled s area r after
  -- what the check refuses, the recovery refuses with the same number and row, whatever the area, and leaves it as it was
  pub refused : (reason : Reason) (row : ℕ) → c ≡ refused reason row → (r ≡ refused_report (refusal_number reason) row) × (after ≡ area)
  -- what it accepts is answered, or refused with 7 since the area is too short, or with 8
  pub accepted : c ≡ Ok tt
      → (r.refusal ≡ 0) ⊎ (((length area < answer_length_of (bounds_of s)) × (r ≡ refused_report 7 0)) ⊎ (r ≡ refused_report 8 0))
