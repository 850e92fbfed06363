-- docs/TRIAL.md's job, and an example of each refusal of a trial job.
use Rattle.std.specs.Prelude.{◌≡◌, Bool, true, false, List, [], ◌∷◌, ◌++◌, ℕ, ◌≤◌, length}
use Rattle.format.specs.declared.Report.{Report}
use Rattle.format.specs.declared.WritingReport.{WritingReport}
use Rattle.format.specs.Outcomes.{recovered_report, written_report}
use Rattle.lists.specs.Overwriting.{overwritten}
use Rattle.trial.specs.Refusals.{trial_outcome}
use Rattle.trial.specs.Trial.{trial_job, trial_report, Trial}
use Rattle.trial_recovery.specs.TrialRecovery.{TrialRecovered}

-- 13 80 24: modulo 7, two outputs, seven rows, df 0, dg 1, E 2
abbrev pub header : List ℕ
header = 19 ∷ 128 ∷ 36 ∷ []

-- 0001 0001 0005 0001: g = 1 + u, f1 = 5, f2 = 1
abbrev pub coefficients : List ℕ
coefficients = 0 ∷ 1 ∷ 0 ∷ 1 ∷ 0 ∷ 5 ∷ 0 ∷ 1 ∷ []

-- the job's rows, with start 14 and two rows spoiled: row 6, the pole, and, since it is taken, row 0 behind it
abbrev pub rows : List ℕ
rows =
    (0 ∷ 0 ∷ 0 ∷ 2 ∷ 0 ∷ 1 ∷ []) ++ (0 ∷ 1 ∷ 0 ∷ 6 ∷ 0 ∷ 4 ∷ []) ++ (0 ∷ 2 ∷ 0 ∷ 4 ∷ 0 ∷ 5 ∷ []) ++ (0 ∷ 3 ∷ 0 ∷ 3 ∷ 0 ∷ 2 ∷ [])
    ++ (0 ∷ 4 ∷ 0 ∷ 1 ∷ 0 ∷ 3 ∷ []) ++ (0 ∷ 5 ∷ 0 ∷ 2 ∷ 0 ∷ 6 ∷ []) ++ (0 ∷ 6 ∷ 0 ∷ 2 ∷ 0 ∷ 0 ∷ [])

abbrev pub job : List ℕ
job = header ++ rows

-- 13 80 25 00 00 08 00: the same with the longer header and its first flag bit. The pole's row gets zeros all the same, and is spoiled: it reports none.
abbrev pub flagged : List ℕ
flagged = 19 ∷ 128 ∷ 37 ∷ 0 ∷ 0 ∷ 8 ∷ 0 ∷ []

abbrev pub FlaggedJob : Type 0
FlaggedJob = trial_job flagged coefficients 14 2 ≡ flagged ++ rows

-- every call that meets the contract writes the job, where the area has room
abbrev pub PageWritten : Type 0
PageWritten = (area : List ℕ) (r : WritingReport) (after : List ℕ) → 45 ≤ length area → Trial header coefficients 14 2 area r after
    → (r ≡ written_report 45) × (after ≡ overwritten job area)

-- and its recovery gives back the coefficients behind the word 82000000, with two wrong rows
abbrev pub PageRecovered : Type 0
PageRecovered = (jobArea : List ℕ) (r : WritingReport) (jobAfter area : List ℕ) (r' : Report) (after : List ℕ) → 45 ≤ length jobArea → 12 ≤ length area
    → TrialRecovered header coefficients 14 2 jobArea r jobAfter area r' after
    → (r' ≡ recovered_report 12 2) × (after ≡ overwritten (130 ∷ 0 ∷ 0 ∷ 0 ∷ coefficients) area)

-- the refusal of a call whose polynomials are reduced, or are not
abbrev pub refusal : (h c : List ℕ) (w area : ℕ) (reduced : Bool) → ℕ
refusal h c w area reduced = (trial_report (trial_outcome h c w area reduced) 0).refusal

-- a header of two bytes, and of three with the spare bit, which asks for seven; the last flag bit, a bound of an output that does not exist, and df 0
-- where f2's is 1, but not the longer header as such, or with the first flag bit; a byte too many, in either; L 1 with df 0, dg 1, E 2; eight rows modulo 7, and eight rows to be
-- spoiled of seven; 7 modulo 7; a common divisor; an area of 44 bytes
pub record EachRefusal : Type 0 where
  pub short-header : refusal (19 ∷ 128 ∷ []) coefficients 2 45 true ≡ 1
  pub spare_bit : refusal (19 ∷ 128 ∷ 37 ∷ []) coefficients 2 45 true ≡ 1
  pub last_flag : refusal (19 ∷ 128 ∷ 37 ∷ 0 ∷ 0 ∷ 0 ∷ 1 ∷ []) coefficients 2 49 true ≡ 11
  pub absent : refusal (19 ∷ 128 ∷ 37 ∷ 0 ∷ 0 ∷ 16 ∷ 0 ∷ []) coefficients 2 49 true ≡ 11
  pub df_below : refusal (19 ∷ 128 ∷ 37 ∷ 0 ∷ 64 ∷ 0 ∷ 0 ∷ []) coefficients 2 49 true ≡ 11
  pub longer : refusal (19 ∷ 128 ∷ 37 ∷ 0 ∷ 0 ∷ 0 ∷ 0 ∷ []) coefficients 2 49 true ≡ 0
  pub first_flag : refusal flagged coefficients 2 49 true ≡ 0
  pub long_header : refusal (header ++ 0 ∷ []) coefficients 2 45 true ≡ 3
  pub coefficient_bytes_lem : refusal header (coefficients ++ 0 ∷ []) 2 45 true ≡ 3
  pub few-rows : refusal (16 ∷ 128 ∷ 36 ∷ []) coefficients 2 45 true ≡ 4
  pub many_rows : refusal (20 ∷ 0 ∷ 36 ∷ []) coefficients 2 51 true ≡ 9
  pub many_spoiled : refusal header coefficients 8 45 true ≡ 9
  pub too_large : refusal header (0 ∷ 1 ∷ 0 ∷ 1 ∷ 0 ∷ 7 ∷ 0 ∷ 1 ∷ []) 2 45 true ≡ 5
  pub not_reduced : refusal header coefficients 2 45 false ≡ 10
  pub short_area : refusal header coefficients 2 44 true ≡ 7
