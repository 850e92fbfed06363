-- Paper 02, item 4: what a check for form returns.
use Rattle.std.specs.Prelude.{Result}
use Rattle.format.specs.declared.Recovered.{Recovered}
use Rattle.format.specs.declared.Refusal.{Refusal}
use Rattle.format.specs.Outcomes.{report_of, check_report_of}
use Rattle.form_check.specs.declared.FormReport.{FormReport}

-- "A refusal carries its number and the row it speaks of"; both are 0 where the job is accepted
abbrev pub form_report_of : Result (Unit {0}) Refusal → FormReport
form_report_of check = record { refusal = (check_report_of check).refusal; row = (check_report_of check).row }

-- the same of a recovery; both are 0 where the job is recovered
abbrev pub recovery_form_report_of : Result Recovered Refusal → FormReport
recovery_form_report_of recovery = record { refusal = (report_of recovery).refusal; row = (report_of recovery).row }
