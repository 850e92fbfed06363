-- What a call answers, in the papers' numbers.
use Rattle.std.specs.Prelude.{ℕ, Result, Ok, Err}
use Rattle.format.specs.declared.Reason.{Reason}
use Rattle.format.specs.declared.Reason.TheVariants.{TooShort, SpareBit, ByteCount, TooFewRows, OutOfRange, RepeatedPoint, AreaTooShort, NoAnswer, TooManyRows, NotReduced, AddedHeader, TooFewSpeaking}
use Rattle.format.specs.declared.Refusal.{Refusal}
use Rattle.format.specs.declared.Recovered.{Recovered}
use Rattle.format.specs.declared.Report.{Report}
use Rattle.format.specs.declared.WritingReport.{WritingReport}

-- the number of a refusal: 1 to 8 in paper 01's table, 9 and 10 in paper 02, item 1, 11 in item 5, 12 in item 6
abbrev pub refusal_number : Reason → ℕ
refusal_number TooShort = 1
refusal_number SpareBit = 2
refusal_number ByteCount = 3
refusal_number TooFewRows = 4
refusal_number OutOfRange = 5
refusal_number RepeatedPoint = 6
refusal_number AreaTooShort = 7
refusal_number NoAnswer = 8
refusal_number TooManyRows = 9
refusal_number NotReduced = 10
refusal_number AddedHeader = 11
refusal_number TooFewSpeaking = 12

-- "A refusal carries its number and the row it speaks of": it writes nothing, and no rows are counted
abbrev pub refused_report : (number row : ℕ) → Report
refused_report number row = record { refusal = number; row = row; written = 0; wrong = 0 }

-- "Every call that writes an area returns how many bytes .. it wrote; one that recovers adds the count of wrong rows"
abbrev pub recovered_report : (bytes wrong : ℕ) → Report
recovered_report bytes wrong = record { refusal = 0; row = 0; written = bytes; wrong = wrong }

-- a call that is refused for a reason, and the row that the refusal speaks of, 0 where it speaks of none
abbrev pub refused : {A : Type 0} → Reason → ℕ → Result A Refusal
refused reason row = Err (record { reason = reason; row = row })

-- what a refusal says in these numbers
abbrev pub refusal_report : Refusal → Report
refusal_report e = refused_report (refusal_number e.reason) e.row

-- what a recovery says in them
abbrev pub report_of : Result Recovered Refusal → Report
report_of (Ok r) = recovered_report r.bytes r.wrong
report_of (Err e) = refusal_report e

-- what a check says in them: one that passes tells as much as a recovery of no bytes
abbrev pub check_report_of : Result (Unit {0}) Refusal → Report
check_report_of (Ok _) = recovered_report 0 0
check_report_of (Err e) = refusal_report e

-- the same of a call that writes and recovers nothing
abbrev pub refused_writing : (number row : ℕ) → WritingReport
refused_writing number row = record { refusal = number; row = row; written = 0 }

abbrev pub written_report : (bytes : ℕ) → WritingReport
written_report bytes = record { refusal = 0; row = 0; written = bytes }

abbrev pub writing_report_of : Result ℕ Refusal → WritingReport
writing_report_of (Ok bytes) = written_report bytes
writing_report_of (Err e) = refused_writing (refusal_number e.reason) e.row
