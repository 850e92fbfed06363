-- What the reader returns.
use Rattle.std.specs.Prelude.{ℕ, List, Result, Ok, Err}
use Rattle.format.specs.declared.Refusal.{Refusal}
use Rattle.header.specs.Header.{bounds_of}
use Rattle.marked_rows.specs.declared.Table.{Table}
use Rattle.marked_rows.specs.Marks.{speaking_count}
use Rattle.marked_rows.specs.Table.{job_points, job_weights, job_values}
use Rattle.job.specs.declared.parsed_job.ParsedJob.{ParsedJob}
use Rattle.job.specs.Refusals.{outcome_of}

-- the rows of the job s by their conditions, and how many of them speak
abbrev pub job_table : List ℕ → Table
job_table s = record { points = job_points s; weights = job_weights s; values = job_values s; speaking = speaking_count s }

-- the header's fields and the rows, as the reader gives them where the job is accepted
abbrev pub accepted_job : List ℕ → ParsedJob
accepted_job s = record { bounds = bounds_of s; table = job_table s }

-- a refusal as it stands, and the job where the tests accept it
abbrev pub parsed_with : Result (Unit {0}) Refusal → List ℕ → Result ParsedJob Refusal
parsed_with (Ok _) s = Ok (accepted_job s)
parsed_with (Err e) s = Err e

-- the bytes s as a job where the answer area has so many bytes
abbrev pub parsed_job_of : List ℕ → ℕ → Result ParsedJob Refusal
parsed_job_of s area = parsed_with (outcome_of s area) s
