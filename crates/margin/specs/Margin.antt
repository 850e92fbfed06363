-- Paper 02, item 7: the margin, from a job's bytes s and how many of its rows are wrong.
use Rattle.std.specs.Prelude.{ℕ, ◌+◌, ◌-◌, ◌*◌, cond, List, ltb, Result, Ok, Err}
use Rattle.format.specs.declared.Refusal.{Refusal}
use Rattle.header.specs.Header.{df_of, bounds_of}
use Rattle.marked_rows.specs.Marks.{speaking_count}
use Rattle.job.specs.Form.{form_outcome_of}

-- by how much a number is above another; 0 where it is not above it, so that no subtraction falls below 0
abbrev pub excess_of : (number other : ℕ) → ℕ
excess_of number other = cond (ltb other number) (number - other) 0

-- "S − df − dg − 2W", where S rows speak and W are wrong; by what the tests say
abbrev pub margin_by : Result (Unit {0}) Refusal → List ℕ → ℕ → ℕ
margin_by (Ok _) s wrong = excess_of (speaking_count s) (df_of s + (bounds_of s).dg + 2 * wrong)
margin_by (Err e) s wrong = 0

-- the same, and 0 where a test before 7 refuses the job
unfoldable pub margin_of : List ℕ → (wrong : ℕ) → ℕ
margin_of s wrong = margin_by (form_outcome_of s) s wrong
