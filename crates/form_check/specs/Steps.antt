-- What a pass over the rows of the job s finds.
use Rattle.std.specs.Prelude.{ℕ, ◌<◌, ◌||◌, cond, List, ◌≡◌, leb, get_or, Option, Some, None, Result, IfOk, OnOk}
use Rattle.std.specs.Result.{result_err}
use Rattle.header.specs.Header.{bounds_of}
use Rattle.lists.specs.Search.{first_below, any_below}
use Rattle.rows.specs.Rows.{job_point}
use Rattle.marked_rows.specs.declared.RowConditions.{RowConditions}
use Rattle.marked_rows.specs.Marks.{speaking_count}
use Rattle.job.specs.Refusals.{out_of_range}

-- test 5 modulo p on a row that is settled by its mark, and where it passes how many rows it adds to those that speak
abbrev pub row_form_of : (p : ℕ) → RowConditions → Option ℕ
row_form_of p row = cond (leb p row.point || any_below 4 (λ i. leb p (get_or row.values i 0))) None (Some row.speaking)

-- all that tests 5, 12 and 6 look at, the points among them: the first row that test 5 refuses, and where there is none how many rows speak
pub record Scanned (s : List ℕ) (x : Result ℕ ℕ) (points : List ℕ) : Type 0 where
  pub found : result_err x ≡ first_below (bounds_of s).rows (out_of_range s)
  pub points-read : OnOk x ((r : ℕ) → r < (bounds_of s).rows → get_or points r 0 ≡ job_point s r)
  pub speaking : IfOk x (λ n. n ≡ speaking_count s)
