-- The rows of a job as the code holds them: each by its conditions c fi(x) = g(x) yi, one for each output. (c, yi) is (1, the value) for a row of
-- numbers, (0, 1) for a pole and (0, 0) for a silent row.
use Rattle.std.specs.Prelude.{ℕ, ◌/◌, ◌%◌, cond, List, ltb, replicate, Option, Some, None}
use Rattle.lists.specs.Tabulated.{tabulate}
use Rattle.header.specs.Header.{bounds_of}
use Rattle.rows.specs.declared.Row.{Row}
use Rattle.rows.specs.Rows.{job_point, value_or_zero}
use Rattle.marked_rows.specs.declared.Mark.{Mark}
use Rattle.marked_rows.specs.declared.Mark.TheVariants.{Pole, Silent}
use Rattle.marked_rows.specs.declared.RowConditions.{RowConditions}
use Rattle.marked_rows.specs.Marks.{mark_at}

-- c
abbrev pub weight_of : Option Mark → ℕ
weight_of None = 1
weight_of (Some Pole) = 0
weight_of (Some Silent) = 0

-- yi, where the row has the number y
abbrev pub right_side_of : Option Mark → (y : ℕ) → ℕ
right_side_of None y = y
right_side_of (Some Pole) y = 1
right_side_of (Some Silent) y = 0

-- one row
abbrev pub conditions_by : Option Mark → Row → RowConditions
conditions_by None row = record { point = row.point; weight = 1; values = row.values; speaking = 1 }
conditions_by (Some Pole) row = record { point = row.point; weight = 0; values = replicate 4 1; speaking = 1 }
conditions_by (Some Silent) row = record { point = row.point; weight = 0; values = replicate 4 0; speaking = 0 }

-- the points of all rows; here and below places that are no rows hold 0
unfoldable pub job_points : List ℕ → List ℕ
job_points s = tabulate 32 (λ r. cond (ltb r (bounds_of s).rows) (job_point s r) 0)

-- their weights
unfoldable pub job_weights : List ℕ → List ℕ
job_weights s = tabulate 32 (λ r. cond (ltb r (bounds_of s).rows) (weight_of (mark_at s r)) 0)

-- their values, that of output i in row r at 4 r + i
unfoldable pub job_values : List ℕ → List ℕ
job_values s = tabulate 128 (λ k. cond (ltb (k / 4) (bounds_of s).rows) (right_side_of (mark_at s (k / 4)) (value_or_zero s (k / 4) (k % 4))) 0)
