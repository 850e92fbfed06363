-- What single steps of the reader give: one row, and its place among all rows.
use Rattle.std.specs.Prelude.{ℕ, ◌+◌, ◌*◌, cond, List, ltb}
use Rattle.format.specs.Numbers.{number_from}
use Rattle.rows.specs.declared.Row.{Row}
use Rattle.rows.specs.Rows.{job_point, value_or_zero}
use Rattle.lists.specs.Tabulated.{tabulate}

-- one row
unfoldable pub row_at : List ℕ → ℕ → Row
row_at s r = record { point = job_point s r; values = tabulate 4 (value_or_zero s r) }

-- "Each row is examined through its own stretch": a row from its own bytes and the number of outputs
unfoldable pub row_of : List ℕ → ℕ → Row
row_of bytes n = record { point = number_from bytes 0; values = tabulate 4 (λ i. cond (ltb i n) (number_from bytes (2 * (1 + i))) 0) }
