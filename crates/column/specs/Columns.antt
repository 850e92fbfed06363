-- The right-hand sides of one output's conditions, row by row.
use Rattle.std.specs.Prelude.{get_or, ◌≡◌, cond, List, ℕ, ◌+◌, ◌*◌, ◌%◌, ltb}
use Rattle.format.specs.Bounds.{prime_of}
use Rattle.format.specs.declared.Bounds.{Bounds}
use Rattle.lists.specs.Tabulated.{tabulate}
use Rattle.poly.specs.Operations.{value_of}
use Rattle.evaluation.specs.Values.{forms_of}

-- g(x) y at row l, y the value of output i
unfoldable pub column_at : ℕ → ℕ → List ℕ → List ℕ → ℕ → List ℕ → ℕ → ℕ
column_at p rows points values i g l = cond (ltb l rows) (value_of p (get_or points l 0) g * get_or values (l * 4 + i) 0 % p) 0

unfoldable pub column_of : Bounds → List ℕ → List ℕ → ℕ → List ℕ → List ℕ
column_of b points values i g = tabulate 32 (column_at (prime_of b) b.rows points values i g)

-- z is the column for whatever points have the forms xs
abbrev pub ColumnFor : Bounds → (xs values : List ℕ) → ℕ → (g z : List ℕ) → Type 0
ColumnFor b xs values i g z = (points : List ℕ) → xs ≡ forms_of (prime_of b) points b.rows → z ≡ column_of b points values i g
