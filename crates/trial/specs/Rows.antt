-- Paper 02, item 1: the rows of a trial job. L rows stand at the points 0 to L - 1, so row r at the point r. g is the denominator modulo p,
-- f i the numerator of output i, counted from 0; added r is what is added to the first value of row r, 0 where it is not spoiled.
use Rattle.std.specs.Prelude.{ℕ, zero, suc, ◌+◌, ◌*◌, ◌/◌, ◌%◌, Bool, cond, List, eqb}
use Rattle.lists.specs.Tabulated.{tabulate}
use Rattle.poly.specs.Operations.{value_of}
use Rattle.lists.specs.Search.{first_below}
use Rattle.problem.specs.Rows.{right_output}
use Rattle.spoiling.specs.Spoiling.{number_in}

-- row r is a pole: g is 0 at its point
abbrev pub pole_at : (p : ℕ) (g : List ℕ) (r : ℕ) → Bool
pole_at p g r = eqb (value_of p r g) 0

-- the number y below p with f(x) = g(x) y modulo p
unfoldable pub right_value : (p x : ℕ) (g f : List ℕ) → ℕ
right_value p x g f = number_in (first_below p (right_output p x g f))

-- the value of output i in row r while no row is spoiled: "A pole gets zeros, any other row the values that make it right"
unfoldable pub value_before : (p : ℕ) (f : ℕ → List ℕ) (g : List ℕ) (r i : ℕ) → ℕ
value_before p f g r i = cond (pole_at p g r) 0 (right_value p r g (f i))

-- the number in row r and a column: column 0 is the point, column 1 the first value with what spoiling adds to it "modulo p", and the
-- columns behind it are the other values
unfoldable pub trial_number : (p : ℕ) (f : ℕ → List ℕ) (g : List ℕ) (added : ℕ → ℕ) (r : ℕ) → ℕ → ℕ
trial_number p f g added r zero = r
trial_number p f g added r (suc zero) = (value_before p f g r 0 + added r) % p
trial_number p f g added r (suc (suc i)) = value_before p f g r (suc i)

-- the numbers of L rows with n values each, row after row
unfoldable pub trial_numbers : (p : ℕ) (f : ℕ → List ℕ) (g : List ℕ) (added : ℕ → ℕ) (L n : ℕ) → List ℕ
trial_numbers p f g added L n = tabulate (L * (1 + n)) (λ k. trial_number p f g added (k / (1 + n)) (k % (1 + n)))
