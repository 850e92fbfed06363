-- The values of polynomials at the points of a table of rows. They are computed for whole groups of eight rows, and are 0 behind them.
use Rattle.std.specs.Prelude.{get_or, ◌≡◌, cond, List, ℕ, ltb}
use Rattle.montgomery.specs.Factors.{montgomery_form}
use Rattle.lanes.specs.Lanes.{groups_of}
use Rattle.lists.specs.Tabulated.{tabulate}
use Rattle.poly.specs.Operations.{value_of}

-- f at each row's point, and 0 behind the groups
unfoldable pub each_point : (f : ℕ → ℕ) (points : List ℕ) (rows : ℕ) → List ℕ
each_point f points rows = tabulate 32 (λ l. cond (ltb l (groups_of rows)) (f (get_or points l 0)) 0)

-- Montgomery's forms of the points
abbrev pub forms_of : (p : ℕ) (points : List ℕ) (rows : ℕ) → List ℕ
forms_of p points rows = each_point (montgomery_form p) points rows

-- the values of a
abbrev pub values_of : (p : ℕ) (points : List ℕ) (rows : ℕ) (a : List ℕ) → List ℕ
values_of p points rows a = each_point (λ x. value_of p x a) points rows

-- xs holds the forms of some points
pub record Formed (p : ℕ) (xs : List ℕ) (rows : ℕ) : Type 0 where
  pub points : List ℕ
  pub is : xs ≡ forms_of p points rows

-- v holds the values of a at whatever points have the forms xs
abbrev pub Evaluated : (p : ℕ) (xs : List ℕ) (rows : ℕ) (a v : List ℕ) → Type 0
Evaluated p xs rows a v = (points : List ℕ) → xs ≡ forms_of p points rows → v ≡ values_of p points rows a
