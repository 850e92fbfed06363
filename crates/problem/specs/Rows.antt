-- Paper 01, "The object", and paper 02, item 6: which rows are right, wrong or silent for a polynomial g and polynomials f1 to fn modulo p.
-- Outputs are counted from 0 here: output i has the polynomial f i and, in a row, the value y i.
use Rattle.std.specs.Prelude.{Bool, true, false, cond, List, ℕ, zero, suc, ◌*◌, ◌%◌, eqb, Option, Some, None}
use Rattle.poly.specs.Operations.{value_of}
use Rattle.marked_rows.specs.declared.Mark.{Mark}
use Rattle.marked_rows.specs.declared.Mark.TheVariants.{Pole, Silent}

-- "fi(ξ) = g(ξ) × yi modulo p", for one output with the polynomial f and the value y, at the point x
abbrev pub right_output : (p x : ℕ) (g f : List ℕ) (y : ℕ) → Bool
right_output p x g f y = eqb (value_of p x f) (value_of p x g * y % p)

-- "A row is a point ξ and values y1 to yn. It is right for an answer if fi(ξ) = g(ξ) × yi modulo p for every i; otherwise it is
-- wrong": one of outputs 0 to n - 1 is not right
unfoldable pub wrong_row : (p n x : ℕ) (y : ℕ → ℕ) (f : ℕ → List ℕ) (g : List ℕ) → Bool
wrong_row p zero x y f g = false
wrong_row p (suc i) x y f g = cond (right_output p x g (f i) (y i)) (wrong_row p i x y f g) true

-- what a row is for them
pub data Verdict : Type 0 where
  RightRow : Verdict
  WrongRow : Verdict
  SilentRow : Verdict

-- by its mark: a row of numbers as above; "a row whose values are all 65535 reports a pole: it is right exactly if g is 0 at its point"; "A row whose values
-- are all 65534 is silent, neither right nor wrong"
abbrev pub verdict_of : Option Mark → (p n x : ℕ) (y : ℕ → ℕ) (f : ℕ → List ℕ) (g : List ℕ) → Verdict
verdict_of None p n x y f g = cond (wrong_row p n x y f g) WrongRow RightRow
verdict_of (Some Pole) p n x y f g = cond (eqb (value_of p x g) 0) RightRow WrongRow
verdict_of (Some Silent) p n x y f g = SilentRow

abbrev pub is_wrong : Verdict → Bool
is_wrong RightRow = false
is_wrong WrongRow = true
is_wrong SilentRow = false
