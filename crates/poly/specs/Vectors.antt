-- The polynomials 0 and 1, and arrays of polynomials.
use Rattle.std.specs.Prelude.{List, [], ◌∷◌, ℕ, get_or, replicate}
use Rattle.poly.specs.declared.Poly.{Poly}

abbrev pub zero_poly : Poly
zero_poly = record { c = replicate 32 0 }

abbrev pub one_poly : Poly
one_poly = record { c = 1 ∷ replicate 31 0 }

-- the coefficients of polynomial i of an array; none past its end
abbrev pub coefficients_at : List Poly → ℕ → List ℕ
coefficients_at f i = (get_or f i (record { c = [] })).c
