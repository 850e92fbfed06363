-- A fraction a / b of polynomials modulo p in lowest terms: both divided by their greatest common divisor, and scaled so that the
-- denominator has leading coefficient 1.
use Rattle.std.specs.Prelude.{List, ℕ, Option, Some, None}
use Rattle.poly.specs.Operations.{scaled_of}
use Rattle.euclid.specs.Division.{quotient_of, leading_reciprocal}
use Rattle.euclid.specs.Euclid.{gcd_of}

-- the reciprocal of the leading coefficient of b divided by the greatest common divisor of a and b; there is none where b is zero
unfoldable pub unit_of : ℕ → List ℕ → List ℕ → Option ℕ
unit_of p a b = leading_reciprocal p (quotient_of p b (gcd_of p a b))

-- c scaled by that number. Without one the denominator is zero and has no leading coefficient: c stays.
abbrev pub scaled_by : ℕ → Option ℕ → List ℕ → List ℕ
scaled_by p (Some k) c = scaled_of p k c
scaled_by p None c = c

unfoldable pub reduced_numerator : ℕ → List ℕ → List ℕ → List ℕ
reduced_numerator p a b = scaled_by p (unit_of p a b) (quotient_of p a (gcd_of p a b))

unfoldable pub reduced_denominator : ℕ → List ℕ → List ℕ → List ℕ
reduced_denominator p a b = scaled_by p (unit_of p a b) (quotient_of p b (gcd_of p a b))
