-- The greatest common divisor of polynomials modulo p.
use Rattle.std.specs.Prelude.{cond, List, ℕ, zero, suc, eqb}
use Rattle.poly.specs.Operations.{length_of}
use Rattle.euclid.specs.Division.{remainder_of}

-- Euclid's rule with at most n divisions: where b is zero, a; else the divisor of b and the remainder of a by b.
unfoldable pub gcd_from : ℕ → ℕ → List ℕ → List ℕ → List ℕ
gcd_from p zero a b = a
gcd_from p (suc n) a b = cond (eqb (length_of b) 0) a (gcd_from p n b (remainder_of p a b))

-- Paper 01, "found by Euclid's rule on falling degrees". The length of b falls with each division, and is 32 at most.
unfoldable pub gcd_of : ℕ → List ℕ → List ℕ → List ℕ
gcd_of p a b = gcd_from p 32 a b
