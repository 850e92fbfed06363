-- The greatest common divisor of a denominator and its numerators modulo p.
use Rattle.std.specs.Prelude.{List, ℕ, zero, suc}
use Rattle.euclid.specs.Euclid.{gcd_of}

-- Paper 01, "divides g and every fi": the greatest common divisor of g and f 0, .., f (n - 1), by Euclid's rule, one numerator after the other
unfoldable pub common_divisor_of : ℕ → (ℕ → List ℕ) → List ℕ → ℕ → List ℕ
common_divisor_of p f g zero = g
common_divisor_of p f g (suc n) = gcd_of p (f n) (common_divisor_of p f g n)
