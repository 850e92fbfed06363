-- The divisor is that of g and the numerators taken so far.
use mathlib.Core.Path.{◌≡◌}
use Rattle.field.specs.Primes.{modulus_of}
use Rattle.poly.specs.Vectors.{coefficients_at}
use Rattle.reduced.specs.CommonDivisor.{common_divisor_of}
use Rattle.reduced.proofs.common_divisor.Given as goal

abbrev pub invariant-loop-i : goal.invariant-loop-i
invariant-loop-i l = l.c.c ≡ common_divisor_of (modulus_of l.q) (coefficients_at l.v.f) l.v.g.c l.i
