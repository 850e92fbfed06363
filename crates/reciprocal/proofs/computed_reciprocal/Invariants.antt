-- docs/METHOD.md, section 6: acc * a leaves b modulo p, and b falls to 1.
use Prim.Native.Nat.{◌*◌, ◌%◌, ◌<◌}
use mathlib.Core.Path.{◌≡◌}
use Rattle.field.specs.Primes.{modulus_of}
use Rattle.reciprocal.proofs.computed_reciprocal.Given as goal

abbrev pub invariant-loop-b : goal.invariant-loop-b
invariant-loop-b l = (l.p ≡ modulus_of l.q) × (0 < l.b) × (l.b < l.p) × (l.acc < l.p) × (l.acc * l.a % l.p ≡ l.b)

abbrev pub decreases-loop-b : goal.decreases-loop-b
decreases-loop-b l = l.b
