-- The coefficients below k are stored, and the rest are still 0.
use Prim.Native.Nat.{◌≤◌, ◌-◌}
use Rattle.field.specs.Primes.{modulus_of}
use Rattle.poly.specs.Operations.{scaled_at}
use Rattle.lists.proofs.Filling.{Filled}
use Rattle.poly.proofs.scaling.scaled.Given as goal

abbrev pub invariant-loop-k : goal.invariant-loop-k
invariant-loop-k l = (l.k ≤ l.n) × Filled 32 (scaled_at (modulus_of l.q) l.c l.a.c) (λ j. 0) l.k l.r.c

abbrev pub decreases-loop-k : goal.decreases-loop-k
decreases-loop-k l = l.n - l.k
