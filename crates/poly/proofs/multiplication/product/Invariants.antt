-- The coefficients below k are stored, and the rest are still 0.
use Prim.Native.Nat.{◌%◌}
use Rattle.field.specs.Primes.{modulus_of}
use Rattle.poly.specs.Operations.{product_at}
use Rattle.lists.proofs.Filling.{Filled}
use Rattle.poly.proofs.multiplication.product.Given as goal

abbrev pub invariant-loop-k : goal.invariant-loop-k
invariant-loop-k l = Filled 32 (λ j. product_at l.a.c l.b.c j % modulus_of l.q) (λ j. 0) l.k l.r.c
