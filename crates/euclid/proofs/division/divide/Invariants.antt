-- `Progress`: the steps that are left, below `top`, which the next turn counts down by 1, lead to the quotient and the remainder. The leading coefficient of b is not zero, so its reciprocal exists.
use mathlib.Core.Path.{◌≡◌}
use Prim.Native.Nat.{◌-◌}
use lib.ListN.{length}
use Rattle.field.specs.Primes.{modulus_of}
use Rattle.euclid.proofs.Loop.{Progress}
use Rattle.euclid.proofs.division.divide.Given as goal

abbrev pub invariant-loop-top : goal.invariant-loop-top
invariant-loop-top l = Progress (modulus_of l.q) l.initial.remainder l.b.c l.la l.lb l.inverse (l.top - 1) l.quotient.c l.remainder × (length l.remainder ≡ 32)
