-- The entries from n on, below n + j, are cancelled. The others stay, and for them `cancelled_at` says so too.
use lib.ListN.{get_or}
use Prim.Native.Nat.{◌+◌}
use Rattle.lists.proofs.Filling.{Filled}
use Rattle.field.specs.Primes.{modulus_of}
use Rattle.euclid.specs.Division.{cancelled_at}
use Rattle.euclid.proofs.division.cancel.Given as goal

abbrev pub invariant-loop-j : goal.invariant-loop-j
invariant-loop-j l = Filled 32 (cancelled_at (modulus_of l.q) l.k l.n l.b.c l.initial.a) (λ k. get_or l.initial.a k 0) (l.n + l.j) l.a
