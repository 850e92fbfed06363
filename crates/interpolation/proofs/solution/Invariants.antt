-- After k rows the arrays hold the pairs of docs/METHOD.md, and their discrepancies at the rows from k on.
use Prim.Native.Nat.{◌+◌}
use Rattle.field.specs.Primes.{modulus_of}
use Rattle.pairs.proofs.PairLaws.{Reached}
use Rattle.pairs.specs.Held.{pair_of, pairs_of}
use Rattle.interpolation.proofs.Standing.{Standing}
use Rattle.interpolation.proofs.solution.Given as goal

abbrev pub invariant-loop-k : goal.invariant-loop-k
invariant-loop-k l = record {
  reached : Reached (modulus_of l.q) l.points l.weights l.z l.bound_a l.bound_b l.k (l.k + 1) (pairs_of (pair_of l.first) (pair_of l.second));
  first : Standing (modulus_of l.q) l.points l.weights l.z l.rows l.k l.first;
  second : Standing (modulus_of l.q) l.points l.weights l.z l.rows l.k l.second;
}
