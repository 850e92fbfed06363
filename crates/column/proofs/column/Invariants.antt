-- The products of the rows before l are stored, and the rest are still 0; they are a column for whatever points have the forms xs.
use lib.ListN.{get_or}
use Prim.Native.Nat.{◌+◌, ◌*◌, ◌%◌}
use Rattle.field.specs.Primes.{modulus_of}
use Rattle.lists.proofs.Filling.{Filled}
use Rattle.column.proofs.column.Given as goal

abbrev pub invariant-loop-l : goal.invariant-loop-l
invariant-loop-l l =
    Filled 32 (λ k. get_or l.gs k 0 * get_or l.table.values (k * 4 + l.i) 0 % modulus_of l.b.prime) (λ k. 0) l.l l.z
