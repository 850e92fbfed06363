-- The coefficients below k are read, and the rest are still 0.
use Prim.Native.Nat.{◌+◌, ◌-◌, ◌*◌, ◌≤◌}
use Rattle.format.specs.Numbers.{number_from}
use Rattle.lists.proofs.Filling.{Filled}
use Rattle.answer.proofs.coefficients.polynomial.Given as goal

abbrev pub invariant-loop-k : goal.invariant-loop-k
invariant-loop-k l =
    (l.k ≤ l.count) × Filled 32 (λ j. number_from l.bytes (l.from + 2 * j)) (λ j. 0) l.k l.a.c

abbrev pub decreases-loop-k : goal.decreases-loop-k
decreases-loop-k l = l.count - l.k
