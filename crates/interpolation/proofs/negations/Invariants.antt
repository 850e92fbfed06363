-- The negations below k are stored, and the rest are still 0; both are residues.
use lib.ListN.{get_or}
use Prim.Native.Nat.{◌+◌, ◌-◌, ◌%◌}
use Rattle.lists.proofs.Filling.{Filled}
use Rattle.interpolation.proofs.negations.Given as goal

abbrev pub invariant-loop-k : goal.invariant-loop-k
invariant-loop-k l = Filled 32 (λ j. (0 + (l.p - get_or l.z j 0)) % l.p) (λ j. 0) l.k l.r
