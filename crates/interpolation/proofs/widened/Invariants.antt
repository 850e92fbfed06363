-- The entries below k are copied; a list of 32 entries is told by them (`is_tabulate`).
use lib.ListN.{get_or}
use Rattle.lists.proofs.Filling.{Filled}
use Rattle.interpolation.proofs.widened.Given as goal

abbrev pub invariant-loop-k : goal.invariant-loop-k
invariant-loop-k l = Filled 32 (λ k. get_or l.a k 0) (λ j. 0) l.k l.r.c
