-- The values below i are read, and the rest are still 0.
use Prim.Native.Nat.{◌+◌, ◌*◌}
use Rattle.format.specs.Numbers.{number_from}
use Rattle.lists.proofs.Filling.{Filled}
use Rattle.rows.proofs.read_short_row.Given as goal

abbrev pub invariant-loop-i : goal.invariant-loop-i
invariant-loop-i l = Filled 4 (λ k. number_from l.bytes (2 * (1 + k))) (λ k. 0) l.i l.values
