-- Each point before r is above all points before it (`rising_more`), so no two of them are the same. A false result says nothing.
use Prim.Native.Nat.{◌-◌, ◌≤◌}
use Rattle.lists.proofs.Distinct.{Rising}
use Rattle.row_search.proofs.rise.Given as goal

abbrev pub invariant-loop-r : goal.invariant-loop-r
invariant-loop-r l = (1 ≤ l.r) × Rising l.points l.r

abbrev pub decreases-loop-r : goal.decreases-loop-r
decreases-loop-r l = l.rows - l.r
