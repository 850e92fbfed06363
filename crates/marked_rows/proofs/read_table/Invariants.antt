-- The rows below r stand in the arrays as they are settled, and the rest are still 0; those that speak are counted.
use Prim.Native.Nat.{◌-◌, ◌*◌, ◌/◌, ◌%◌, ◌≤◌}
use mathlib.Core.Path.{◌≡◌}
use Rattle.lists.proofs.Filling.{Filled}
use Rattle.lists.specs.Counting.{count_below}
use Rattle.rows.specs.Rows.{job_point, value_or_zero}
use Rattle.marked_rows.specs.Marks.{mark_at, speaks}
use Rattle.marked_rows.specs.Table.{weight_of, right_side_of}
use Rattle.marked_rows.proofs.read_table.Given as goal

abbrev pub invariant-loop-r : goal.invariant-loop-r
invariant-loop-r l =
    (l.r ≤ l.rows)
    × Filled 32 (job_point l.job) (λ k. 0) l.r l.points
    × Filled 32 (λ k. weight_of (mark_at l.job k)) (λ k. 0) l.r l.weights
    × Filled 128 (λ k. right_side_of (mark_at l.job (k / 4)) (value_or_zero l.job (k / 4) (k % 4))) (λ k. 0) (l.r * 4) l.values
    × (l.speaking ≡ count_below l.r (speaks l.job))

abbrev pub decreases-loop-r : goal.decreases-loop-r
decreases-loop-r l = l.rows - l.r
