-- The first k numbers of the rows stand from `start` on, and 2 k bytes are written: number j is that of row j / width and column j % width.
use Prim.Native.Nat.{◌-◌, ◌*◌, ◌/◌, ◌%◌, ◌≤◌}
use mathlib.Core.Path.{◌≡◌}
use lib.ListN.{length, get_or}
use Rattle.format.specs.Bounds.{prime_of}
use Rattle.lists.specs.Tabulated.{tabulate}
use Rattle.poly.specs.Vectors.{coefficients_at}
use Rattle.answer.specs.Bytes.{coefficient_bytes}
use Rattle.lists.specs.Overwriting.{spliced}
use Rattle.trial.specs.Rows.{trial_number}
use Rattle.trial.proofs.job_rows.put_rows.Given as goal

abbrev pub invariant-loop-k : goal.invariant-loop-k
invariant-loop-k l =
    (l.k ≤ l.count) × (length l.area ≡ length l.initial.area) × (l.written ≡ 2 * l.k)
    × (l.area ≡ spliced l.start (coefficient_bytes (tabulate l.count (λ j. trial_number (prime_of l.b) (coefficients_at l.v.f) l.v.g.c (λ i. get_or l.by i 0) (j / l.width) (j % l.width))) l.k) l.initial.area)

abbrev pub decreases-loop-k : goal.decreases-loop-k
decreases-loop-k l = l.count - l.k
