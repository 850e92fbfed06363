-- `largest` is that of the bounds gone over, and 0 at first, as `largest_bound` has it.
use mathlib.Core.Path.{◌≡◌}
use Rattle.format.specs.Bounds.{largest_bound}
use Rattle.format.proofs.Bounds.largest_bound.Given as goal

abbrev pub invariant-loop-bound : goal.invariant-loop-bound
invariant-loop-bound l = l.largest ≡ largest_bound l.fn.self l.bound-index
