-- The count is that of g's coefficients and those of the numerators gone over, at most 32 for each polynomial.
use Prim.Native.Nat.{◌+◌, ◌*◌, ◌≤◌}
use mathlib.Core.Path.{◌≡◌}
use Rattle.format.specs.Bounds.{numerator_count}
use Rattle.format.proofs.Bounds.answer_length.Given as goal

-- no output has more than 32 coefficients
abbrev pub invariant-loop-bound : goal.invariant-loop-bound
invariant-loop-bound l = (l.count ≡ (l.fn.self.dg + 1) + numerator_count l.fn.self l.bound-index) × (l.count ≤ 32 + 32 * l.bound-index)
