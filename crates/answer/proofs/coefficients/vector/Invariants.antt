-- The numerators before i are read, and `from` is where the next one stands.
use Prim.Native.Nat.{◌+◌}
use mathlib.Core.Path.{◌≡◌}
use Rattle.answer.specs.Bytes.{numerator_start}
use Rattle.answer.proofs.Numerators.{Filled}
use Rattle.answer.proofs.coefficients.vector.Given as goal

abbrev pub invariant-loop-i : goal.invariant-loop-i
invariant-loop-i l =
    (l.from + 4 ≡ numerator_start l.b l.i) × Filled l.b l.bytes l.i l.f
