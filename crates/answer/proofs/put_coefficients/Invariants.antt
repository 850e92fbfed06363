-- After k coefficients 2 k bytes are written, behind each other from the place on.
use Prim.Native.Nat.{◌*◌}
use mathlib.Core.Path.{◌≡◌}
use Rattle.answer.specs.Bytes.{coefficient_bytes}
use Rattle.lists.specs.Overwriting.{spliced}
use Rattle.answer.proofs.put_coefficients.Given as goal

abbrev pub invariant-loop-coefficient : goal.invariant-loop-coefficient
invariant-loop-coefficient l =
    (l.written ≡ 2 * l.coefficient-index) × (l.area ≡ spliced l.at (coefficient_bytes l.a.c l.coefficient-index) l.initial.area)
