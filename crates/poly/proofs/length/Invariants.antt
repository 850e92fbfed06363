-- Nothing but zeros from i on.
use mathlib.Core.Path.{◌≡◌}
use Rattle.poly.specs.Operations.{length_below, length_of}
use Rattle.poly.proofs.length.Given as goal

abbrev pub invariant-loop-i : goal.invariant-loop-i
invariant-loop-i l = length_of l.a.c ≡ length_below l.a.c l.i
