-- After i outputs as many bytes are written as their coefficients have, behind each other from the place on.
use mathlib.Core.Path.{◌≡◌}
use lib.ListN.{length}
use Rattle.poly.specs.Vectors.{coefficients_at}
use Rattle.answer.specs.Bytes.{output_bytes}
use Rattle.lists.specs.Overwriting.{spliced}
use Rattle.answer.proofs.put_outputs.Given as goal

abbrev pub invariant-loop-i : goal.invariant-loop-i
invariant-loop-i l =
    (l.written ≡ length (output_bytes l.b (coefficients_at l.f) l.i)) × (l.area ≡ spliced l.at (output_bytes l.b (coefficients_at l.f) l.i) l.initial.area)
