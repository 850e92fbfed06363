-- The accumulator is the sum of the terms below i. Each is small, and there are at most 32.
use mathlib.Core.Path.{◌≡◌}
use Prim.Native.Nat.{◌≤◌, ◌+◌, ◌*◌}
use Rattle.poly.specs.Operations.{sum_below}
use Rattle.poly.proofs.Products.{terms}
use Rattle.poly.proofs.multiplication.product_coefficient.Given as goal

abbrev pub invariant-loop-i : goal.invariant-loop-i
invariant-loop-i l = (l.i ≤ l.k + 1) × (l.acc ≡ sum_below l.i (terms l.a.c l.b.c l.k)) × (l.acc ≤ l.i * 4293001441)
