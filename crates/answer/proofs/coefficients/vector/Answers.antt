use Prim.Native.Nat.{ℕ, ◌+◌, ◌-◌, ◌*◌, ◌≤◌, ◌<◌}
use mathlib.Core.Path.{◌≡◌}
use native.Mathlib.Numerals.{add-one}
use native.Mathlib.Omega.{arith}
use Rattle.format.specs.declared.Bounds.{Bounds}
use Rattle.format.specs.Bounds.{numerator_bound_of}
use Rattle.answer.specs.Bytes.{numerator_start}
use Rattle.answer.specs.Coefficients.{coefficient_length_of}
use Rattle.answer.proofs.Places.{start_first, start-next, ends_within}
use Rattle.answer.proofs.Numerators.{filled_none, filled_more}
use Rattle.answer.proofs.coefficients.vector.Goals as goal

-- where a numerator's coefficients end
ends : (b : Bounds) (i from : ℕ) {bound : ℕ} → i < b.outputs → from + 4 ≡ numerator_start b i → bound ≡ numerator_bound_of b i
    → from + 2 * (bound + 1) ≤ coefficient_length_of b
ends b i from l place known = omega (arith, ends_within b i l)

pub loop-i-init : goal.loop-i-init
loop-i-init c =
    let b = c.args.b in
    (omega (arith, start_first b), filled_none b _ c.zero-f.result c.zero-f.ensures)

pub polynomial-requires : goal.polynomial-requires
polynomial-requires c =
    let end = ends c.args.b c.loop-i.i c.loop-i.from c.loop-i-test.true c.loop-i.invariant.0 c.numerator_bound-count.ensures in
    let low = c.requires.0.numerators-low c.loop-i.i c.loop-i-test.true in
    (omega arith, omega arith)

pub overflow_add-from : goal.overflow_add-from
overflow_add-from c =
    let end = ends c.args.b c.loop-i.i c.loop-i.from c.loop-i-test.true c.loop-i.invariant.0 c.numerator_bound-count.ensures in
    omega arith

pub loop-i-preserved : goal.loop-i-preserved
loop-i-preserved c =
    let b = c.args.b in
    let few = c.requires.0.few in
    let bound = c.numerator_bound-count in
    let place : c.loop-i.from ≡ numerator_start b c.loop-i.i - 4 = omega (arith, c.loop-i.invariant.0) in
    let read = rw (bound.ensures, place) at c.polynomial.ensures in (
      (let e = add-one c.loop-i.i in rw e (omega (arith, start-next b c.loop-i.i, bound.ensures, c.loop-i.invariant.0))),
      filled_more c.loop-i.invariant.1 (omega arith) c.polynomial.result read,
    )

pub returns : goal.returns
returns c =
    let g = c.args in
    let all : c.loop-i.i ≡ g.b.outputs = omega arith in
    record {
      denominator = c.polynomial-g.ensures;
      numerators = λ i l. c.loop-i.invariant.1.done i (omega arith);
      others = λ i l. c.loop-i.invariant.1.rest i (omega arith);
    }
