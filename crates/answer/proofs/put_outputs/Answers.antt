use Prim.Native.Nat.{ℕ, ◌+◌, ◌*◌, ◌≤◌, ◌<◌}
use mathlib.Core.List.{List}
use mathlib.Core.Path.{◌≡◌, refl, sym, ap, ◌∙◌}
use native.Mathlib.Omega.{arith}
use lib.ListN.{length}
use Rattle.format.specs.declared.Bounds.{Bounds}
use Rattle.format.specs.Bounds.{numerator_bound_of}
use Rattle.poly.specs.Vectors.{coefficients_at}
use Rattle.answer.specs.Bytes.{output_bytes}
use Rattle.lists.specs.Overwriting.{spliced}
use Rattle.lists.proofs.Splices.{splice_none}
use Rattle.answer.proofs.Lengths.{output_within}
use Rattle.answer.proofs.Runs.{next_output, next-size}
use Rattle.answer.proofs.put_outputs.Goals as goal

-- the bytes of a turn's output stand within those of all outputs
within : (b : Bounds) (f : ℕ → List ℕ) (i : ℕ) {written bound : ℕ} → i < b.outputs → written ≡ length (output_bytes b f i) → bound ≡ numerator_bound_of b i
    → written + 2 * (bound + 1) ≤ length (output_bytes b f b.outputs)
within b f i l size known = omega (arith, output_within b f i b.outputs l)

pub loop-i-init : goal.loop-i-init
unfolding output_bytes
loop-i-init c = (refl, sym (splice_none c.args.at c.args.area.now))

pub put_coefficients-written-requires : goal.put_coefficients-written-requires
put_coefficients-written-requires c =
    let inside = within c.args.b (coefficients_at c.args.f.now) c.loop-i.i c.loop-i-test.true c.loop-i.invariant.0 c.numerator_bound.ensures in
    let low = c.requires.0.numerators-low c.loop-i.i c.loop-i-test.true in
    (omega arith, omega arith)

pub loop-i-preserved : goal.loop-i-preserved
loop-i-preserved c =
    let g = c.args in
    let i = c.loop-i.i in
    let f = coefficients_at g.f.now in
    let r = c.put_coefficients-written in
    let bound = c.numerator_bound in
    let inside = within g.b f i c.loop-i-test.true c.loop-i.invariant.0 bound.ensures in
    let room : g.at + c.loop-i.written ≤ length g.area.now = omega arith in (
      ap (λ k. c.loop-i.written + k) r.ensures.0 ∙ next-size g.b f i c.loop-i.written bound.result c.loop-i.invariant.0 bound.ensures,
      next_output g.b f i c.loop-i.written bound.result c.loop-i.invariant.0 bound.ensures
          g.at g.area.now c.loop-i.area r.new.area room c.loop-i.invariant.1 r.ensures.1,
    )

pub returns : goal.returns
returns c =
    let g = c.args in
    let f = coefficients_at g.f.now in
    let all : c.loop-i.i ≡ g.b.outputs = omega arith in (
      c.loop-i.invariant.0 ∙ ap (λ i. length (output_bytes g.b f i)) all,
      c.loop-i.invariant.1 ∙ ap (λ i. spliced g.at (output_bytes g.b f i) g.area.now) all,
    )
