use Prim.Native.Nat.{◌<◌}
use native.Mathlib.Omega.{arith}
use Rattle.std.proofs.lemmas.List.{get_or-take, length-take}
use Rattle.format.specs.Bounds.{numerator_count}
use Rattle.format.proofs.Sizes.{count_next}
use Rattle.format.proofs.Bounds.answer_length.Goals as goal

pub loop-bound-init : goal.loop-bound-init
unfolding numerator_count
loop-bound-init c = (omega arith, omega (arith, c.requires.denominator-low))

pub loop-bound-preserved : goal.loop-bound-preserved
loop-bound-preserved c =
    let b = c.args.self in
    let i = c.loop-bound.bound-index in
    let below : i < b.outputs = omega (arith, length-take b.outputs b.numerators) in
    let item = get_or-take b.outputs b.numerators i 0 below in
    (omega (arith, item, c.loop-bound.invariant.0, count_next b i), omega (arith, item, c.requires.numerators-low i below, c.loop-bound.invariant.1))
