-- The word, g and the outputs, each behind what was written before it.
use Prim.Native.Nat.{◌+◌, ◌*◌}
use mathlib.Core.Path.{◌≡◌}
use native.Mathlib.Omega.{arith}
use Rattle.poly.specs.Vectors.{coefficients_at}
use Rattle.answer.proofs.Lengths.{answer_end}
use Rattle.answer.proofs.Runs.{whole_answer}
use Rattle.answer.proofs.write.Goals as goal

pub put_outputs-requires : goal.put_outputs-requires
put_outputs-requires c =
    (c.requires.0, omega (arith, answer_end c.args.b (coefficients_at c.args.v.now.f)))

pub overflow_add-result : goal.overflow_add-result
overflow_add-result c =
    omega (arith, answer_end c.args.b (coefficients_at c.args.v.now.f))

pub returns : goal.returns
returns c =
    let outputs = c.put_outputs in
    let g = c.args in
    let f = coefficients_at g.v.now.f in
    let four = c.put_word-first.ensures.0 in
    let place : c.put_word-first.result + c.put_coefficients.result ≡ 4 + 2 * (g.b.dg + 1) = omega arith in (
      omega (arith, answer_end g.b f),
      whole_answer g.b g.word g.v.now.g.c f g.area.now c.put_word-first.new.area c.put_coefficients.new.area outputs.new.area
          _ c.requires.1 c.put_word-first.ensures.1 (rw four at c.put_coefficients.ensures.1) place outputs.ensures.1,
    )
