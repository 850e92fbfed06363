use Rattle.std.proofs.Common.{◌+◌, ◌*◌, ◌≤◌, sym, ap, ap₂, ◌∙◌, arith}
use Rattle.format.specs.Bounds.{numerator_bound_of, numerator_count}
use Rattle.answer.specs.Bytes.{numerator_start}
use Rattle.text.specs.Drafts.{extended}
use Rattle.text.specs.Lines.{output_line_from, output_lines}
use Rattle.text.proofs.Puts.{extended-nil, put_both}
use Rattle.text.proofs.Polynomials.{next_start, next_line}
use Rattle.text.proofs.lines.put_outputs.Goals as goal

pub loop-i-init : goal.loop-i-init
unfolding numerator_count output_lines
loop-i-init c = (omega arith, omega (arith, c.requires.denominator-low), sym (extended-nil c.args.draft.now))

pub loop-i-preserved : goal.loop-i-preserved
loop-i-preserved c =
    let b = c.args.b in
    let draft = c.args.draft.now in
    let area = c.args.area.now in
    let i = c.loop-i.i in
    let low : numerator_bound_of b i ≤ 31 = c.requires.numerators-low i (omega arith) in
    let bound = c.numerator_bound-bound.ensures in
    let line = output_line_from area i (numerator_start b i) (numerator_bound_of b i) in
    let put = c.put_output.ensures ∙ ap₂ (λ start top. extended c.loop-i.draft (output_line_from area i start top)) c.loop-i.invariant.0 bound in (
      ap₂ (λ start top. start + 2 * (top + 1)) c.loop-i.invariant.0 bound ∙ sym (next_start b i),
      omega arith,
      put_both draft (output_lines b area i) line c.loop-i.invariant.2 put ∙ ap (extended draft) (sym (next_line b i area)),
    )
