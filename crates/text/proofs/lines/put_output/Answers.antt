-- Label, number and coefficients are put one behind the other (`put_both`).
use Rattle.std.proofs.Common.{◌+◌, ◌++◌}
use Rattle.text.specs.Decimal.{decimal_of}
use Rattle.text.specs.Lines.{output_label, coefficient_from, coefficients_line}
use Rattle.text.proofs.Puts.{put_both}
use Rattle.text.proofs.lines.put_output.Goals as goal

pub returns : goal.returns
returns c =
    let draft = c.args.draft.now in
    let p = c.args.polynomial.now in
    let number = decimal_of (c.args.i + 1) in
    let front = put_both draft output_label number c.put_byte.ensures c.put_decimal.ensures in
    put_both draft (output_label ++ number) (coefficients_line (coefficient_from p.area.now p.start) p.bound) front c.put_polynomial.ensures
