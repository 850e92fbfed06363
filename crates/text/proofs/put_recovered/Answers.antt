-- The pieces are put one behind the other (`put_both`).
use Rattle.std.proofs.Common.{◌++◌, ap, ◌∙◌, arith}
use Rattle.format.specs.Numbers.{word_from}
use Rattle.row_mask.specs.Word.{is_set}
use Rattle.text.specs.Drafts.{extended}
use Rattle.text.specs.Decimal.{decimal_of}
use Rattle.text.specs.Lines.{line_feed, row_items, coefficient_from, coefficients_line, output_lines, margin_line}
use Rattle.text.specs.Text.{recovered_label, wrong_label, denominator_label}
use Rattle.text.proofs.Puts.{put_both, pieces}
use Rattle.text.proofs.Lengths.{recovered-short}
use Rattle.text.proofs.put_recovered.Goals as goal

pub returns-clause-text : goal.returns-clause-text
returns-clause-text c =
    let draft = c.args.draft.now in
    let area = c.args.area.now in
    let b = c.args.b in
    let wrong = decimal_of c.args.wrong in
    let rows = row_items 32 0 (is_set (word_from area)) in
    let line = coefficients_line (coefficient_from area 4) b.dg in
    let outputs = output_lines b area b.outputs in
    let one = recovered_label ++ wrong in
    let two = one ++ (line_feed ++ wrong_label) in
    let three = two ++ rows in
    let four = three ++ (line_feed ++ denominator_label) in
    let marks = c.put_rows.ensures ∙ ap (λ w. extended c.put-2.new.self (row_items 32 0 (is_set w))) c.read_word.ensures in
    let e1 = put_both draft recovered_label wrong c.put.ensures c.put_decimal.ensures in
    let e2 = put_both draft one (line_feed ++ wrong_label) e1 c.put-2.ensures in
    let e3 = put_both draft two rows e2 marks in
    let e4 = put_both draft three (line_feed ++ denominator_label) e3 c.put-3.ensures in
    let e5 = put_both draft four line e4 c.put_polynomial.ensures in
    let e6 = put_both draft (four ++ line) outputs e5 c.put_outputs.ensures in
    put_both draft (four ++ line ++ outputs) (margin_line c.args.margin) e6 c.put_margin.ensures
    ∙ ap (extended draft) (pieces recovered_label wrong line_feed wrong_label rows denominator_label line outputs (margin_line c.args.margin))

pub returns-clause-short : goal.returns-clause-short
returns-clause-short c =
    let a = c.args in
    recovered-short a.area.now (λ k. (c.type_inv.area k).fits) a.b c.requires a.wrong a.margin (omega arith) (omega arith)
