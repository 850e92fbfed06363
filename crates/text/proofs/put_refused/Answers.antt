-- The pieces are put one behind the other (`put_both`).
use Rattle.std.proofs.Common.{◌++◌, arith}
use Rattle.text.specs.Decimal.{decimal_of, item_of}
use Rattle.text.specs.Lines.{line_feed}
use Rattle.text.specs.Text.{refused_label}
use Rattle.text.proofs.Puts.{put_both}
use Rattle.text.proofs.Lengths.{refused-short}
use Rattle.text.proofs.put_refused.Goals as goal

pub returns-clause-text : goal.returns-clause-text
returns-clause-text c =
    let draft = c.args.draft.now in
    let number = decimal_of c.args.number in
    let row = item_of c.args.row in
    let one = put_both draft refused_label number c.put.ensures c.put_decimal.ensures in
    let two = put_both draft (refused_label ++ number) row one c.put_item.ensures in
    put_both draft (refused_label ++ number ++ row) line_feed two c.put-2.ensures

pub returns-clause-short : goal.returns-clause-short
returns-clause-short c = refused-short c.args.number c.args.row (omega arith) (omega arith)
