-- Label, number and line feed are put one behind the other (`put_both`).
use Rattle.std.proofs.Common.{◌++◌}
use Rattle.text.specs.Decimal.{item_of}
use Rattle.text.specs.Lines.{line_feed, margin_label}
use Rattle.text.proofs.Puts.{put_both}
use Rattle.text.proofs.lines.put_margin.Goals as goal

pub returns : goal.returns
returns c =
    let draft = c.args.draft.now in
    let number = item_of c.args.margin in
    put_both draft (margin_label ++ number) line_feed (put_both draft margin_label number c.put.ensures c.put_item.ensures) c.put_byte.ensures
