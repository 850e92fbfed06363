-- The buffer holds every text of a job and the bounds are those of one, so the text is written (`always_written`).
use Rattle.std.proofs.Common.{is_ok, ap}
use Rattle.print.proofs.Printing.{always_written, printed}
use Rattle.print.proofs.recovered_text.Goals as goal

pub unwrap-requires : goal.unwrap-requires
unwrap-requires c =
    let found = c.recover_with_margin-measured in
    let told = c.write_text-written.ensures in
    let whole = always_written c.args.bytes.now found.new.area c.args.buffer.now c.write_text-written.new.buffer found.result.recovery
    c.text_bounds-bounds.result found.result.margin c.write_text-written.result c.text_bounds-bounds.ensures c.requires told.0 told.1 told.2 in
    ap is_ok whole

pub returns : goal.returns
returns c =
    let found = c.recover_with_margin-measured in
    let told = c.write_text-written.ensures in
    printed c.args.bytes.now found.new.area c.args.buffer.now c.write_text-written.new.buffer found.result.recovery
    c.text_bounds-bounds.result found.result.margin c.write_text-written.result c.text_bounds-bounds.ensures c.requires told.0 told.1 told.2
    found.ensures c.unwrap.result c.unwrap.ensures
