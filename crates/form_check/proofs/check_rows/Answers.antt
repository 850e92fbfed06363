-- What the pass over the rows found is what tests 5, 12 and 6 look at, so the law of the table's tests carries their outcome to the bytes.
use mathlib.Core.Path.{ap, ◌∙◌}
use Rattle.header.specs.declared.Header.{Header}
use Rattle.header.specs.Header.{rows_needed_of}
use Rattle.form_check.proofs.Passes.{scanned_decides}
use Rattle.form_check.proofs.check_rows.Goals as goal

pub returns : goal.returns
returns c =
    let same = c.requires.0 in
    scanned_decides c.args.job.now c.scan_rows-scanned.result c.scan_rows-scanned.ensures (ap (λ (h : Header). h.bounds.rows) same)
    (c.rows_needed-needed.ensures ∙ ap rows_needed_of same) c.err.ensures.value c.unwrap_or.ensures c.check_table.ensures
