-- What the code tests on the arrays are the tests on the bytes (`rows_checked`); each branch then gives the outcome of the definition.
use borrow.Author.Tests.{lt-ltb, le-ltb}
use mathlib.Core.Path.{◌≡◌, refl, sym, ap, ◌∙◌}
use Rattle.std.proofs.lemmas.Result.{err_from_is_err_and}
use Rattle.format.specs.Bounds.{answer_length_of}
use Rattle.header.specs.declared.Header.{Header}
use Rattle.header.specs.Header.{bounds_of}
use Rattle.header.proofs.Fields.{fits_polynomials}
use Rattle.job.proofs.ArrayTests.{rows_checked}
use Rattle.job.proofs.Deciding.{at_7, accepted}
use Rattle.job.proofs.Reading.{read_whole, refused_by_rows}
use Rattle.job.proofs.parsed_job.read_body.Goals as goal

pub returns-in_err-check_table : goal.returns-in_err-check_table
returns-in_err-check_table c =
    let checked = rows_checked c.args.job.now c.requires.0 c.read_table-table.ensures c.modulus-p.ensures c.first_out_of_range-found.ensures c.rows_needed-needed.ensures c.check_table.ensures in
    let p = err_from_is_err_and c.from_residual.result c.from_residual.ensures.1 in
    rw (p.1, p.2, refused_by_rows c.args.job.now c.args.area checked (c.in_err-check_table.was)) refl

pub answer_length-requires : goal.answer_length-requires
answer_length-requires c = rw (ap (λ (h : Header). h.bounds) c.requires.0) (fits_polynomials c.args.job.now)

pub returns-then-area-answer_length : goal.returns-then-area-answer_length
returns-then-area-answer_length c =
    let checked = rows_checked c.args.job.now c.requires.0 c.read_table-table.ensures c.modulus-p.ensures c.first_out_of_range-found.ensures c.rows_needed-needed.ensures c.check_table.ensures in
    let needed : c.answer_length.result ≡ answer_length_of (bounds_of c.args.job.now) = c.answer_length.ensures ∙ ap (λ (h : Header). answer_length_of h.bounds) c.requires.0 in
    let short = lt-ltb _ _ (rw needed at c.if-area-answer_length.true) in
    rw (c.into.ensures, at_7 c.args.job.now c.args.area short (sym checked ∙ c.in_ok-check_table.was)) refl

pub returns : goal.returns
returns c =
    let checked = rows_checked c.args.job.now c.requires.0 c.read_table-table.ensures c.modulus-p.ensures c.first_out_of_range-found.ensures c.rows_needed-needed.ensures c.check_table.ensures in
    let needed : c.answer_length.result ≡ answer_length_of (bounds_of c.args.job.now) = c.answer_length.ensures ∙ ap (λ (h : Header). answer_length_of h.bounds) c.requires.0 in
    let long = le-ltb _ _ (rw needed at c.if-area-answer_length.false) in
    rw (accepted c.args.job.now c.args.area long (sym checked ∙ c.in_ok-check_table.was))
    (read_whole c.args.job.now (ap (λ (h : Header). h.bounds) c.requires.0) c.read_table-table.ensures)
