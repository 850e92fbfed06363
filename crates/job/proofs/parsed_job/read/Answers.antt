-- A refusal by the header's tests is handed on, and past them the body is read.
use mathlib.Core.Path.{refl}
use Rattle.std.proofs.lemmas.Result.{err_from_is_err_and}
use Rattle.header.proofs.Fields.{fits-header}
use Rattle.job.proofs.Reading.{refused_by_header, past_header, length_fits}
use Rattle.job.proofs.parsed_job.read.Goals as goal

pub check_header-requires : goal.check_header-requires
check_header-requires c = rw c.read_header-header.ensures (fits-header c.args.job.now)

pub returns-in_err-check_header : goal.returns-in_err-check_header
returns-in_err-check_header c =
    let p = err_from_is_err_and c.from_residual.result c.from_residual.ensures.1 in
    rw (p.1, p.2, refused_by_header c.args.job.now c.read_header-header.ensures c.check_header.ensures c.args.area (c.in_err-check_header.was)) refl

pub read_body-requires : goal.read_body-requires
read_body-requires c =
    let read = c.read_header-header.ensures in
    (read, rw read (fits-header c.args.job.now), length_fits c.args.job.now read c.check_header.ensures (c.in_ok-check_header.was))

pub returns : goal.returns
returns c =
    let past = past_header c.args.job.now c.read_header-header.ensures c.check_header.ensures c.args.area (c.in_ok-check_header.was) in
    rw past c.read_body.ensures
