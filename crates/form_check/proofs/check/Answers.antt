-- By the outcome of the header's tests: a refusal is handed on, and past them the rows decide.
use Prim.Native.Nat.{ℕ}
use mathlib.Core.List.{List}
use mathlib.Core.Path.{◌≡◌, refl, sym, ap, ◌∙◌}
use lib.ListN.{length}
use Rattle.std.specs.Prelude.{Result, Ok}
use Rattle.std.proofs.lemmas.Result.{err_from_is_err_and}
use Rattle.format.specs.declared.Refusal.{Refusal}
use Rattle.header.specs.declared.Header.{Header}
use Rattle.header.specs.Header.{header_of}
use Rattle.header.proofs.Fields.{fits-header}
use Rattle.job.specs.Refusals.{row_tests}
use Rattle.job.specs.Form.{header_outcome_of, form_outcome_of}
use Rattle.job.proofs.HeaderChecks.{after_header, first_by_header}
use Rattle.job.proofs.Reading.{length_fits}
use Rattle.form_check.proofs.check.Goals as goal

-- what the tests of the header leave
by_header : (s : List ℕ) {h : Header} {o r : Result (Unit {0}) Refusal} → h ≡ header_of s → o ≡ header_outcome_of (length s) h → o ≡ r
    → form_outcome_of s ≡ after_header r (row_tests s (Ok tt))
unfolding form_outcome_of
by_header s read checked e =
    first_by_header s (Ok tt)
    ∙ ap (λ (x : Result (Unit {0}) Refusal). after_header x (row_tests s (Ok tt))) (ap (header_outcome_of (length s)) (sym read) ∙ sym checked ∙ e)

pub check_header-requires : goal.check_header-requires
check_header-requires c = rw c.read_header-header.ensures (fits-header c.args.job.now)

pub returns-in_err-check_header : goal.returns-in_err-check_header
returns-in_err-check_header c =
    let p = err_from_is_err_and c.from_residual.result c.from_residual.ensures.1 in
    rw (p.1, p.2, by_header c.args.job.now c.read_header-header.ensures c.check_header.ensures c.in_err-check_header.was) refl

pub check_rows-requires : goal.check_rows-requires
check_rows-requires c =
    let read = c.read_header-header.ensures in
    (read, rw read (fits-header c.args.job.now), length_fits c.args.job.now read c.check_header.ensures c.in_ok-check_header.was)

pub returns : goal.returns
returns c = c.check_rows.ensures ∙ sym (by_header c.args.job.now c.read_header-header.ensures c.check_header.ensures c.in_ok-check_header.was)
