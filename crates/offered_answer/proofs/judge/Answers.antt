-- A job that is read is well formed and read whole; then the tests of the offered bytes pass exactly if these are the answer (`passes-right`, `right-passes`).
use mathlib.Core.Path.{◌≡◌, sym, ap, ◌∙◌}
use mathlib.Core.Logic.{◌↔◌}
use mathlib.Core.Bool.{Bool, true}
use mathlib.Core.List.{List}
use Prim.Native.Nat.{ℕ, ◌≤◌}
use native.Mathlib.Omega.{arith}
use lib.ListN.{length}
use Rattle.std.proofs.lemmas.Result.{err_from_is_err_and}
use Rattle.format.specs.Bounds.{answer_length_of, FitsPolynomials}
use Rattle.header.specs.Header.{bounds_of}
use Rattle.header.proofs.Fields.{fits_fields, fits_polynomials}
use Rattle.answer.proofs.Written.{Bytes}
use Rattle.std.specs.Prelude.{Err}
use Rattle.job.specs.ParsedJob.{accepted_job, parsed_job_of}
use Rattle.job.specs.declared.parsed_job.ParsedJob.{ParsedJob}
use Rattle.job.proofs.Laws.{parsed_well_formed, parsed_refused}
use Rattle.offered_answer.specs.Judgements.{OfAnswer}
use Rattle.offered_answer.specs.Tests.{Passes}
use Rattle.offered_answer.proofs.Meaning.{passes-right, right-passes}
use Rattle.offered_answer.proofs.Settling.{settle_length, settle_tested, in_form_if_read, settle_refused}
use Rattle.offered_answer.proofs.judge.Goals as goal

-- what the job that is read whole leaves for the calls behind it
module _ (s : List ℕ) {r : ParsedJob} (whole : r ≡ accepted_job s) where
  few_rows : r.bounds.rows ≤ 32
  few_rows = rw whole (let n = (fits_fields s).rows_most in omega arith)

  fits : FitsPolynomials r.bounds
  fits = rw whole (fits_polynomials s)

  -- how long an answer is
  total : {n : ℕ} → n ≡ answer_length_of r.bounds → n ≡ answer_length_of (bounds_of s)
  total h = h ∙ ap (λ (t : ParsedJob). answer_length_of t.bounds) whole

  -- what the tests said, of the job's own rows
  decided : (a : List ℕ) {x : Bool} → length a ≡ answer_length_of (bounds_of s) → Bytes a → (x ≡ true) ↔ Passes r.bounds r.table.points r.table.weights r.table.values a
      → (x ≡ true) ↔ OfAnswer s a
  decided a size bytes h =
      let own = rw whole at h in
      (λ e. passes-right s a size bytes (own.0 e), λ right. own.1 (right-passes s a size right))

pub returns-in_err-parsed : goal.returns-in_err-parsed
returns-in_err-parsed c =
    let e = err_from_is_err_and c.from_residual.result c.from_residual.ensures.1 in
    let s = c.args.job.now in
    let read : parsed_job_of s 254 ≡ Err c.in_err-parsed.field-0.0 = cc (c.read.ensures, c.in_err-parsed.was) in
    rw (e.1, e.2) (settle_refused s _ (parsed_refused s 254 read))

pub answer_length-requires : goal.answer_length-requires
answer_length-requires c = fits _ (parsed_well_formed c.args.job.now 254 (sym c.read.ensures ∙ c.in_ok-parsed.was)).1

pub returns-then-offered-answer_length : goal.returns-then-offered-answer_length
returns-then-offered-answer_length c =
    let s = c.args.job.now in
    let a = c.args.offered.now in
    let read = parsed_well_formed s 254 (sym c.read.ensures ∙ c.in_ok-parsed.was) in
    rw c.into.ensures
    (settle_length s a (in_form_if_read s a read.0) (λ e. c.if-offered-answer_length.true (e ∙ sym (total s read.1 c.answer_length.ensures))))

pub passes-requires : goal.passes-requires
passes-requires c =
    let read = parsed_well_formed c.args.job.now 254 (sym c.read.ensures ∙ c.in_ok-parsed.was) in
    (few_rows _ read.1, fits _ read.1, c.if-offered-answer_length.false ∙ c.answer_length.ensures)

pub returns : goal.returns
returns c =
    let s = c.args.job.now in
    let a = c.args.offered.now in
    let read = parsed_well_formed s 254 (sym c.read.ensures ∙ c.in_ok-parsed.was) in
    -- the offered bytes have the right length
    let size = c.if-offered-answer_length.false ∙ total s read.1 c.answer_length.ensures in
    settle_tested s a (in_form_if_read s a read.0) size (decided s read.1 a size (λ k. (c.type_inv.offered k).fits) c.passes.ensures)
