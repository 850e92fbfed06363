-- A test before 8 refuses, or the solver works on the job's own rows; what it returns settles the call (`settle_unsolved`, `settle_solved`).
use mathlib.Core.Path.{sym, ◌∙◌, ap}
use mathlib.Core.List.{List}
use Prim.Native.Nat.{ℕ}
use native.Mathlib.Omega.{arith}
use lib.ListN.{length}
use Rattle.std.proofs.lemmas.Result.{err_from_is_err_and}
use Rattle.format.specs.Bounds.{answer_length_of}
use Rattle.header.proofs.Fields.{fits_polynomials}
use Rattle.job.specs.declared.parsed_job.ParsedJob.{ParsedJob}
use Rattle.job.proofs.Facts.{well_formed_facts}
use Rattle.job.proofs.Laws.{parsed_well_formed, answer_length_most}
use Rattle.poly.specs.Vectors.{coefficients_at}
use Rattle.answer.specs.Bytes.{answer_bytes}
use Rattle.lists.specs.Overwriting.{overwritten}
use Rattle.solver.specs.Solutions.{solution_for}
use Rattle.soundness.proofs.AnswerMeaning.{enough_rows}
use Rattle.recovery.proofs.Settlement.{rows_in_range}
use Rattle.recovery.proofs.Settling.{settle_early, settle_unsolved, settle_solved}
use Rattle.recovery.proofs.recover.Goals as goal

pub returns-in_err-parsed : goal.returns-in_err-parsed
returns-in_err-parsed c =
    let p = err_from_is_err_and c.from_residual.result c.from_residual.ensures.1 in
    rw (p.1, p.2) (settle_early c.args.job.now c.args.area.now (sym c.read.ensures ∙ c.in_err-parsed.was))

pub solve-requires : goal.solve-requires
solve-requires c =
    let job : List ℕ = c.args.job.now in
    let read = parsed_well_formed job (length c.args.area.now) (sym c.read.ensures ∙ c.in_ok-parsed.was) in
    let W = well_formed_facts job _ read.0 in
    rw read.1 (enough_rows job W, rows_in_range job W)

pub returns-in_err-solution : goal.returns-in_err-solution
returns-in_err-solution c =
    let job : List ℕ = c.args.job.now in
    let read = parsed_well_formed job (length c.args.area.now) (sym c.read.ensures ∙ c.in_ok-parsed.was) in
    let solution = c.solve.ensures ∙ ap (λ (r : ParsedJob). solution_for r.bounds r.table.speaking r.table.points r.table.weights r.table.values) read.1 in
    let p = err_from_is_err_and c.from_residual-in_err-solution.result c.from_residual-in_err-solution.ensures.1 in
    rw (p.1, p.2) (settle_unsolved job c.args.area.now read.0 (sym solution ∙ c.in_err-solution.was))

pub write-written-requires : goal.write-written-requires
write-written-requires c =
    let job : List ℕ = c.args.job.now in
    let read = parsed_well_formed job (length c.args.area.now) (sym c.read.ensures ∙ c.in_ok-parsed.was) in
    let W = well_formed_facts job _ read.0 in
    rw read.1 (fits_polynomials job, W.enough_area)

pub overflow_cast-result : goal.overflow_cast-result
overflow_cast-result c =
    let job : List ℕ = c.args.job.now in
    let read = parsed_well_formed job (length c.args.area.now) (sym c.read.ensures ∙ c.in_ok-parsed.was) in
    let bytes = c.write-written.ensures.0 ∙ ap (λ (r : ParsedJob). answer_length_of r.bounds) read.1 in
    omega (arith, bytes, answer_length_most job _ read.0)

pub returns : goal.returns
returns c =
    let job : List ℕ = c.args.job.now in
    let read = parsed_well_formed job (length c.args.area.now) (sym c.read.ensures ∙ c.in_ok-parsed.was) in
    let solution = c.solve.ensures ∙ ap (λ (r : ParsedJob). solution_for r.bounds r.table.speaking r.table.points r.table.weights r.table.values) read.1 in
    let bytes = c.write-written.ensures.0 ∙ ap (λ (r : ParsedJob). answer_length_of r.bounds) read.1 in
    let x = c.in_ok-solution.solution in
    settle_solved job c.args.area.now read.0 (sym solution ∙ c.in_ok-solution.was) _ bytes
    c.write-written.new.area
    (c.write-written.ensures.1 ∙ ap (λ (r : ParsedJob). overwritten (answer_bytes r.bounds x.word x.vector.g.c (coefficients_at x.vector.f)) c.args.area.now) read.1)
