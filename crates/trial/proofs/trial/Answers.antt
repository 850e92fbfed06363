-- The tests before 10 leave the facts that the writer asks for (`trial_facts`); the vector that was read is that of the definition, so both are reduced or neither is (`same-reduced`).
use Prim.Native.Nat.{ℕ, ◌<◌}
use mathlib.Core.List.{List}
use mathlib.Core.Bool.{Bool, true}
use mathlib.Core.Logic.{◌↔◌}
use mathlib.Core.Path.{◌≡◌, refl, sym, ap, ◌∙◌}
use native.Mathlib.Omega.{arith}
use Rattle.std.proofs.lemmas.Result.{err_from_is_err_and}
use Rattle.format.specs.declared.Bounds.{Bounds}
use Rattle.header.specs.declared.Header.{Header}
use Rattle.header.specs.Header.{bounds_of, header_of, job_length_of}
use Rattle.header.proofs.Fields.{fits_fields, fits-header, rows_bytes, fits_polynomials}
use Rattle.lists.proofs.Truth.{clash}
use Rattle.format.specs.Bounds.{prime_of}
use Rattle.lists.specs.Overwriting.{overwritten}
use Rattle.poly.specs.Coefficients.{Stored}
use Rattle.answer.specs.Coefficients.{denominator_of, numerator_of}
use Rattle.answer.proofs.Ranges.{denominator_stored, numerator_stored}
use Rattle.problem.specs.Reduced.{Reduced}
use Rattle.problem.proofs.Same.{reduced_cong}
use Rattle.reduced.proofs.CommonDivisors.{stored_full}
use Rattle.trial.specs.Trial.{TrialReduced}
use Rattle.trial.proofs.Facts.{TrialFacts, trial_facts}
use Rattle.trial.proofs.Settling.{settle_early, settle_not_reduced, settle_short, settle_written, job_of}
use Rattle.trial.proofs.trial.Goals as goal

-- the bounds that were read
read-bounds : {read : Header} (header : List ℕ) → read ≡ header_of header → read.bounds ≡ bounds_of header
read-bounds header e = ap (λ (h : Header). h.bounds) e

-- the job's length
total : {size : ℕ} {read : Header} (header : List ℕ) → read ≡ header_of header → size ≡ job_length_of read → size ≡ job_length_of (header_of header)
total header e size = size ∙ ap job_length_of e

module _ (header coefficients : List ℕ) where
  -- the vector that was read, of the bounds that were read
  module _ {b : Bounds} {f : ℕ → List ℕ} {g : List ℕ} (bounds : b ≡ bounds_of header) (denominator : g ≡ denominator_of b coefficients)
      (numerators : (i : ℕ) → i < b.outputs → f i ≡ numerator_of b coefficients i) where
    -- the numerators are those of the definition
    defined : (i : ℕ) → i < (bounds_of header).outputs → f i ≡ numerator_of (bounds_of header) coefficients i
    defined i l = rw bounds at (numerators i (rw bounds l))

    -- the vector as the callees ask for it
    vector-stored : {w : ℕ} → TrialFacts header coefficients w → Stored (prime_of b) g × ((i : ℕ) → i < b.outputs → Stored (prime_of b) (f i))
    vector-stored F = (
      rw (denominator, bounds) (denominator_stored _ (fits_polynomials header) _ F.coefficient_bytes_lem F.coefficients_in_range),
      (λ i l.
          let l' = rw bounds at l in
          rw (numerators i l, bounds) (numerator_stored _ (fits_polynomials header) _ F.coefficient_bytes_lem F.coefficients_in_range i l')),
    )

    -- the vector is reduced exactly if the polynomials of the coefficients are
    same-reduced : {answer : Bool} → (answer ≡ true) ↔ Reduced (prime_of b) b.outputs f g → (answer ≡ true) ↔ TrialReduced header coefficients
    same-reduced told =
        let d = rw (denominator, bounds) at told in
        (λ e. reduced_cong defined (d.0 e), λ R. d.1 (reduced_cong (λ i l. sym (defined i l)) R))

pub returns-in_err-v : goal.returns-in_err-v
returns-in_err-v c =
    let e = err_from_is_err_and c.from_residual.result c.from_residual.ensures.1 in
    rw (e.1, e.2) (settle_early _ _ _ _ _ _ c.in_err-v.ensures.refused)

pub is_reduced-requires : goal.is_reduced-requires
is_reduced-requires c =
    let header : List ℕ = c.args.header.now in
    let b = read-bounds header c.read_header-read.ensures in
    let v = c.in_ok-v.ensures in
    let S = vector-stored header c.args.coefficients.now b v.denominator v.numerators (trial_facts _ _ _ v.passed) in
    (rw b (fits_fields header).outputs_most, S.0, S.1)

pub returns-then-not-is_reduced : goal.returns-then-not-is_reduced
returns-then-not-is_reduced c =
    let header : List ℕ = c.args.header.now in
    let b = read-bounds header c.read_header-read.ensures in
    let v = c.in_ok-v.ensures in
    let same = same-reduced header c.args.coefficients.now b v.denominator v.numerators c.is_reduced.ensures in
    rw c.into.ensures (settle_not_reduced _ _ _ _ _ v.passed (λ R. clash (sym (same.1 R) ∙ c.if-not-is_reduced.true)))

pub job_length-requires : goal.job_length-requires
job_length-requires c = rw c.read_header-read.ensures (fits-header _)

pub returns-then-area-job_length : goal.returns-then-area-job_length
returns-then-area-job_length c =
    let header : List ℕ = c.args.header.now in
    let b = read-bounds header c.read_header-read.ensures in
    let v = c.in_ok-v.ensures in
    let same = same-reduced header c.args.coefficients.now b v.denominator v.numerators c.is_reduced.ensures in
    let size = total header c.read_header-read.ensures c.job_length.ensures in
    rw c.into-then-area-job_length.ensures
    (settle_short _ _ _ _ _ v.passed (same.0 c.if-not-is_reduced.false) (rw size at c.if-area-job_length.true))

pub put_job-bytes-requires : goal.put_job-bytes-requires
put_job-bytes-requires c =
    let header : List ℕ = c.args.header.now in
    let b = read-bounds header c.read_header-read.ensures in
    let v = c.in_ok-v.ensures in
    let F = trial_facts _ _ _ v.passed in
    let S = vector-stored header c.args.coefficients.now b v.denominator v.numerators F in
    let size = total header c.read_header-read.ensures c.job_length.ensures in
    let enough = rw size at c.if-area-job_length.false in
    (rw b (fits_fields header), rw b (omega (arith, F.enough_rows)), rw (b, F.header_bytes) enough, stored_full S.0, (λ i l. stored_full (S.1 i l)))

pub overflow_cast-bytes : goal.overflow_cast-bytes
overflow_cast-bytes c =
    let header : List ℕ = c.args.header.now in
    let b = read-bounds header c.read_header-read.ensures in
    let F = trial_facts _ _ _ c.in_ok-v.ensures.passed in
    let size : c.put_job-bytes.result ≡ job_length_of (header_of header) = c.put_job-bytes.ensures.0 ∙ rw (b, F.header_bytes) refl in
    omega (arith, size, rows_bytes (bounds_of header) (fits_fields header), (fits-header header).length_most)

pub returns : goal.returns
returns c =
    let header : List ℕ = c.args.header.now in
    let coefficients : List ℕ = c.args.coefficients.now in
    let b = read-bounds header c.read_header-read.ensures in
    let v = c.in_ok-v.ensures in
    let F = trial_facts _ _ _ v.passed in
    let same = same-reduced header coefficients b v.denominator v.numerators c.is_reduced.ensures in
    let size = total header c.read_header-read.ensures c.job_length.ensures in
    let enough = rw size at c.if-area-job_length.false in
    let written : c.put_job-bytes.result ≡ job_length_of (header_of header) = c.put_job-bytes.ensures.0 ∙ rw (b, F.header_bytes) refl in
    let job = job_of header coefficients c.args.start c.args.spoiled b (defined header coefficients b v.denominator v.numerators) (rw b at v.denominator) in
    rw written
    (settle_written _ _ _ _ _ v.passed (same.0 c.if-not-is_reduced.false) enough (c.put_job-bytes.ensures.1 ∙ ap (λ t. overwritten t c.args.area.now) job))
