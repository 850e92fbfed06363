-- The rows stand behind the header, whose length is what putting it there returned.
use Prim.Native.Nat.{ℕ, ◌+◌, ◌*◌, ◌<◌}
use mathlib.Core.List.{List}
use mathlib.Core.Path.{◌≡◌, ap, ap₂, fun_ext, ◌∙◌}
use native.Mathlib.Omega.{arith}
use lib.ListN.{get_or}
use Rattle.field.proofs.Moduli.{modulus_prime}
use Rattle.format.specs.declared.Bounds.{Bounds}
use Rattle.format.specs.Bounds.{prime_of}
use Rattle.header.specs.Header.{FitsFields}
use Rattle.poly.specs.Vectors.{coefficients_at}
use Rattle.answer.specs.Bytes.{coefficient_bytes}
use Rattle.lists.specs.Overwriting.{spliced}
use Rattle.lists.specs.Tabulated.{tabulate}
use Rattle.trial.specs.Rows.{trial_numbers}
use Rattle.spoiling.specs.Spoiling.{added_by}
use Rattle.spoiling.proofs.Added.{added_at, added_below}
use Rattle.trial.proofs.Writing.{behind_header}
use Rattle.trial.proofs.put_job.Goals as goal

-- what is added to row r
added : {by : List ℕ} (b : Bounds) (start w : ℕ) → FitsFields b → 0 < b.rows → by ≡ tabulate 32 (added_by (prime_of b) b.rows start w)
    → (r : ℕ) → get_or by r 0 ≡ added_by (prime_of b) b.rows start w r
added b start w fits some same r = ap (λ t. get_or t r 0) same ∙ added_at (prime_of b) b.rows start w some (omega (arith, fits.rows_most)) r

pub put_rows-requires : goal.put_rows-requires
put_rows-requires c =
    let g = c.args in
    let b = g.b in
    let prime = (modulus_prime b.prime).two in (
      c.requires.0,
      omega (arith, c.put_bytes-front.ensures.0, c.put_bytes-front.auto.area, c.requires.2),
      c.requires.3,
      c.requires.4,
      (λ r. rw (added b g.start g.spoiled c.requires.0 c.requires.1 c.spoilings-by.ensures r) (added_below (prime_of b) b.rows g.start g.spoiled r prime)),
    )

pub returns : goal.returns
returns c =
    let g = c.args in
    let b = g.b in
    let header = c.put_bytes-front in
    let rows = c.put_rows in
    let count = b.rows * (1 + b.outputs) in
    let second =
    rows.ensures.1
    ∙ ap₂ (λ at by. spliced at (coefficient_bytes (trial_numbers (prime_of b) (coefficients_at g.v.now.f) g.v.now.g.c by b.rows b.outputs) count) header.new.area)
    header.ensures.0 (fun_ext (added b g.start g.spoiled c.requires.0 c.requires.1 c.spoilings-by.ensures)) in (
      omega (arith, header.ensures.0, rows.ensures.0),
      behind_header g.header.now _ g.area.now header.new.area rows.new.area (omega (arith, c.requires.2)) header.ensures.1 second,
    )
