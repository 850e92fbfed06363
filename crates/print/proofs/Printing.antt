-- A job's text always fits a buffer of 1280 bytes.
use Prim.Native.Nat.{ℕ, ◌≤◌}
use mathlib.Core.Path.{◌≡◌, refl, sym, ap, ◌∙◌}
use mathlib.Core.Bool.{true}
use mathlib.Core.List.{List}
use native.Mathlib.Omega.{arith}
use lib.ListN.{length, drop, length-append}
use lib.Seq.{length-take-le}
use Rattle.format.specs.declared.Bounds.{Bounds}
use Rattle.format.specs.Bounds.{largest_bound}
use Rattle.std.specs.Prelude.{Some, Result, Ok, Err}
use Rattle.format.specs.declared.Recovered.{Recovered}
use Rattle.format.specs.declared.Refusal.{Refusal}
use Rattle.format.specs.Outcomes.{report_of}
use Rattle.header.specs.Header.{bounds_of}
use Rattle.header.proofs.Fields.{fits_polynomials}
use Rattle.job.specs.Refusals.{outcome_of}
use Rattle.job.specs.ParsedJob.{parsed_with, parsed_job_of}
use Rattle.lists.specs.Overwriting.{overwritten}
use Rattle.margin.specs.RecoveredMargin.{RecoveredMargin}
use Rattle.text.specs.declared.TextError.{TextError}
use Rattle.text.specs.Text.{fits_of, text_of, written_of, buffer_after}
use Rattle.text.proofs.Writing.{true_fits, told_bytes}
use Rattle.print.specs.Printed.{answer_area, text_bounds_of, text_for, Printed}

-- the bounds that a text goes by, whether the job is refused or not
parsed_fits : (s : List ℕ) (room : ℕ) → fits_of (text_bounds_of (parsed_job_of s room)) ≡ true
unfolding largest_bound
parsed_fits s room = by_outcome (outcome_of s room)
  where
    by_outcome : (outcome : Result (Unit {0}) Refusal) → fits_of (text_bounds_of (parsed_with outcome s)) ≡ true
    by_outcome (Ok u) = true_fits (bounds_of s) (fits_polynomials s)
    by_outcome (Err e) = refl

-- the call that writes the text answers w and leaves the buffer as `after`
module _
    (s left old after : List ℕ) (outcome : Result Recovered Refusal) (b : Bounds) (margin : ℕ) (w : Result ℕ TextError)
    (known : b ≡ text_bounds_of (parsed_job_of s 254)) (room : 1280 ≤ length old)
    (answer : w ≡ written_of b (Some outcome) margin left (length old)) (buffer : after ≡ buffer_after b (Some outcome) margin left old)
    (short : fits_of b ≡ true → length (text_of b (Some outcome) margin left) ≤ 1280) where
  good : fits_of b ≡ true
  good = ap fits_of known ∙ parsed_fits s 254

  told : (Ok (length (text_of b (Some outcome) margin left)) ≡ written_of b (Some outcome) margin left (length old))
      × (overwritten (text_of b (Some outcome) margin left) old ≡ buffer_after b (Some outcome) margin left old)
  told = told_bytes b (Some outcome) margin left old good (length (text_of b (Some outcome) margin left)) refl (omega (arith, short good))

  -- neither too short nor malformed
  pub always_written : w ≡ Ok (length (text_of b (Some outcome) margin left))
  always_written = answer ∙ sym told.0

  pub printed : RecoveredMargin s answer_area (report_of outcome) left margin → (n : ℕ) → w ≡ Ok n → Printed s old n after
  printed measured n is =
      let text = text_for s outcome margin left in
      let same : text_of b (Some outcome) margin left ≡ text = ap (λ bounds. text_of bounds (Some outcome) margin left) known in
      let whole = always_written in
      let size : n ≡ length (text_of b (Some outcome) margin left) = cc in
      let holds : after ≡ overwritten text old = buffer ∙ sym told.1 ∙ ap (λ l. overwritten l old) same in
      let within : n ≤ length after = omega (arith, ap length holds, length-append text (drop (length text) old), ap length same) in
      record {
        outcome = outcome;
        left = left;
        margin = margin;
        measured = measured;
        size = size ∙ ap length same;
        written = holds;
        counted = (within, sym (length-take-le n after within));
      }
