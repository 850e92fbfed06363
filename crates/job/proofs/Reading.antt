-- A job that is read: what the tests said of it, and the job itself.
use mathlib.Core.List.{List}
use mathlib.Core.Path.{◌≡◌, sym, ap, ◌∙◌}
use Prim.Native.Nat.{ℕ}
use lib.ListN.{length}
use Rattle.std.specs.Prelude.{Result, Ok, Err}
use Rattle.format.specs.declared.Bounds.{Bounds}
use Rattle.format.specs.declared.Refusal.{Refusal}
use Rattle.header.specs.declared.Header.{Header}
use Rattle.header.specs.Header.{header_of, bounds_of, job_length_of}
use Rattle.marked_rows.specs.declared.Table.{Table}
use Rattle.marked_rows.specs.Marks.{speaking_count}
use Rattle.marked_rows.specs.Table.{job_points, job_weights, job_values}
use Rattle.job.specs.declared.parsed_job.ParsedJob.{ParsedJob}
use Rattle.job.specs.Form.{header_outcome_of}
use Rattle.job.specs.Refusals.{row_tests, outcome_of_rows, outcome_of}
use Rattle.job.specs.ParsedJob.{accepted_job}
use Rattle.job.proofs.Deciding.{rows-refused}
use Rattle.job.proofs.HeaderChecks.{after_header, outcome_by_header, header-passed}

module _ (s : List ℕ) where
  -- the bounds and the table that were read are those of the job
  pub read_whole : {b : Bounds} {t : Table} → b ≡ bounds_of s
      → (t.points ≡ job_points s) × (t.weights ≡ job_weights s) × (t.values ≡ job_values s) × (t.speaking ≡ speaking_count s)
      → ◌≡◌ {A = Result ParsedJob Refusal} (Ok (record { bounds = b; table = t })) (Ok (accepted_job s))
  read_whole bounds table =
      λ i. Ok (record {
        bounds = bounds i;
        table = record { points = table.0 i; weights = table.1 i; values = table.2 i; speaking = table.3 i };
      })

  -- what the rows are refused for, the job is
  pub refused_by_rows : {o : Result (Unit {0}) Refusal} {e : Refusal} (area : ℕ) → o ≡ row_tests s (Ok tt) → o ≡ Err e → outcome_of_rows s area ≡ Err e
  unfolding outcome_of_rows
  refused_by_rows area checked e = rows-refused s _ (sym checked ∙ e)

  -- the tests of the header, by what was read of it
  module _ {h : Header} {o : Result (Unit {0}) Refusal} (read : h ≡ header_of s) (checked : o ≡ header_outcome_of (length s) h) where
    tests : header_outcome_of (length s) (header_of s) ≡ o
    tests = ap (header_outcome_of (length s)) (sym read) ∙ sym checked

    by_header : {r : Result (Unit {0}) Refusal} (area : ℕ) → o ≡ r → outcome_of s area ≡ after_header r (outcome_of_rows s area)
    by_header area e = outcome_by_header s area ∙ ap (λ (x : Result (Unit {0}) Refusal). after_header x (outcome_of_rows s area)) (tests ∙ e)

    -- what it is refused for, the job is
    pub refused_by_header : {e : Refusal} (area : ℕ) → o ≡ Err e → outcome_of s area ≡ Err e
    refused_by_header = by_header

    -- past them the rows decide, of a job whose length fits
    pub past_header : (area : ℕ) → o ≡ Ok tt → outcome_of s area ≡ outcome_of_rows s area
    past_header = by_header

    pub length_fits : o ≡ Ok tt → length s ≡ job_length_of h
    length_fits e = header-passed s (tests ∙ e) ∙ ap job_length_of (sym read)
