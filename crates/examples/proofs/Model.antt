-- What a call settles, as one definition that computes: the reader's tests, then the solver.
use mathlib.Core.Path.{◌≡◌, refl, ap, subst}
use mathlib.Core.List.{List, []}
use Prim.Native.Nat.{ℕ}
use lib.ListN.{length}
use Rattle.std.specs.Prelude.{Result, Ok, Err}
use Rattle.format.specs.declared.Refusal.{Refusal}
use Rattle.format.specs.declared.Report.{Report}
use Rattle.format.specs.Outcomes.{recovered_report, refusal_report}
use Rattle.format.specs.Bounds.{answer_length_of}
use Rattle.poly.specs.Vectors.{coefficients_at}
use Rattle.header.specs.Header.{bounds_of}
use Rattle.marked_rows.specs.Marks.{speaking_count}
use Rattle.marked_rows.specs.Table.{job_points, job_weights, job_values}
use Rattle.job.specs.Refusals.{outcome_of, WellFormed}
use Rattle.job.specs.ParsedJob.{parsed_with}
use Rattle.answer.specs.Bytes.{answer_bytes}
use Rattle.lists.specs.Overwriting.{overwritten}
use Rattle.solver.specs.declared.Solution.{Solution}
use Rattle.solver.specs.Solutions.{solution_for}
use Rattle.recovery.specs.Recovery.{Settled}
use Rattle.recovery.proofs.Settling.{settle_early, settle_unsolved, settle_solved}

-- what is reported, and the bytes that are written
pub record Computed : Type 0 where
  pub report : Report
  pub bytes : List ℕ

-- a refusal is reported, and nothing is written
abbrev unwritten : Refusal → Computed
unwritten e = record { report = refusal_report e; bytes = [] }

-- after the solver: where it found an answer, that is written
abbrev solved_by : List ℕ → Result Solution Refusal → Computed
solved_by s (Ok t) =
    record {
      report = recovered_report (answer_length_of (bounds_of s)) t.wrong;
      bytes = answer_bytes (bounds_of s) t.word t.vector.g.c (coefficients_at t.vector.f);
    }
solved_by s (Err e) = unwritten e

abbrev solution : List ℕ → Result Solution Refusal
solution s = solution_for (bounds_of s) (speaking_count s) (job_points s) (job_weights s) (job_values s)

-- after the tests before 8
abbrev tested : List ℕ → Result (Unit {0}) Refusal → Computed
tested s (Ok _) = solved_by s (solution s)
tested s (Err e) = unwritten e

-- the job s, with an area of so many bytes
unfoldable pub result_of : List ℕ → ℕ → Computed
result_of s room = tested s (outcome_of s room)

module _ (s area : List ℕ) where
  abbrev Is : Computed → Type 0
  Is r = Settled s area r.report (overwritten r.bytes area)

  late : WellFormed s (length area) → (t : Result Solution Refusal) → solution s ≡ t → Is (solved_by s t)
  late wf (Ok t) h = settle_solved s area wf h (answer_length_of (bounds_of s)) refl _ refl
  late wf (Err e) h = settle_unsolved s area wf h

  settled_by : (o : Result (Unit {0}) Refusal) → outcome_of s (length area) ≡ o → Is (tested s o)
  settled_by (Ok _) h = late h _ refl
  settled_by (Err e) h = settle_early s area (ap (λ o. parsed_with o s) h)

  -- what the definition gives is what a call settles, whatever the area holds
  pub result_settled : (room : ℕ) → length area ≡ room → Settled s area (result_of s room).report (overwritten (result_of s room).bytes area)
  unfolding result_of
  result_settled room e = subst (λ n. Is (result_of s n)) e (settled_by (outcome_of s (length area)) refl)
