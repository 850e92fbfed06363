-- What the vector after the last output says of a well-formed job.
use mathlib.Core.Path.{◌≡◌}
use mathlib.Core.List.{List}
use Prim.Native.Nat.{ℕ, ◌≤◌, ◌<◌}
use native.Mathlib.Omega.{arith}
use Rattle.std.specs.Prelude.{Option, Some, None}
use Rattle.method.proofs.Problem.{None as Unanswered}
use Rattle.method.proofs.LastTest.{candidate_is_answer, none_if_many_wrong}
use Rattle.header.specs.Header.{bounds_of}
use Rattle.lists.proofs.Counting.{count_most}
use Rattle.marked_rows.specs.Marks.{speaks, speaking_count}
use Rattle.marked_rows.specs.Table.{job_points, job_weights, job_values}
use Rattle.job.proofs.Facts.{WellFormedFacts, each_speaking}
use Rattle.poly.specs.declared.Vector.{Vector}
use Rattle.candidate.specs.Extensions.{numerator_at}
use Rattle.candidate.specs.Candidates.{RowsInRange, candidate_after}
use Rattle.problem.specs.Answers.{wrong_count, Within, Answer, Unsolvable}
use Rattle.soundness.proofs.Tables.{F, problem}
use Rattle.soundness.proofs.AnswerMeaning.{points_below, weights_below, usable, answer_means, means_answer, count_means}
use Rattle.soundness.proofs.Candidates.{Good, Verdict}
use Rattle.soundness.proofs.Decided.{decided}

module _ (s : List ℕ) {area : ℕ} (W : WellFormedFacts s area) where
  pub rows_in_range : RowsInRange (bounds_of s) (speaking_count s) (job_points s) (job_weights s)
  unfolding speaking_count
  rows_in_range = record {
    points_below = points_below s W;
    weights_below = weights_below s W;
    speaking_enough = omega (arith, each_speaking W 0);
    speaking_most = count_most (bounds_of s).rows (speaks s);
  }

  -- what the code holds after the last output
  abbrev pub last : Option Vector
  last = candidate_after (bounds_of s) (speaking_count s) (job_points s) (job_weights s) (job_values s) (bounds_of s).outputs

  verdict : Verdict (bounds_of s) (speaking_count s) (job_points s) (job_weights s) (job_values s) (usable s W) (bounds_of s).outputs last
  verdict = decided (bounds_of s) (speaking_count s) (job_points s) (job_weights s) (job_values s) (usable s W) (bounds_of s).outputs (omega arith)

  none_unsolvable : Unanswered (F (bounds_of s)) 32 (problem (bounds_of s) (job_points s) (job_weights s) (job_values s)) → Unsolvable s
  none_unsolvable none f g a = none _ _ (answer_means s W a)

  -- no vector: there is no answer
  pub unsolvable_early : last ≡ None → Unsolvable s
  unsolvable_early e = none_unsolvable (rw e at verdict)

  module _ {v : Vector} (e : last ≡ Some v) where
    good : Good (bounds_of s) (speaking_count s) (job_points s) (job_weights s) (job_values s) (usable s W) (bounds_of s).outputs v
    good = rw e at verdict

    within : Within (bounds_of s) (numerator_at v) v.g.c
    within = record { numerators = λ i li. good.fitting.numerators i; denominator = good.fitting.denominator }

    -- a vector with few wrong rows is the answer
    pub solved : wrong_count s (numerator_at v) v.g.c ≤ (bounds_of s).errors → Answer s (numerator_at v) v.g.c
    solved few =
        let count = count_means s W within (bounds_of s).rows (omega arith) in
        means_answer s W within (candidate_is_answer (F (bounds_of s)) 32 _ good.candidate (omega arith))

    -- one with too many wrong rows: there is no answer
    pub unsolvable_late : (bounds_of s).errors < wrong_count s (numerator_at v) v.g.c → Unsolvable s
    unsolvable_late many =
        let count = count_means s W within (bounds_of s).rows (omega arith) in
        none_unsolvable (none_if_many_wrong (F (bounds_of s)) 32 _ good.candidate (omega arith))
