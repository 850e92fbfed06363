-- From the reader's and the solver's results to what a call settles.
use mathlib.Core.Path.{◌≡◌, refl, sym, ◌∙◌, ap, ap₂, subst}
use mathlib.Core.Logic.{◌⊎◌, inl, inr, ◌↔◌}
use mathlib.Core.List.{List}
use Prim.Native.Nat.{ℕ, ◌<◌}
use native.Mathlib.Decide.{dec_lt}
use native.Mathlib.Omega.{arith}
use lib.ListN.{length}
use Rattle.std.specs.Prelude.{Option, Some, None, Result, Ok, Err}
use Rattle.std.specs.Result.{MatchResult}
use Rattle.std.proofs.lemmas.Result.{MatchResult-at_ok, MatchResult-at_err}
use Rattle.format.specs.declared.Refusal.{Refusal}
use Rattle.format.specs.declared.Report.{Report}
use Rattle.format.specs.Outcomes.{recovered_report, refused_report, refusal_report, check_report_of, report_of}
use Rattle.format.specs.Bounds.{answer_length_of}
use Rattle.poly.specs.declared.Vector.{Vector}
use Rattle.poly.specs.Vectors.{coefficients_at}
use Rattle.candidate.specs.Extensions.{numerator_at}
use Rattle.header.specs.Header.{bounds_of}
use Rattle.marked_rows.specs.Marks.{speaking_count}
use Rattle.marked_rows.specs.Table.{job_points, job_weights, job_values}
use Rattle.job.specs.Refusals.{outcome_of, WellFormed}
use Rattle.job.specs.ParsedJob.{parsed_job_of}
use Rattle.job.proofs.Facts.{WellFormedFacts, well_formed_facts, refused_not_accepted}
use Rattle.job.proofs.Numbers.{Early, outcome_early}
use Rattle.job.proofs.Laws.{parsed_refused}
use Rattle.row_mask.specs.Word.{wrong_count_of}
use Rattle.answer.specs.Bytes.{answer_bytes}
use Rattle.lists.specs.Overwriting.{overwritten}
use Rattle.row_mask.proofs.Words.{word_same}
use Rattle.row_mask.proofs.SetBits.{count_of_word}
use Rattle.wrong_rows.proofs.JobRows.{same_wrong}
use Rattle.problem.specs.Answers.{wrong_at, wrong_count, Answer, Unsolvable, word_for}
use Rattle.soundness.proofs.OnlyOne.{at_most_one}
use Rattle.solver.specs.declared.Solution.{Solution}
use Rattle.solver.specs.Solutions.{word_by, counted_solution, judged_solution, solution_for}
use Rattle.solver.proofs.SolutionLaws.{counted_many, counted_few}
use Rattle.recovery.proofs.Settlement.{last, unsolvable_early, unsolvable_late, solved}
use Rattle.recovery.specs.Recovery.{RefusedEarly, Answered, RefusedUnsolvable, Settled}

module _ (s area : List ℕ) where
  -- the report says 8 exactly if the job is well formed and has no answer
  pub settled : {r : Report} {after : List ℕ} → RefusedEarly s area r after ⊎ (Answered s area r after ⊎ RefusedUnsolvable s area r after)
      → Settled s area r after
  settled {r} {after} cases = record { cases = cases; eight = by cases }
    where
      early : RefusedEarly s area r after → Early (outcome_of s (length area)) → r.refusal ≡ 8 → ⊥
      early e (inl accepted) n = e.malformed accepted
      early e (inr number) n = let same = ap (λ t. t.refusal) e.report in let eleven = number.2 (omega arith) in omega (arith, eleven.0)

      by : RefusedEarly s area r after ⊎ (Answered s area r after ⊎ RefusedUnsolvable s area r after)
          → (r.refusal ≡ 8) ↔ (WellFormed s (length area) × Unsolvable s)
      by (inl e) = ((λ n. absurd (early e (outcome_early s (length area)) n)), λ u. absurd (e.malformed u.0))
      by (inr (inl A)) = ((λ n. absurd (let same = ap (λ t. t.refusal) A.report in omega arith)), λ u. absurd (u.1 _ _ A.answer))
      by (inr (inr U)) = ((λ n. (U.well_formed, U.none)), λ u. ap (λ t. t.refusal) U.report)

  -- a call that reports no refusal has answered
  pub answered_if_zero : {r : Report} {after : List ℕ} → Settled s area r after → r.refusal ≡ 0 → Answered s area r after
  answered_if_zero {r} {after} S zero = by S.cases (outcome_early s (length area))
    where
      by : RefusedEarly s area r after ⊎ (Answered s area r after ⊎ RefusedUnsolvable s area r after) → Early (outcome_of s (length area)) → Answered s area r after
      by (inl e) (inl accepted) = absurd (e.malformed accepted)
      by (inl e) (inr number) = absurd (let same = ap (λ t. t.refusal) e.report in omega (arith, number.0))
      by (inr (inl A)) o = A
      by (inr (inr U)) o = absurd (let same = ap (λ t. t.refusal) U.report in omega arith)

  -- a job that a test before 8 refuses
  pub settle_early : {e : Refusal} → parsed_job_of s (length area) ≡ Err e → Settled s area (report_of (Err e)) area
  settle_early h =
      let early = parsed_refused s (length area) h in
      settled (inl (record { malformed = λ wf. refused_not_accepted (sym early ∙ wf); report = ap check_report_of (sym early); untouched = refl }))

  module _ (wf : WellFormed s (length area)) where
    W : WellFormedFacts s (length area)
    W = well_formed_facts s (length area) wf

    -- the solver's word and count are those of its vector
    module _ (v : Vector) where
      word_means : word_by (bounds_of s) (job_points s) (job_weights s) (job_values s) v ≡ word_for s (numerator_at v) v.g.c
      unfolding word_by
      word_means = word_same _ _ _ (same_wrong s (numerator_at v) v.g.c)

      count_means : wrong_count_of (word_by (bounds_of s) (job_points s) (job_weights s) (job_values s) v) ≡ wrong_count s (numerator_at v) v.g.c
      count_means =
          ap wrong_count_of word_means
          ∙ count_of_word (bounds_of s).rows (wrong_at s (numerator_at v) v.g.c) (let n = W.fields.rows_most in omega arith)

    -- what the solver returns: the answer with its word and count, or that there is none
    pub record Solved (x : Solution) : Type 0 where
      pub answer : Answer s (numerator_at x.vector) x.vector.g.c
      pub word : x.word ≡ word_for s (numerator_at x.vector) x.vector.g.c
      pub wrong : x.wrong ≡ wrong_count s (numerator_at x.vector) x.vector.g.c

    pub record Unsolved (e : Refusal) : Type 0 where
      pub report : refusal_report e ≡ refused_report 8 0
      pub none : Unsolvable s

    counted : {v : Vector} → last s W ≡ Some v → Dec ((bounds_of s).errors < wrong_count s (numerator_at v) v.g.c)
        → MatchResult (counted_solution (bounds_of s) (job_points s) (job_weights s) (job_values s) v) Solved Unsolved
    counted {v} e (yes many) =
        subst (λ (r : Result Solution Refusal). MatchResult r Solved Unsolved)
        (counted_many (bounds_of s) (job_points s) (job_weights s) (job_values s) v (omega (arith, count_means v)))
        (record { report = refl; none = unsolvable_late s W e many })
    counted {v} e (no few) =
        subst (λ (r : Result Solution Refusal). MatchResult r Solved Unsolved)
        (counted_few (bounds_of s) (job_points s) (job_weights s) (job_values s) v refl refl (omega (arith, count_means v)))
        (record { answer = solved s W e (omega arith); word = word_means v; wrong = count_means v })

    judged : (o : Option Vector) → last s W ≡ o → MatchResult (judged_solution (bounds_of s) (job_points s) (job_weights s) (job_values s) o) Solved Unsolved
    judged None e = record { report = refl; none = unsolvable_early s W e }
    judged (Some v) e = counted e (dec_lt _ _)

    abbrev solution : Result Solution Refusal
    solution = solution_for (bounds_of s) (speaking_count s) (job_points s) (job_weights s) (job_values s)

    pub settle_unsolved : {e : Refusal} → solution ≡ Err e → Settled s area (report_of (Err e)) area
    settle_unsolved h =
        let u = MatchResult-at_err Solved Unsolved _ h (judged (last s W) refl) in
        settled (inr (inr (record { well_formed = wf; none = u.none; report = u.report; untouched = refl })))

    pub settle_solved : {x : Solution} → solution ≡ Ok x → (bytes : ℕ) → bytes ≡ answer_length_of (bounds_of s) → (after : List ℕ)
        → after ≡ overwritten (answer_bytes (bounds_of s) x.word x.vector.g.c (coefficients_at x.vector.f)) area
        → Settled s area (recovered_report bytes x.wrong) after
    settle_solved {x} h bytes length_is after written =
        let a = MatchResult-at_ok Solved Unsolved x h (judged (last s W) refl) in
        settled (inr (inl (record {
          well_formed = wf;
          f = numerator_at x.vector;
          g = x.vector.g.c;
          answer = a.answer;
          only = λ f' g' a'. at_most_one s W a.answer a';
          report = ap₂ recovered_report length_is a.wrong;
          written = written ∙ ap (λ (w : ℕ). overwritten (answer_bytes (bounds_of s) w x.vector.g.c (coefficients_at x.vector.f)) area) a.word;
        })))
