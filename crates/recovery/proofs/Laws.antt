-- What a call settles is determined, and whether a job has an answer is decided.
use mathlib.Core.Path.{◌≡◌, refl, sym, ◌∙◌, ap}
use mathlib.Core.Logic.{◌⊎◌, inl, inr}
use mathlib.Core.List.{List}
use Prim.Native.Nat.{ℕ, ◌≤◌, ◌<◌}
use native.Mathlib.Decide.{dec_lt}
use native.Mathlib.Omega.{arith}
use lib.ListN.{length}
use Rattle.std.specs.Prelude.{Option, Some, None, Result, Ok}
use Rattle.format.specs.declared.Reason.TheVariants.{SpareBit, TooManyRows, NotReduced}
use Rattle.format.specs.declared.Refusal.{Refusal}
use Rattle.format.specs.declared.Recovered.{Recovered}
use Rattle.format.specs.declared.Report.{Report}
use Rattle.format.specs.Outcomes.{refused, report_of, check_report_of, recovered_report}
use Rattle.format.specs.Bounds.{answer_length_of}
use Rattle.format.proofs.Reports.{outcome_injective}
use Rattle.poly.specs.declared.Vector.{Vector}
use Rattle.candidate.specs.Extensions.{numerator_at}
use Rattle.header.specs.Header.{bounds_of}
use Rattle.job.specs.Refusals.{outcome_of}
use Rattle.job.proofs.Facts.{WellFormedFacts}
use Rattle.job.proofs.Numbers.{Early, outcome_early}
use Rattle.lists.specs.Overwriting.{overwritten}
use Rattle.problem.specs.Answers.{wrong_count, Answer, Unsolvable}
use Rattle.problem.proofs.Same.{wrong_count-same, recovered-same}
use Rattle.recovery.specs.Recovery.{RefusedEarly, Answered, RefusedUnsolvable, Settled}
use Rattle.recovery.proofs.Settlement.{last, unsolvable_early, unsolvable_late, solved}

-- whether an answer exists is decided
pub decided : (s : List ℕ) {area : ℕ} → WellFormedFacts s area → ((f : ℕ → List ℕ) × (g : List ℕ) × Answer s f g) ⊎ Unsolvable s
decided s W = by (last s W) refl
  where
    counted : {v : Vector} → last s W ≡ Some v → Dec ((bounds_of s).errors < wrong_count s (numerator_at v) v.g.c)
        → ((f : ℕ → List ℕ) × (g : List ℕ) × Answer s f g) ⊎ Unsolvable s
    counted e (yes many) = inr (unsolvable_late s W e many)
    counted {v} e (no few) = inl (numerator_at v, v.g.c, solved s W e (omega arith))

    by : (o : Option Vector) → last s W ≡ o → ((f : ℕ → List ℕ) × (g : List ℕ) × Answer s f g) ⊎ Unsolvable s
    by None e = inr (unsolvable_early s W e)
    by (Some v) e = counted e (dec_lt _ _)

module _ (s area : List ℕ) {r r' : Report} {after after' : List ℕ} where
  same_answer : Answered s area r after → Answered s area r' after' → (r ≡ r') × (after ≡ after')
  same_answer A A' =
      let same = A.only A'.f A'.g A'.answer in (
        A.report ∙ ap (recovered_report (answer_length_of (bounds_of s))) (wrong_count-same s same) ∙ sym A'.report,
        A.written ∙ ap (λ t. overwritten t area) (recovered-same s same) ∙ sym A'.written,
      )

  -- what is reported and every byte of the area are determined by the job and the area before
  pub settled_unique : Settled s area r after → Settled s area r' after' → (r ≡ r') × (after ≡ after')
  settled_unique S S' = by S.cases S'.cases
    where
      by : RefusedEarly s area r after ⊎ (Answered s area r after ⊎ RefusedUnsolvable s area r after)
          → RefusedEarly s area r' after' ⊎ (Answered s area r' after' ⊎ RefusedUnsolvable s area r' after') → (r ≡ r') × (after ≡ after')
      by (inl e) (inl e') = (e.report ∙ sym e'.report, e.untouched ∙ sym e'.untouched)
      by (inl e) (inr (inl A)) = absurd (e.malformed A.well_formed)
      by (inl e) (inr (inr u)) = absurd (e.malformed u.well_formed)
      by (inr (inl A)) (inl e) = absurd (e.malformed A.well_formed)
      by (inr (inr u)) (inl e) = absurd (e.malformed u.well_formed)
      by (inr (inl A)) (inr (inl A')) = same_answer A A'
      by (inr (inl A)) (inr (inr u)) = absurd (u.none _ _ A.answer)
      by (inr (inr u)) (inr (inl A)) = absurd (u.none _ _ A.answer)
      by (inr (inr u)) (inr (inr u')) = (u.report ∙ sym u'.report, u.untouched ∙ sym u'.untouched)

module _ (s area : List ℕ) where
  -- a report that is settled names a refusal, or bytes that were written
  settled_says : {r : Report} {after : List ℕ} → Settled s area r after → (0 < r.refusal) ⊎ (0 < r.written)
  settled_says {r} {after} S = by S.cases (outcome_early s (length area))
    where
      by : RefusedEarly s area r after ⊎ (Answered s area r after ⊎ RefusedUnsolvable s area r after) → Early (outcome_of s (length area)) → (0 < r.refusal) ⊎ (0 < r.written)
      by (inl e) (inl accepted) = absurd (e.malformed accepted)
      by (inl e) (inr number) = inl (let same = ap (λ t. t.refusal) e.report in omega (arith, number.0))
      by (inr (inl A)) o = inr (let same = ap (λ t. t.written) A.report in omega arith)
      by (inr (inr u)) o = inl (let same = ap (λ t. t.refusal) u.report in omega arith)

  -- its refusals are those of paper 01's table, numbered up to 8, but for 2, and paper 02's 11 and 12
  pub refusals_given : {r : Report} {after : List ℕ} → Settled s area r after → (r.refusal ≡ 2 → ⊥) × (8 < r.refusal → (11 ≤ r.refusal) × (r.refusal ≤ 12))
  refusals_given {r} {after} S = by S.cases (outcome_early s (length area))
    where
      by : RefusedEarly s area r after ⊎ (Answered s area r after ⊎ RefusedUnsolvable s area r after) → Early (outcome_of s (length area))
          → (r.refusal ≡ 2 → ⊥) × (8 < r.refusal → (11 ≤ r.refusal) × (r.refusal ≤ 12))
      by (inl e) (inl accepted) = absurd (e.malformed accepted)
      by (inl e) (inr number) =
          let same = ap (λ t. t.refusal) e.report in
          (λ two. number.1 (sym same ∙ two), λ high. omega (arith, number.2 (omega arith)))
      by (inr (inl A)) o = let same = ap (λ t. t.refusal) A.report in (λ two. omega arith, λ high. absurd (omega arith))
      by (inr (inr u)) o = let same = ap (λ t. t.refusal) u.report in (λ two. omega arith, λ high. absurd (omega arith))

  -- so `recover` never returns SpareBit, which is 2, and TooManyRows or NotReduced, which are paper 02's 9 and 10
  pub never_2 : (row : ℕ) {after : List ℕ} → Settled s area (report_of (refused SpareBit row)) after → ⊥
  never_2 row S = (refusals_given S).0 refl

  pub never_later : (row : ℕ) {after : List ℕ} → (Settled s area (report_of (refused TooManyRows row)) after → ⊥) × (Settled s area (report_of (refused NotReduced row)) after → ⊥)
  never_later row = (λ S. omega (arith, ((refusals_given S).1 (omega arith)).0), λ S. omega (arith, ((refusals_given S).1 (omega arith)).0))

  -- nor what a check says of a job that passes, a recovery of no bytes
  pub never_accepted : {after : List ℕ} → Settled s area (check_report_of (Ok tt)) after → ⊥
  never_accepted S = by (settled_says S)
    where
      by : (0 < (check_report_of (Ok tt)).refusal) ⊎ (0 < (check_report_of (Ok tt)).written) → ⊥
      by (inl l) = omega arith
      by (inr l) = omega arith

  -- and what `recover` returns is determined
  pub outcome_unique : {r r' : Result Recovered Refusal} {after after' : List ℕ} → Settled s area (report_of r) after → Settled s area (report_of r') after' → r ≡ r'
  outcome_unique {r} {r'} S S' = outcome_injective r r' (settled_unique s area S S').0
