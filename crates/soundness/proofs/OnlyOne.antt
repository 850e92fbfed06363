-- Of a well-formed job two reduced vectors within the bounds are the same, or leave many rows wrong; so it has at most one answer.
use lib.ListN.{get_or}
use mathlib.Core.Path.{◌≡◌, sym, ◌∙◌, ap}
use mathlib.Core.Logic.{◌⊎◌, inl, inr}
use mathlib.Core.List.{List}
use Prim.Native.Nat.{ℕ, ◌+◌, ◌≤◌}
use native.Mathlib.Nat.{mod-eq_of_lt}
use native.Mathlib.Omega.{arith}
use Rattle.method.proofs.Problem.{Evaluation, Ample, ample_fits, speaking_below, wrong_count as methodWrongCount}
use Rattle.method.proofs.Vectors.{SameVector}
use Rattle.method.proofs.Uniqueness as method
use Rattle.reciprocal.proofs.PrimeField.{equal_residue}
use Rattle.format.specs.declared.Bounds.{Bounds}
use Rattle.format.specs.Bounds.{prime_of}
use Rattle.poly.specs.Coefficients.{Bounded}
use Rattle.poly_meaning.proofs.Series.{series_at}
use Rattle.header.specs.Header.{df_of, bounds_of}
use Rattle.header_rules.proofs.Rules.{bound_within_df}
use Rattle.marked_rows.specs.Marks.{speaking_count}
use Rattle.marked_rows.specs.Table.{job_points, job_weights, job_values}
use Rattle.job.proofs.Facts.{WellFormedFacts}
use Rattle.problem.specs.Reduced.{Reduced, Same}
use Rattle.problem.specs.Answers.{wrong_count, Within, Answer}
use Rattle.soundness.proofs.Tables.{P, R, F, poly, evaluation, problem, ample, capacity}
use Rattle.soundness.proofs.AnswerMeaning.{usable, count_means, vector_means}

module _ (s : List ℕ) (f : ℕ → List ℕ) (g : List ℕ) (f' : ℕ → List ℕ) (g' : List ℕ) where
  abbrev b : Bounds
  b = bounds_of s

  -- the same vector in the method's terms
  abbrev SameSeries : Type 0
  SameSeries = SameVector (F b) b.outputs (λ i. poly b (f i)) (poly b g) (λ i. poly b (f' i)) (poly b g')

  -- lists within the bounds that are the same polynomial have the same coefficients
  same_means : Within b f g → Within b f' g' → SameSeries → Same b.outputs f g f' g'
  same_means within within' both = record {
    denominator = λ k. equal g g' within.denominator within'.denominator both.0 k;
    numerators = λ i l k. equal (f i) (f' i) (within.numerators i l) (within'.numerators i l) (both.1 i l) k;
  }
    where
      equal : {n : ℕ} (x y : List ℕ) → Bounded (prime_of b) n x → Bounded (prime_of b) n y → poly b x ≡ poly b y → (k : ℕ) → get_or x k 0 ≡ get_or y k 0
      equal x y bx by e k =
          sym (mod-eq_of_lt (bx.residues k))
          ∙ equal_residue (prime_of b) (P b) _ _ (sym (series_at (prime_of b) (P b) x k) ∙ ap (λ t. t k) e ∙ series_at (prime_of b) (P b) y k)
          ∙ mod-eq_of_lt (by.residues k)

  -- the same, or the rows that speak number at most df + dg and the wrong rows of both
  abbrev pub SameOrFew : Type 0
  SameOrFew = Same (bounds_of s).outputs f g f' g' ⊎ (speaking_count s ≤ df_of s + (bounds_of s).dg + wrong_count s f g + wrong_count s f' g')

-- so it is of reduced vectors within the bounds
pub same_or_few : (s : List ℕ) {area : ℕ} (W : WellFormedFacts s area) {f f' : ℕ → List ℕ} {g g' : List ℕ}
    → Within (bounds_of s) f g → Reduced (prime_of (bounds_of s)) (bounds_of s).outputs f g
    → Within (bounds_of s) f' g' → Reduced (prime_of (bounds_of s)) (bounds_of s).outputs f' g' → SameOrFew s f g f' g'
same_or_few s W {f} {f'} {g} {g'} within reduced within' reduced' =
    by
    (method.same_or_few (F (bounds_of s)) (vector_means s W within reduced) (vector_means s W within' reduced')
    (ample_fits (F (bounds_of s)) 32 _ enough (capacity (bounds_of s) _ _ _ _ (usable s W)))
    row (bounds_of s).rows enough.distinct enough.clear (df_of s) (λ i l. bound_within_df s W.rules i))
  where
    row : ℕ → Evaluation (R (bounds_of s))
    row = evaluation (bounds_of s) (job_points s) (job_weights s) (job_values s)

    enough : Ample (F (bounds_of s)) (problem (bounds_of s) (job_points s) (job_weights s) (job_values s))
    enough = ample (bounds_of s) (speaking_count s) (job_points s) (job_weights s) (job_values s) (usable s W)

    wrong : (ℕ → List ℕ) → List ℕ → ℕ
    wrong h k = methodWrongCount (F (bounds_of s)) 32 (bounds_of s).outputs (λ i. poly (bounds_of s) (h i)) (poly (bounds_of s) k) row (bounds_of s).rows

    by : SameSeries s f g f' g' ⊎ (speaking_below (F (bounds_of s)) (bounds_of s).outputs row (bounds_of s).rows ≤ df_of s + (bounds_of s).dg + wrong f g + wrong f' g')
        → SameOrFew s f g f' g'
    by (inl same) = inl (same_means s f g f' g' within within' same)
    by (inr few) =
        let all = (bounds_of s).rows in
        inr (omega (arith, few, (usable s W).speaking, count_means s W within all (omega arith), count_means s W within' all (omega arith)))

-- two answers are the same, as there are rows enough that speak
pub at_most_one : (s : List ℕ) {area : ℕ} (W : WellFormedFacts s area) {f f' : ℕ → List ℕ} {g g' : List ℕ} → Answer s f g → Answer s f' g'
    → Same (bounds_of s).outputs f g f' g'
at_most_one s W {f} {f'} {g} {g'} a a' = by (same_or_few s W a.within a.reduced a'.within a'.reduced)
  where
    by : SameOrFew s f g f' g' → Same (bounds_of s).outputs f g f' g'
    by (inl same) = same
    by (inr few) = absurd (omega (arith, W.enough_speaking, a.few_wrong, a'.few_wrong, few))
