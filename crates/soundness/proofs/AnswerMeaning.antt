-- An answer of a job, said of lists of numbers, is an answer of the method's problem for the job's rows.
use lib.ListN.{get_or}
use mathlib.Core.Path.{◌≡◌, refl, sym, ◌∙◌, ap, subst}
use mathlib.Core.Bool.{Bool, true, false, cond}
use mathlib.Core.List.{List}
use Prim.Native.Nat.{ℕ, zero, suc, ◌+◌, ◌*◌, ◌%◌, ◌≤◌, ◌<◌}
use native.Mathlib.Nat.{mod-eq_of_lt, mod-lt}
use native.Mathlib.Decide.{dec_lt}
use native.Mathlib.Omega.{arith}
use lib.Dec.{ltb}
use borrow.Author.Tests.{le-ltb}
use Rattle.lists.proofs.Truth.{clash}
use Rattle.algebra.proofs.Series.{Series}
use Rattle.algebra.proofs.Value.{value}
use Rattle.method.proofs.Vectors.{ReducedVector}
use Rattle.method.proofs.Problem.{Answer as MethodAnswer, Right, Silent as SilentRow, speaking_below, speaking_below-zero, speaking_below-silent, speaking_below-speaks, wrong_count as methodWrongCount, wrong_count-zero, wrong_count-right, wrong_count_wrong, Evaluation}
use Rattle.reciprocal.proofs.PrimeField.{Residue, residue, residue-mul, equal_residue}
use Rattle.format.specs.Bounds.{prime_of, numerator_bound_of, EnoughRows}
use Rattle.poly.specs.Operations.{value_of}
use Rattle.lists.proofs.Tabulated.{at_past, at_tabulate, length-tabulate}
use Rattle.poly.proofs.Values.{value_below}
use Rattle.poly_meaning.proofs.Series.{series_at, series_below, residue-mod, residue-zero, value_means_bounded}
use Rattle.header.specs.Header.{bounds_of}
use Rattle.rows.specs.Rows.{job_point, job_value}
use Rattle.std.specs.Prelude.{Option, Some, None}
use Rattle.marked_rows.specs.declared.Mark.{Mark}
use Rattle.marked_rows.specs.declared.Mark.TheVariants.{Pole, Silent}
use Rattle.marked_rows.specs.Marks.{mark_at, speaking, speaks, speaking_count}
use Rattle.marked_rows.specs.Table.{weight_of, right_side_of, job_points, job_weights, job_values}
use Rattle.marked_rows.proofs.Entries.{points_at, weights_at, values_at}
use Rattle.job.proofs.Facts.{WellFormedFacts, each_enough, each_speaking}
use Rattle.wrong_rows.proofs.JobRows.{conditions_met, met_conditions, same_wrong}
use Rattle.lists.specs.Counting.{one_if, count_below}
use Rattle.problem.specs.Reduced.{Reduced}
use Rattle.problem.specs.Answers.{wrong_at, Within, Answer}
use Rattle.soundness.proofs.Tables.{P, R, F, poly, evaluation, problem, Usable}
use Rattle.poly_meaning.proofs.Coprime.{coprime_means, means_coprime}

module _ (s : List ℕ) {area : ℕ} (W : WellFormedFacts s area) where
  abbrev p : ℕ
  p = prime_of (bounds_of s)

  abbrev ρ : ℕ → Residue p (P (bounds_of s))
  ρ = residue p (P (bounds_of s))

  positive : 0 < p
  positive = let two = (P (bounds_of s)).two in omega arith

  -- the array of points holds residues, and 0 at places that are no rows
  pub points_below : (r : ℕ) → get_or (job_points s) r 0 < prime_of (bounds_of s)
  unfolding job_points
  points_below r = by (dec_lt r 32) (dec_lt r (bounds_of s).rows)
    where
      by : Dec (r < 32) → Dec (r < (bounds_of s).rows) → get_or (job_points s) r 0 < prime_of (bounds_of s)
      by (no large) d =
          let e = at_past (job_points s) r (let n = length-tabulate 32 (λ r. cond (ltb r (bounds_of s).rows) (job_point s r) 0) in omega arith) in
          let h = positive in
          omega arith
      by (yes small) (yes is_row) = subst (λ t. t < prime_of (bounds_of s)) (sym (points_at s r is_row)) (W.points_in_range r is_row)
      by (yes small) (no none) =
          let past : (bounds_of s).rows ≤ r = omega arith in
          let e : get_or (job_points s) r 0 ≡ 0 = at_tabulate 32 _ r small ∙ rw (le-ltb r (bounds_of s).rows past) in
          let h = positive in
          omega arith

  pub weights_below : (r : ℕ) → get_or (job_weights s) r 0 < 2
  unfolding job_weights
  weights_below r = by (dec_lt r 32) (dec_lt r (bounds_of s).rows)
    where
      low : (m : Option Mark) → weight_of m < 2
      low None = omega arith
      low (Some Pole) = omega arith
      low (Some Silent) = omega arith

      by : Dec (r < 32) → Dec (r < (bounds_of s).rows) → get_or (job_weights s) r 0 < 2
      by (no large) d =
          let e = at_past (job_weights s) r (let n = length-tabulate 32 (λ r. cond (ltb r (bounds_of s).rows) (weight_of (mark_at s r)) 0) in omega arith) in
          omega arith
      by (yes small) (yes is_row) = subst (λ t. t < 2) (sym (weights_at s r is_row)) (low (mark_at s r))
      by (yes small) (no none) =
          let past : (bounds_of s).rows ≤ r = omega arith in
          let e : get_or (job_weights s) r 0 ≡ 0 = at_tabulate 32 _ r small ∙ rw (le-ltb r (bounds_of s).rows past) in
          omega arith

  pub enough_rows : EnoughRows (bounds_of s)
  enough_rows = record {
    outputs = W.fields.outputs_most;
    rows = W.fields.rows_most;
    enough = each_enough W;
  }

  -- the rows, as the code holds them
  abbrev pub row : ℕ → Evaluation (R (bounds_of s))
  row = evaluation (bounds_of s) (job_points s) (job_weights s) (job_values s)

  -- which of them are silent
  module _ (r : ℕ) (lr : r < (bounds_of s).rows) where
    weight_is : (m : Option Mark) → mark_at s r ≡ m → (row r).weight ≡ ρ (weight_of m)
    weight_is m e = ap ρ (weights_at s r lr ∙ ap weight_of e)

    value_is : (m : Option Mark) → mark_at s r ≡ m → (i : ℕ) → i < (bounds_of s).outputs → (row r).values i ≡ ρ (right_side_of m (job_value s r i))
    value_is m e i li = ap ρ (values_at s r i lr li ∙ ap (λ m. right_side_of m (job_value s r i)) e)

    silent_means : mark_at s r ≡ Some Silent → SilentRow (F (bounds_of s)) (bounds_of s).outputs (row r)
    silent_means e = (weight_is (Some Silent) e, λ i li. value_is (Some Silent) e i li)

    -- a row with one condition that asks nothing is silent
    silent_if : (i : ℕ) → i < (bounds_of s).outputs → (row r).weight ≡ ρ 0 → (row r).values i ≡ ρ 0 → mark_at s r ≡ Some Silent
    silent_if i li weight value = by (mark_at s r) refl
      where
        by : (m : Option Mark) → mark_at s r ≡ m → m ≡ Some Silent
        by None e = absurd ((F (bounds_of s)).one≢null (sym (weight_is None e) ∙ weight))
        by (Some Pole) e = absurd ((F (bounds_of s)).one≢null (sym (value_is (Some Pole) e i li) ∙ value))
        by (Some Silent) e = refl

  speaking_means : (L : ℕ) → L ≤ (bounds_of s).rows → speaking_below (F (bounds_of s)) (bounds_of s).outputs row L ≡ count_below L (speaks s)
  unfolding count_below
  speaking_means zero l = speaking_below-zero (F (bounds_of s)) (bounds_of s).outputs row
  speaking_means (suc r) l = by (mark_at s r) refl (speaking_means r (omega arith))
    where
      first : 0 < (bounds_of s).outputs
      first = let n = W.fields.outputs_least in omega arith

      loud : {m : Option Mark} → mark_at s r ≡ m → (m ≡ Some Silent → ⊥) → SilentRow (F (bounds_of s)) (bounds_of s).outputs (row r) → ⊥
      loud e other silent = other (sym e ∙ silent_if r l 0 first silent.0 (silent.1 0 first))

      by : (m : Option Mark) → mark_at s r ≡ m → speaking_below (F (bounds_of s)) (bounds_of s).outputs row r ≡ count_below r (speaks s)
          → speaking_below (F (bounds_of s)) (bounds_of s).outputs row (suc r) ≡ count_below r (speaks s) + one_if (speaking m)
      by None e same = let more = speaking_below-speaks (F (bounds_of s)) (bounds_of s).outputs row r (loud e (λ h. clash cc)) in omega arith
      by (Some Pole) e same = let more = speaking_below-speaks (F (bounds_of s)) (bounds_of s).outputs row r (loud e (λ h. clash cc)) in omega arith
      by (Some Silent) e same = let more = speaking_below-silent (F (bounds_of s)) (bounds_of s).outputs row r (silent_means r l e) in omega arith

  pub usable : Usable (bounds_of s) (speaking_count s) (job_points s) (job_weights s) (job_values s)
  unfolding speaking_count
  usable = record {
    enough_rows = enough_rows;
    points_below = points_below;
    weights_below = weights_below;
    distinct = λ i j l l' e.
        (let same = W.distinct i j (omega arith) l' (sym (points_at s i (omega arith)) ∙ e ∙ points_at s j l') in omega arith);
    clear = λ r lr i li weight value. silent_means r lr (silent_if r lr i li weight value);
    speaking = speaking_means (bounds_of s).rows (omega arith);
    enough = each_speaking W;
  }

  module _ {f : ℕ → List ℕ} {g : List ℕ} (within : Within (bounds_of s) f g) where
    abbrev pub fs : ℕ → Series (R (bounds_of s))
    fs i = poly (bounds_of s) (f i)

    abbrev pub gs : Series (R (bounds_of s))
    gs = poly (bounds_of s) g

    value-f : (i : ℕ) → i < (bounds_of s).outputs → (x : ℕ) → ρ (value_of p x (f i)) ≡ value (R (bounds_of s)) 32 (fs i) (ρ x)
    value-f i li x = value_means_bounded p (P (bounds_of s)) 32 x (within.numerators i li) (let n = each_enough W i in let l = W.fields.rows_most in omega arith)

    pub value-g : (x : ℕ) → ρ (value_of p x g) ≡ value (R (bounds_of s)) 32 gs (ρ x)
    value-g x = value_means_bounded p (P (bounds_of s)) 32 x within.denominator (let n = W.fields.dg_most in omega arith)

    -- the two sides of a row's condition
    left_side : (i : ℕ) → i < (bounds_of s).outputs → (c x : ℕ) → ρ (c * value_of p x (f i)) ≡ (R (bounds_of s)).mul (ρ c) (value (R (bounds_of s)) 32 (fs i) (ρ x))
    left_side i li c x = sym (residue-mul p (P (bounds_of s)) c _) ∙ ap ((R (bounds_of s)).mul (ρ c)) (value-f i li x)

    right_side : (x y : ℕ) → ρ (value_of p x g * y % p) ≡ (R (bounds_of s)).mul (value (R (bounds_of s)) 32 gs (ρ x)) (ρ y)
    right_side x y = residue-mod p (P (bounds_of s)) _ ∙ sym (residue-mul p (P (bounds_of s)) _ y) ∙ ap (λ t. (R (bounds_of s)).mul t (ρ y)) (value-g x)

    pub right_means : (r : ℕ) → r < (bounds_of s).rows → wrong_at s f g r ≡ false → Right (F (bounds_of s)) 32 (bounds_of s).outputs fs gs (row r)
    right_means r lr e i li =
        sym (left_side i li (get_or (job_weights s) r 0) (get_or (job_points s) r 0))
        ∙ ap ρ (conditions_met p (get_or (job_weights s) r 0) (get_or (job_points s) r 0) (λ i. get_or (job_values s) (r * 4 + i) 0) f g (bounds_of s).outputs (same_wrong s f g r lr ∙ e) i li)
        ∙ right_side (get_or (job_points s) r 0) (get_or (job_values s) (r * 4 + i) 0)

    means_right : (r : ℕ) → r < (bounds_of s).rows → Right (F (bounds_of s)) 32 (bounds_of s).outputs fs gs (row r) → wrong_at s f g r ≡ false
    means_right r lr h =
        sym (same_wrong s f g r lr)
        ∙ met_conditions p (get_or (job_weights s) r 0) (get_or (job_points s) r 0) (λ i. get_or (job_values s) (r * 4 + i) 0) f g (bounds_of s).outputs equal
      where
        small : (c v : ℕ) → c < 2 → v < p → c * v < p
        small zero v l lv = omega arith
        small (suc zero) v l lv = omega arith
        small (suc (suc c)) v l lv = absurd (omega arith)

        equal : (i : ℕ) → i < (bounds_of s).outputs
            → get_or (job_weights s) r 0 * value_of p (get_or (job_points s) r 0) (f i) ≡ value_of p (get_or (job_points s) r 0) g * get_or (job_values s) (r * 4 + i) 0 % p
        equal i li =
            sym (mod-eq_of_lt (small _ _ (weights_below r) (value_below p (get_or (job_points s) r 0) (f i) positive)))
            ∙ equal_residue p (P (bounds_of s)) _ _
            (left_side i li (get_or (job_weights s) r 0) (get_or (job_points s) r 0) ∙ h i li ∙ sym (right_side (get_or (job_points s) r 0) (get_or (job_values s) (r * 4 + i) 0)))
            ∙ mod-eq_of_lt (mod-lt _ positive)

    pub count_means : (L : ℕ) → L ≤ (bounds_of s).rows
        → count_below L (wrong_at s f g) ≡ methodWrongCount (F (bounds_of s)) 32 (bounds_of s).outputs fs gs row L
    unfolding count_below
    count_means zero l = sym (wrong_count-zero (F (bounds_of s)) 32 (bounds_of s).outputs fs gs row)
    count_means (suc r) l = by (wrong_at s f g r) refl (count_means r (omega arith))
      where
        by : (w : Bool) → wrong_at s f g r ≡ w
            → count_below r (wrong_at s f g) ≡ methodWrongCount (F (bounds_of s)) 32 (bounds_of s).outputs fs gs row r
            → count_below r (wrong_at s f g) + one_if w ≡ methodWrongCount (F (bounds_of s)) 32 (bounds_of s).outputs fs gs row (suc r)
        by false e same =
            let right = wrong_count-right (F (bounds_of s)) 32 (bounds_of s).outputs fs gs row r (right_means r l e) in
            omega arith
        by true e same =
            let wrong = wrong_count_wrong (F (bounds_of s)) 32 (bounds_of s).outputs fs gs row r
            (λ ok. clash (sym e ∙ means_right r l ok)) in
            omega arith

  -- a reduced vector within the bounds, and an answer
  pub vector_means : {f : ℕ → List ℕ} {g : List ℕ} → Within (bounds_of s) f g → Reduced (prime_of (bounds_of s)) (bounds_of s).outputs f g
      → ReducedVector (F (bounds_of s)) (bounds_of s).outputs (numerator_bound_of (bounds_of s)) (bounds_of s).dg (λ i. poly (bounds_of s) (f i)) (poly (bounds_of s) g)
  vector_means {f} {g} within reduced = record {
    numerators_below = λ i li k l. series_below p (P (bounds_of s)) (within.numerators i li) k (omega arith);
    denominator_below = λ k l. series_below p (P (bounds_of s)) within.denominator k (omega arith);
    degree = reduced.monic.degree;
    monic = record {
      top = series_at p (P (bounds_of s)) g _ ∙ ap ρ reduced.monic.leading;
      low = λ k l. series_at p (P (bounds_of s)) g k ∙ ap ρ (reduced.monic.above k (omega arith));
    };
    reduced = coprime_means p (P (bounds_of s)) (bounds_of s).outputs f g reduced.coprime;
  }

  pub answer_means : {f : ℕ → List ℕ} {g : List ℕ} → Answer s f g
      → MethodAnswer (F (bounds_of s)) 32 (problem (bounds_of s) (job_points s) (job_weights s) (job_values s)) (λ i. poly (bounds_of s) (f i)) (poly (bounds_of s) g)
  answer_means a = record {
    vector = vector_means a.within a.reduced;
    few_wrong = (let e = count_means a.within (bounds_of s).rows (omega arith) in let h = a.few_wrong in omega arith);
  }

  pub means_answer : {f : ℕ → List ℕ} {g : List ℕ} → Within (bounds_of s) f g
      → MethodAnswer (F (bounds_of s)) 32 (problem (bounds_of s) (job_points s) (job_weights s) (job_values s)) (λ i. poly (bounds_of s) (f i)) (poly (bounds_of s) g)
      → Answer s f g
  means_answer {f} {g} within a = record {
    within = within;
    reduced = record {
      monic = record {
        degree = a.vector.degree;
        leading = leading;
        above = λ k l. residue-zero p (P (bounds_of s)) (get_or g k 0) (within.denominator.residues k) (sym (series_at p (P (bounds_of s)) g k) ∙ a.vector.monic.low k (omega arith));
      };
      coprime = means_coprime p (P (bounds_of s)) (bounds_of s).outputs f g a.vector.reduced;
    };
    few_wrong = (let e = count_means within (bounds_of s).rows (omega arith) in let h = a.few_wrong in omega arith);
  }
    where
      leading : get_or g a.vector.degree 0 ≡ 1
      leading =
          let two = (P (bounds_of s)).two in
          sym (mod-eq_of_lt (within.denominator.residues a.vector.degree))
          ∙ equal_residue p (P (bounds_of s)) _ 1 (sym (series_at p (P (bounds_of s)) g a.vector.degree) ∙ a.vector.monic.top) ∙ mod-eq_of_lt (omega arith)
