-- The rows of a job, in the arrays that hold them.
use mathlib.Core.Path.{◌≡◌, refl, sym, ◌∙◌, ap, ap₂, subst}
use mathlib.Core.Bool.{Bool, true, false, cond, not}
use mathlib.Core.List.{List}
use Prim.Native.Nat.{ℕ, zero, suc, ◌+◌, ◌-◌, ◌*◌, ◌%◌, ◌<◌}
use native.Mathlib.Nat.{mod-eq_of_lt, zero-mul, mul-one, mul-zero, zero-mod}
use native.Mathlib.Omega.{arith}
use native.Mathlib.Decide.{ℕ_discrete}
use borrow.Author.Tests.{eqb-true, eq-eqb, ne_eqb, not-false}
use lib.Dec.{eqb}
use lib.ListN.{get_or}
use Rattle.field.proofs.Moduli.{modulus_prime}
use Rattle.format.specs.declared.Bounds.{Bounds}
use Rattle.format.specs.Bounds.{prime_of}
use Rattle.poly.specs.Operations.{value_of}
use Rattle.poly.proofs.Values.{value_below}
use Rattle.std.specs.Prelude.{Option, Some, None}
use Rattle.lists.specs.Search.{first_below, any_below, or_else, if_holds, is_found}
use Rattle.lists.proofs.FirstBelow.{any_passes, none_below, first_cong}
use Rattle.header.specs.Header.{bounds_of}
use Rattle.header.proofs.Fields.{fits_fields}
use Rattle.rows.specs.Rows.{job_point, job_value}
use Rattle.marked_rows.specs.declared.Mark.{Mark}
use Rattle.marked_rows.specs.declared.Mark.TheVariants.{Pole, Silent}
use Rattle.marked_rows.specs.Marks.{mark_at}
use Rattle.marked_rows.specs.Table.{weight_of, right_side_of, job_points, job_weights, job_values}
use Rattle.marked_rows.proofs.Entries.{points_at, weights_at, values_at}
use Rattle.problem.specs.Rows.{wrong_row, verdict_of, is_wrong}
use Rattle.problem.specs.Reduced.{Same}
use Rattle.problem.specs.Answers.{wrong_at}
use Rattle.problem.proofs.Values.{value_same}
use Rattle.problem.proofs.Rows.{unmarked_verdict, pole_verdict}
use Rattle.wrong_rows.specs.Rows.{meets_output, fails_row, wrong_row_at}

zero_first : (v : ℕ) → eqb 0 v ≡ eqb v 0
zero_first v = by (ℕ_discrete v 0)
  where
    by : Dec (v ≡ 0) → eqb 0 v ≡ eqb v 0
    by (yes e) = rw e refl
    by (no ne) = ne_eqb 0 v (λ e. ne (sym e)) ∙ sym (ne_eqb v 0 ne)

module _ (p c x : ℕ) (y : ℕ → ℕ) (f : ℕ → List ℕ) (g : List ℕ) where
  fails_any : (n : ℕ) → fails_row p n c x y f g ≡ any_below n (λ i. not (meets_output p c x g (f i) (y i)))
  unfolding fails_row first_below
  fails_any zero = refl
  fails_any (suc n) = by (meets_output p c x g (f n) (y n)) (first_below n (λ i. not (meets_output p c x g (f i) (y i)))) (fails_any n)
    where
      by : (met : Bool) (before : Option ℕ) → fails_row p n c x y f g ≡ is_found before
          → cond met (fails_row p n c x y f g) true ≡ is_found (or_else before (if_holds (not met) n))
      by true (Some i) e = e
      by true None e = e
      by false (Some i) e = refl
      by false None e = refl

  -- a row does not fail exactly if every output meets its condition
  pub conditions_met : (n : ℕ) → fails_row p n c x y f g ≡ false → (i : ℕ) → i < n → c * value_of p x (f i) ≡ value_of p x g * y i % p
  conditions_met n e i l =
      eqb-true _ _ (not-false _ (any_passes (λ i. not (meets_output p c x g (f i) (y i))) n (sym (fails_any n) ∙ e) i l))

  pub met_conditions : (n : ℕ) → ((i : ℕ) → i < n → c * value_of p x (f i) ≡ value_of p x g * y i % p) → fails_row p n c x y f g ≡ false
  met_conditions n all = fails_any n ∙ ap is_found (none_below _ n (λ i l. ap not (eq-eqb _ _ (all i l))))

-- a row depends on the outputs that exist, and of the polynomials on their coefficients
fails_same : (p c x n : ℕ) {y y' : ℕ → ℕ} (f f' : ℕ → List ℕ) (g g' : List ℕ)
    → ((i : ℕ) → i < n → y i ≡ y' i)
    → ((i : ℕ) → i < n → (k : ℕ) → get_or (f i) k 0 ≡ get_or (f' i) k 0)
    → ((k : ℕ) → get_or g k 0 ≡ get_or g' k 0)
    → fails_row p n c x y f g ≡ fails_row p n c x y' f' g'
fails_same p c x n {y} {y'} f f' g g' ys fs gs =
    fails_any p c x y f g n
    ∙ ap is_found (first_cong n _ _ here)
    ∙ sym (fails_any p c x y' f' g' n)
  where
    here : (i : ℕ) → i < n → not (meets_output p c x g (f i) (y i)) ≡ not (meets_output p c x g' (f' i) (y' i))
    here i l = rw (value_same p x (f i) (f' i) (fs i l), value_same p x g g' gs, ys i l) refl

-- so it is for a row of a table
pub wrong_row-same : (b : Bounds) (points weights values : List ℕ) {f f' : ℕ → List ℕ} {g g' : List ℕ} → Same b.outputs f g f' g' → (r : ℕ)
    → wrong_row_at b points weights values f g r ≡ wrong_row_at b points weights values f' g' r
wrong_row-same b points weights values {f} {f'} {g} {g'} h r =
    fails_same (prime_of b) (get_or weights r 0) (get_or points r 0) b.outputs f f' g g' (λ i l. refl) h.numerators h.denominator

module _ (p x : ℕ) (f : ℕ → List ℕ) (g : List ℕ) where
  -- with weight 1 a row puts the conditions of a row of numbers
  fails_unmarked : (n : ℕ) (y : ℕ → ℕ) → fails_row p n 1 x y f g ≡ wrong_row p n x y f g
  unfolding fails_row wrong_row
  fails_unmarked zero y = refl
  fails_unmarked (suc n) y =
      let one : 1 * value_of p x (f n) ≡ value_of p x (f n) = omega arith in
      ap₂ (λ met rest. cond met rest true) (ap (λ v. eqb v (value_of p x g * y n % p)) one) (fails_unmarked n y)

  -- with weight 0 the conditions of all outputs are the same, where the values are
  fails_marked : (n y : ℕ) → fails_row p (suc n) 0 x (λ i. y) f g ≡ not (eqb 0 (value_of p x g * y % p))
  unfolding fails_row
  fails_marked n y = ap (λ v. cond (eqb v (value_of p x g * y % p)) (fails_row p n 0 x (λ i. y) f g) true) (zero-mul _) ∙ by n (eqb 0 (value_of p x g * y % p)) refl
    where
      by : (n : ℕ) (met : Bool) → eqb 0 (value_of p x g * y % p) ≡ met → cond met (fails_row p n 0 x (λ i. y) f g) true ≡ not met
      by n false e = refl
      by zero true e = refl
      by (suc n) true e = ap (λ v. cond (eqb v (value_of p x g * y % p)) (fails_row p n 0 x (λ i. y) f g) true) (zero-mul _) ∙ rw e (by n true e)

  -- by the row's mark
  fails_verdict : 0 < p → (m : Option Mark) (n : ℕ) (y : ℕ → ℕ) → fails_row p (suc n) (weight_of m) x (λ i. right_side_of m (y i)) f g ≡ is_wrong (verdict_of m p (suc n) x y f g)
  fails_verdict positive None n y = fails_unmarked (suc n) y ∙ sym (unmarked_verdict p (suc n) x y f g refl)
  fails_verdict positive (Some Pole) n y =
      let value : value_of p x g * 1 % p ≡ value_of p x g = ap (λ v. v % p) (mul-one _) ∙ mod-eq_of_lt (value_below p x g positive) in
      fails_marked n 1 ∙ ap not (ap (eqb 0) value ∙ zero_first (value_of p x g)) ∙ sym (pole_verdict p (suc n) x y f g refl)
  fails_verdict positive (Some Silent) n y = fails_marked n 0 ∙ ap (λ v. not (eqb 0 v)) (ap (λ v. v % p) (mul-zero (value_of p x g)) ∙ zero-mod p)

-- a row of the arrays is wrong exactly if that row of the job is
pub same_wrong : (s : List ℕ) (f : ℕ → List ℕ) (g : List ℕ) (r : ℕ) → r < (bounds_of s).rows
    → wrong_row_at (bounds_of s) (job_points s) (job_weights s) (job_values s) f g r ≡ wrong_at s f g r
same_wrong s f g r l =
    let b = bounds_of s in
    let n = fits_fields s in
    let some : (k : ℕ) × (b.outputs ≡ suc k) = (b.outputs - 1, omega arith) in
    ap₂ (λ c x. fails_row (prime_of b) b.outputs c x (λ i. get_or (job_values s) (r * 4 + i) 0) f g) (weights_at s r l) (points_at s r l)
    ∙ fails_same (prime_of b) (weight_of (mark_at s r)) (job_point s r) b.outputs f f g g (λ i li. values_at s r i l li) (λ i li k. refl) (λ k. refl)
    ∙ subst (λ m. fails_row (prime_of b) m (weight_of (mark_at s r)) (job_point s r) (λ i. right_side_of (mark_at s r) (job_value s r i)) f g ≡ is_wrong (verdict_of (mark_at s r) (prime_of b) m (job_point s r) (job_value s r) f g))
    (sym some.1) (fails_verdict (prime_of b) (job_point s r) f g (let two = (modulus_prime b.prime).two in omega arith) (mark_at s r) some.0 (job_value s r))
