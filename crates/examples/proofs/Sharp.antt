-- The claim over the table, by one computation of the tests of all its entries.
use lib.ListN.{get_or}
use mathlib.Core.Path.{◌≡◌, refl, sym, ap, ◌∙◌}
use mathlib.Core.Bool.{Bool, true, false, not}
use mathlib.Core.List.{List, [], ◌∷◌, map}
use Prim.Native.Nat.{ℕ, ◌+◌, ◌<◌}
use native.Mathlib.Omega.{arith}
use borrow.Author.Tests.{leb-true, eqb-true, eq-eqb, not-false}
use lib.Dec.{leb, eqb}
use Rattle.lists.proofs.Truth.{clash}
use Rattle.lists.proofs.Maps.{same_maps}
use Rattle.format.specs.declared.Bounds.{Bounds}
use Rattle.format.specs.Bounds.{prime_of, numerator_bound_of, largest_bound, numerator_count, FitsPolynomials}
use Rattle.std.specs.Prelude.{Result, Ok}
use Rattle.format.specs.declared.Refusal.{Refusal}
use Rattle.field.proofs.Moduli.{modulus_prime}
use Rattle.header.specs.Header.{outputs_of, df_of, spare_bit_of, numerator_bounds_of, flags_of, bounds_of}
use Rattle.header.proofs.Fields.{fits_polynomials}
use Rattle.lists.specs.Search.{is_found, first_below, any_below}
use Rattle.lists.proofs.FirstBelow.{any_passes, none_below}
use Rattle.marked_rows.specs.Marks.{mark_of, speaking_count}
use Rattle.rows.specs.Rows.{number_at}
use Rattle.cursor.specs.Bits.{field_of}
use Rattle.lists.specs.Counting.{count_below}
use Rattle.lists.specs.Tabulated.{tabulate}
use Rattle.poly.specs.Operations.{value_of, length_of, length_below}
use Rattle.reciprocal.specs.Reciprocals.{reciprocal_of}
use Rattle.euclid.specs.Division.{remainder_of, remainder_from, degree_of, division_step, cancelled_of, cancelled_at, cancel_factor, leading_reciprocal, shifted}
use Rattle.euclid.specs.Euclid.{gcd_from, gcd_of}
use Rattle.reduced.specs.CommonDivisor.{common_divisor_of}
use Rattle.problem.specs.Rows.{wrong_row}
use Rattle.job.specs.Form.{form_outcome_of}
use Rattle.problem.specs.Reduced.{Reduced, Same}
use Rattle.problem.specs.Answers.{Within}
use Rattle.margin.specs.Margin.{margin_of}
use Rattle.examples.specs.Sharp.{Vector, numerator_of, Example, wrong_for, table, Attained, EveryAttained}
use Rattle.examples.proofs.Lists.{fits, padded, fits_bounded, leads_by_one, coprime_by, tested-reduced}

-- whether a numerator passes the bound of its output, whether g keeps its own, and whether they are reduced
record VectorTests : Type 0 where
  too_long : Bool
  kept : Bool
  leads : Bool
  coprime : Bool

abbrev vector_tests : Bounds → Vector → VectorTests
vector_tests b v =
    record {
      too_long = any_below b.outputs (λ i. not (fits (prime_of b) (numerator_bound_of b i + 1) (numerator_of v.f i)));
      kept = fits (prime_of b) (b.dg + 1) v.g;
      leads = leads_by_one v.g;
      coprime = coprime_by (prime_of b) b.outputs (numerator_of v.f) v.g;
    }

abbrev passed : VectorTests
passed = record { too_long = false; kept = true; leads = true; coprime = true }

module _ (b : Bounds) (low : FitsPolynomials b) (v : Vector) (h : vector_tests b v ≡ passed) where
  positive : 0 < prime_of b
  positive = let two = (modulus_prime b.prime).two in omega arith

  numerator_fits : (i : ℕ) → i < b.outputs → fits (prime_of b) (numerator_bound_of b i + 1) (numerator_of v.f i) ≡ true
  numerator_fits i l = not-false _ (any_passes (λ i. not (fits (prime_of b) (numerator_bound_of b i + 1) (numerator_of v.f i))) b.outputs (ap (λ t. t.too_long) h) i l)

  vector_within : Within b (numerator_of v.f) v.g
  vector_within = record {
    numerators = λ i l. fits_bounded (prime_of b) positive (numerator_fits i l);
    denominator = fits_bounded (prime_of b) positive (ap (λ t. t.kept) h);
  }

  vector_reduced : Reduced (prime_of b) b.outputs (numerator_of v.f) v.g
  vector_reduced =
      tested-reduced (prime_of b) (modulus_prime b.prime) b.outputs (numerator_of v.f) v.g (λ i. numerator_bound_of b i + 1) (b.dg + 1)
      (λ i l. omega (arith, low.numerators-low i l)) (omega (arith, low.denominator-low)) numerator_fits (ap (λ t. t.kept) h) (ap (λ t. t.leads) h) (ap (λ t. t.coprime) h)

-- whether a constant or linear coefficient of a numerator differs
abbrev differ : ℕ → Vector → Vector → Bool
differ n v w = any_below n (λ i. any_below 2 (λ k. not (eqb (get_or (numerator_of v.f i) k 0) (get_or (numerator_of w.f i) k 0))))

same_alike : (n : ℕ) (v w : Vector) → Same n (numerator_of v.f) v.g (numerator_of w.f) w.g → differ n v w ≡ false
same_alike n v w same =
    ap is_found (none_below _ n (λ i l. ap is_found (none_below (λ k. not (eqb (get_or (numerator_of v.f i) k 0) (get_or (numerator_of w.f i) k 0))) 2 (λ k m. ap not (eq-eqb _ _ (same.numerators i l k))))))

-- what is looked at of an entry
record Tests : Type 0 where
  form : Result (Unit {0}) Refusal
  answer : VectorTests
  next : VectorTests
  other : Bool
  few : Bool
  margin : ℕ
  exactly : Bool

abbrev tests : Example → Tests
tests e =
    record {
      form = form_outcome_of e.job;
      answer = vector_tests (bounds_of e.job) e.answer;
      next = vector_tests (bounds_of e.job) e.next;
      other = differ (bounds_of e.job).outputs e.answer e.next;
      few = leb (wrong_for e e.answer) (bounds_of e.job).errors;
      margin = margin_of e.job (wrong_for e e.answer);
      exactly = eqb (df_of e.job + (bounds_of e.job).dg + wrong_for e e.answer + wrong_for e e.next) (speaking_count e.job);
    }

abbrev expected : Example → Tests
expected e = record { form = Ok tt; answer = passed; next = passed; other = true; few = true; margin = e.margin; exactly = true }

attained : (e : Example) → tests e ≡ expected e → Attained e
attained e h =
    let b = bounds_of e.job in
    let answer = ap (λ t. t.answer) h in
    let next = ap (λ t. t.next) h in
    record {
      accepted = ap (λ t. t.form) h;
      answered = record {
        within = vector_within b (fits_polynomials e.job) e.answer answer;
        reduced = vector_reduced b (fits_polynomials e.job) e.answer answer;
        few_wrong = leb-true _ _ (ap (λ t. t.few) h);
      };
      margin = ap (λ t. t.margin) h;
      other = record {
        within = vector_within b (fits_polynomials e.job) e.next next;
        reduced = vector_reduced b (fits_polynomials e.job) e.next next;
        differs = λ same. clash (sym (ap (λ t. t.other) h) ∙ same_alike b.outputs e.answer e.next same);
      };
      exactly = eqb-true _ _ (ap (λ t. t.exactly) h);
    }

each : (l : List Example) → map tests l ≡ map expected l → EveryAttained l
each [] h = tt
each (e ∷ l) h = let both = same_maps tests expected e l h in (attained e both.0, each l both.1)

as_expected : map tests table ≡ map expected table
unfolding table numerator_of fits padded form_outcome_of margin_of tabulate largest_bound numerator_count field_of outputs_of df_of spare_bit_of numerator_bounds_of flags_of bounds_of first_below number_at mark_of
    speaking_count count_below wrong_row value_of length_of length_below common_divisor_of gcd_of gcd_from remainder_of remainder_from degree_of division_step cancelled_of cancelled_at
    cancel_factor leading_reciprocal reciprocal_of shifted
as_expected = refl

pub every_attained : EveryAttained table
every_attained = each table as_expected
