-- The polynomials of coefficients below p: as many coefficients as the bounds allow, each below p.
use Prim.Native.Nat.{ℕ, zero, suc, ◌+◌, ◌-◌, ◌*◌, ◌/◌, ◌≤◌, ◌<◌}
use mathlib.Core.Path.{◌≡◌, ap, ◌∙◌}
use mathlib.Core.Bool.{cond, false}
use mathlib.Core.List.{List}
use mathlib.Core.Logic.{◌⊎◌, inl, inr}
use native.Mathlib.Omega.{arith}
use borrow.Author.Tests.{lt-ltb, le-ltb, leb-false, lt-leb}
use lib.Dec.{ltb, leb}
use lib.ListN.{get_or, length}
use Rattle.lists.proofs.Order.{lt_or_ge}
use Rattle.lists.proofs.Tabulated.{length-tabulate, at_tabulate_all}
use Rattle.format.specs.declared.Bounds.{Bounds}
use Rattle.format.specs.Bounds.{prime_of, numerator_bound_of, numerator_count, FitsPolynomials}
use Rattle.format.specs.Numbers.{number_from}
use Rattle.field.proofs.Moduli.{modulus_positive}
use Rattle.lists.specs.Search.{is_found}
use Rattle.lists.proofs.FirstBelow.{any_passes, none_below}
use Rattle.poly.specs.Coefficients.{Bounded, Stored}
use Rattle.answer.specs.Bytes.{numerator_start}
use Rattle.answer.specs.Coefficients.{coefficient_length_of, polynomial_from, denominator_of, numerator_of, any_too_large}
use Rattle.answer.proofs.Places.{start_first, start-next, ends_within}

pub polynomial-size : (s : List ℕ) (from count : ℕ) → length (polynomial_from s from count) ≡ 32
unfolding polynomial_from
polynomial-size s from count = length-tabulate 32 _

module _ (s : List ℕ) (from count : ℕ) (fits : count ≤ 32) where
  any_coefficient : (k : ℕ) → get_or (polynomial_from s from count) k 0 ≡ cond (ltb k count) (number_from s (from + 2 * k)) 0
  unfolding polynomial_from
  any_coefficient k = at_tabulate_all 32 _ (λ j l. simp (le-ltb j count (omega arith))) k

  -- the coefficients that stand there, and the zeros above them
  pub coefficient_at : (k : ℕ) → k < count → get_or (polynomial_from s from count) k 0 ≡ number_from s (from + 2 * k)
  coefficient_at k l = any_coefficient k ∙ simp (lt-ltb k count l)

  pub coefficient_above : (k : ℕ) → count ≤ k → get_or (polynomial_from s from count) k 0 ≡ 0
  coefficient_above k l = any_coefficient k ∙ simp (le-ltb k count l)

  polynomial_bounded : {p : ℕ} → 0 < p → ((k : ℕ) → k < count → number_from s (from + 2 * k) < p) → Bounded p count (polynomial_from s from count)
  polynomial_bounded {p} positive low = record { residues = λ k. by k (lt_or_ge k count); within = coefficient_above }
    where
      by : (k : ℕ) → (k < count) ⊎ (count ≤ k) → get_or (polynomial_from s from count) k 0 < p
      by k (inl l) = rw (coefficient_at k l) (low k l)
      by k (inr l) = rw (coefficient_above k l) positive

-- no coefficient is p or more: so says the test of each number
pub not_large : (b : Bounds) (s : List ℕ) → any_too_large b s ≡ false → (k : ℕ) → k < length s / 2 → number_from s (2 * k) < prime_of b
not_large b s e k l = leb-false _ _ (any_passes (λ j. leb (prime_of b) (number_from s (2 * j))) (length s / 2) e k l)

module _ (b : Bounds) (fits : FitsPolynomials b) (s : List ℕ) (size : length s ≡ coefficient_length_of b) where
  denominator-fits : b.dg + 1 ≤ 32
  denominator-fits = let l = fits.denominator-low in omega arith

  numerator_fits : (i : ℕ) → i < b.outputs → numerator_bound_of b i + 1 ≤ 32
  numerator_fits i l = let n = fits.numerators-low i l in omega arith

  module _ (low : (k : ℕ) → k < length s / 2 → number_from s (2 * k) < prime_of b) where
    -- coefficients from number m on
    low_from : (m from count : ℕ) → from ≡ 2 * m → from + 2 * count ≤ length s → (k : ℕ) → k < count → number_from s (from + 2 * k) < prime_of b
    low_from m from count e fits k l =
        let place : from + 2 * k ≡ 2 * (m + k) = omega arith in
        rw place (low (m + k) (omega arith))

    pub denominator_bounded : Bounded (prime_of b) (b.dg + 1) (denominator_of b s)
    denominator_bounded =
        polynomial_bounded s 0 (b.dg + 1) denominator-fits (modulus_positive b.prime) (low_from 0 0 (b.dg + 1) (omega arith) (omega arith))

    pub numerator_bounded : (i : ℕ) → i < b.outputs → Bounded (prime_of b) (numerator_bound_of b i + 1) (numerator_of b s i)
    numerator_bounded i l =
        let m = (b.dg + 1) + numerator_count b i in
        polynomial_bounded s (numerator_start b i - 4) (numerator_bound_of b i + 1) (numerator_fits i l) (modulus_positive b.prime)
        (low_from m (numerator_start b i - 4) (numerator_bound_of b i + 1) (omega arith) (omega (arith, ends_within b i l)))

    -- as arrays of 32 coefficients
    pub denominator_stored : Stored (prime_of b) (denominator_of b s)
    denominator_stored = record { size = polynomial-size s _ _; below = denominator_bounded.residues }

    pub numerator_stored : (i : ℕ) → i < b.outputs → Stored (prime_of b) (numerator_of b s i)
    numerator_stored i l = record { size = polynomial-size s _ _; below = (numerator_bounded i l).residues }

  -- and back: where the polynomials' coefficients are below p, no number is p or more
  module _ (low-g : (k : ℕ) → get_or (denominator_of b s) k 0 < prime_of b) (low-f : (i : ℕ) → i < b.outputs → (k : ℕ) → get_or (numerator_of b s i) k 0 < prime_of b) where
    -- the numbers before output i
    low_before : (i : ℕ) → i ≤ b.outputs → (k : ℕ) → 4 + 2 * k < numerator_start b i → number_from s (2 * k) < prime_of b
    low_before zero n k l =
        let place : 2 * k ≡ 0 + 2 * k = omega arith in
        rw (place, ← coefficient_at s 0 (b.dg + 1) denominator-fits k (omega (arith, start_first b))) (low-g k)
    low_before (suc i) n k l = by (low_before i (omega arith) k) (lt_or_ge (4 + 2 * k) (numerator_start b i))
      where
        by : (4 + 2 * k < numerator_start b i → number_from s (2 * k) < prime_of b) → (4 + 2 * k < numerator_start b i) ⊎ (numerator_start b i ≤ 4 + 2 * k)
            → number_from s (2 * k) < prime_of b
        by earlier (inl before) = earlier before
        by earlier (inr here) =
            let m = (b.dg + 1) + numerator_count b i in
            let place : 2 * k ≡ numerator_start b i - 4 + 2 * (k - m) = omega arith in
            let number = coefficient_at s (numerator_start b i - 4) (numerator_bound_of b i + 1) (numerator_fits i (omega arith)) (k - m) (omega (arith, start-next b i)) in
            rw (place, ← number) (low-f i (omega arith) (k - m))

    pub none_large : any_too_large b s ≡ false
    none_large =
        ap is_found (none_below (λ k. leb (prime_of b) (number_from s (2 * k))) (length s / 2)
        (λ k l. lt-leb _ _ (low_before b.outputs (omega arith) k (omega arith))))
