-- Neither the greatest common divisor nor the denominator in lowest terms is zero, where the denominator before is not.
use lib.ListN.{get_or}
use mathlib.Core.Path.{◌≡◌, sym, ap, ◌∙◌}
use mathlib.Core.List.{List}
use Prim.Native.Nat.{ℕ, ◌-◌, ◌*◌, ◌%◌, ◌<◌}
use native.Mathlib.Omega.{arith}
use Rattle.algebra.proofs.Series.{mul_s, mul_s_null}
use Rattle.std.specs.Prelude.{Some}
use Rattle.reciprocal.specs.Reciprocals.{reciprocal_of}
use Rattle.field.proofs.Primality.{IsPrime}
use Rattle.reciprocal.proofs.PrimeField.{residue_ring}
use Rattle.poly.specs.Coefficients.{Stored}
use Rattle.poly.specs.Operations.{length_of, scaled_at, scaled_of}
use Rattle.lists.proofs.Tabulated.{at_tabulate}
use Rattle.poly.proofs.Lengths.{length_past}
use Rattle.poly_meaning.proofs.Degrees.{null_length, length_means_null}
use Rattle.euclid.specs.Division.{quotient_of, degree_of, leading_reciprocal}
use Rattle.euclid.specs.Euclid.{gcd_of}
use Rattle.euclid.proofs.Leading.{Divisor, stored_bounded, length_stored, divisor_of, leading-residue, leading_number, leading_inverts}
use Rattle.euclid.proofs.Euclid.{stored_quotient, gcd_stored, gcd-zero}
use Rattle.poly_meaning.proofs.Division.{exact_quotient}
use Rattle.poly_meaning.proofs.Euclid.{gcd_means}
use Rattle.fraction.specs.LowestTerms.{unit_of, scaled_by, reduced_numerator, reduced_denominator}

-- the unit that the code computes from the quotient h and its length
pub unit_is : (p : ℕ) {k n : ℕ} (a b : List ℕ) {h : List ℕ} → h ≡ quotient_of p b (gcd_of p a b) → n ≡ length_of h → Some k ≡ reciprocal_of p (get_or h (n - 1) 0)
    → Some k ≡ unit_of p a b
unfolding unit_of leading_reciprocal degree_of
unit_is p a b {h} eh en ek = ek ∙ ap (λ (t : ℕ). reciprocal_of p (get_or h (t - 1) 0)) en ∙ ap (λ (t : List ℕ). reciprocal_of p (get_or t (length_of t - 1) 0)) eh

-- the definitions, where k is the unit
module _ (p : ℕ) (a b : List ℕ) {k : ℕ} (u : Some k ≡ unit_of p a b) where
  pub numerator_scaled : reduced_numerator p a b ≡ scaled_of p k (quotient_of p a (gcd_of p a b))
  unfolding reduced_numerator
  numerator_scaled = ap (λ r. scaled_by p r (quotient_of p a (gcd_of p a b))) (sym u)

  pub denominator-scaled : reduced_denominator p a b ≡ scaled_of p k (quotient_of p b (gcd_of p a b))
  unfolding reduced_denominator
  denominator-scaled = ap (λ r. scaled_by p r (quotient_of p b (gcd_of p a b))) (sym u)

-- b divided by the greatest common divisor of a and b
module _ {p : ℕ} (P : IsPrime p) {a b : List ℕ} (sa : Stored p a) (sb : Stored p b) (nonzero : length_of b ≡ 0 → ⊥) where
  pub divisor_nonzero : length_of (gcd_of p a b) ≡ 0 → ⊥
  divisor_nonzero z = nonzero (gcd-zero P sa sb z).1

  pub denominator_stored : Stored p (quotient_of p b (gcd_of p a b))
  denominator_stored = stored_quotient P sb (gcd_stored P sa sb) divisor_nonzero

  pub quotient_nonzero : length_of (quotient_of p b (gcd_of p a b)) ≡ 0 → ⊥
  quotient_nonzero z =
      let D = divisor_of P (gcd_stored P sa sb) divisor_nonzero in
      let C = gcd_means p P sa sb in
      let e = C.0.right_multiple ∙ ap (λ f. mul_s (residue_ring p P) f C.0.g') C.1 in
      let q = (exact_quotient p P D (length_stored sb) (stored_bounded sb) sb.size C.0.g' C.0.g'_polynomial e).0 in
      nonzero (null_length p P (stored_bounded sb) (C.0.right_multiple ∙ ap (mul_s (residue_ring p P) C.0.divisor)
      (sym q ∙ length_means_null p P (stored_bounded denominator_stored) z) ∙ mul_s_null (residue_ring p P) C.0.divisor))

  pub quotient_divisor : Divisor p (quotient_of p b (gcd_of p a b)) (length_of (quotient_of p b (gcd_of p a b)))
  quotient_divisor = divisor_of P denominator_stored quotient_nonzero

  -- its leading coefficient, as the code has it, is not 0 modulo p ..
  pub quotient-leading : {h : List ℕ} {n : ℕ} → h ≡ quotient_of p b (gcd_of p a b) → n ≡ length_of h → 0 < get_or h (n - 1) 0 % p
  quotient-leading eh en = rw (en, eh) (leading-residue quotient_divisor)

  -- .. so there is a unit
  pub unit_number : (k : ℕ) × (Some k ≡ unit_of p a b)
  unfolding unit_of
  unit_number = leading_number quotient_divisor

  pub unit_inverts : {k : ℕ} → Some k ≡ unit_of p a b → k * get_or (quotient_of p b (gcd_of p a b)) (length_of (quotient_of p b (gcd_of p a b)) - 1) 0 % p ≡ 1
  unfolding unit_of
  unit_inverts u = leading_inverts quotient_divisor u

  -- the denominator's leading coefficient is 1
  denominator_top : get_or (reduced_denominator p a b) (length_of (quotient_of p b (gcd_of p a b)) - 1) 0 ≡ 1
  unfolding scaled_of scaled_at
  denominator_top =
      let u = unit_number.1 in
      let fits = quotient_divisor.fits in
      let positive = quotient_divisor.positive in
      rw (denominator-scaled p a b u) (at_tabulate 32 _ _ (omega arith) ∙ unit_inverts u)

  pub denominator_nonzero : 0 < length_of (reduced_denominator p a b)
  denominator_nonzero =
      let top = denominator_top in
      let nonzero : length_of (reduced_denominator p a b) ≡ 0 → ⊥ =
      λ e. (let past = length_past (reduced_denominator p a b) (length_of (quotient_of p b (gcd_of p a b)) - 1) (omega arith) in omega arith) in
      omega arith
