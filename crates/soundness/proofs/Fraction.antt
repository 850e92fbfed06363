-- The fraction that the code makes is phi / psi in lowest terms.
use lib.ListN.{get_or}
use mathlib.Core.Path.{◌≡◌, sym, ◌∙◌, ap, subst}
use mathlib.Core.Logic.{◌≢◌}
use mathlib.Core.List.{List}
use Prim.Native.Nat.{ℕ, suc}
use native.Mathlib.Omega.{arith}
use Rattle.algebra.proofs.Ring.{Ring}
use Rattle.algebra.proofs.Field.{Field}
use Rattle.algebra.proofs.Series.{Series, null_s, scale_s, mul_s}
use Rattle.algebra.proofs.Degree.{HasDegree}
use Rattle.algebra.proofs.Euclid.{CommonDivisor}
use Rattle.algebra.proofs.LowestTerms.{LowestTerms, lowest_terms_of, monic_degree}
use Rattle.std.specs.Prelude.{Some}
use Rattle.field.proofs.Primality.{IsPrime}
use Rattle.reciprocal.proofs.PrimeField.{Residue, residue, residue_unit, mul_r, residue_ring, residue_field}
use Rattle.poly.specs.Coefficients.{Bounded, Stored}
use Rattle.poly.specs.Operations.{length_of, scaled_of}
use Rattle.poly.proofs.Lists.{bounded_mono}
use Rattle.poly.proofs.Bounds.{bounded_scaled}
use Rattle.poly_meaning.proofs.Series.{series, series_at, scaled_means}
use Rattle.poly_meaning.proofs.Degrees.{length_means, degree-length, null_length}
use Rattle.euclid.specs.Division.{quotient_of, degree_of}
use Rattle.euclid.specs.Euclid.{gcd_of}
use Rattle.euclid.proofs.Leading.{stored_bounded, length_stored, Divisor, divisor_of}
use Rattle.euclid.proofs.Euclid.{gcd_stored, stored_quotient}
use Rattle.poly_meaning.proofs.Division.{exact_quotient}
use Rattle.poly_meaning.proofs.Euclid.{gcd_means}
use Rattle.fraction.specs.LowestTerms.{unit_of, reduced_numerator, reduced_denominator}
use Rattle.fraction.proofs.Denominators.{divisor_nonzero, denominator_stored, quotient_divisor, unit_number, unit_inverts, numerator_scaled, denominator-scaled}

-- what the two lists of the fraction are
pub record FractionMeans (p : ℕ) (P : IsPrime p) (phi psi : List ℕ) : Type 0 where
  pub terms : LowestTerms (residue_field p P) (series p P phi) (series p P psi)
  pub numerator : terms.numerator ≡ series p P (reduced_numerator p phi psi)
  pub denominator : terms.denominator ≡ series p P (reduced_denominator p phi psi)
  pub numerator_bounded : Bounded p 32 (reduced_numerator p phi psi)
  pub denominator_bounded : Bounded p 32 (reduced_denominator p phi psi)
  pub denominator-length : length_of (reduced_denominator p phi psi) ≡ suc terms.degree

module _ (p : ℕ) (P : IsPrime p) where
  abbrev R : Ring
  R = residue_ring p P

  abbrev F : Field
  F = residue_field p P

  module _ {phi psi : List ℕ} (sa : Stored p phi) (sb : Stored p psi) (nonzero : length_of psi ≡ 0 → ⊥) where
    abbrev c : List ℕ
    c = gcd_of p phi psi

    abbrev h : List ℕ
    h = quotient_of p psi c

    C : CommonDivisor F (series p P phi) (series p P psi)
    C = (gcd_means p P sa sb).0

    same : C.divisor ≡ series p P c
    unfolding C
    same = (gcd_means p P sa sb).1

    D : Divisor p c (length_of c)
    D = divisor_of P (gcd_stored P sa sb) (divisor_nonzero P sa sb nonzero)

    -- both quotients are the cofactors
    numerator_cofactor : series p P (quotient_of p phi c) ≡ C.f'
    numerator_cofactor =
        (exact_quotient p P D (length_stored sa) (stored_bounded sa) sa.size C.f' C.f'_polynomial
        (C.left_multiple ∙ ap (λ d. mul_s R d C.f') same)).0

    denominator_cofactor : series p P h ≡ C.g'
    denominator_cofactor =
        (exact_quotient p P D (length_stored sb) (stored_bounded sb) sb.size C.g' C.g'_polynomial
        (C.right_multiple ∙ ap (λ d. mul_s R d C.g') same)).0

    sh : Stored p h
    sh = denominator_stored P sa sb nonzero

    sq : Stored p (quotient_of p phi c)
    sq = stored_quotient P sa (gcd_stored P sa sb) (divisor_nonzero P sa sb nonzero)

    psi_nonnull : series p P psi ≢ null_s R
    psi_nonnull e = nonzero (null_length p P (stored_bounded sb) e)

    m : ℕ
    m = degree_of h

    length-h : length_of h ≡ suc m
    unfolding m degree_of
    length-h = let positive = (quotient_divisor P sa sb nonzero).positive in omega arith

    degree-h : HasDegree F C.g' m
    degree-h = subst (λ f. HasDegree F f m) denominator_cofactor (length_means p P (stored_bounded sh) m length-h)

    -- the leading coefficient of the cofactor
    k : Residue p P
    k = residue p P (get_or h m 0)

    k_is : k ≡ C.g' m
    unfolding k
    k_is = sym (series_at p P h m) ∙ ap (λ f. f m) denominator_cofactor

    -- its reciprocal is the residue of the unit
    unit : ℕ
    unit = (unit_number P sa sb nonzero).0

    unit_is : Some unit ≡ unit_of p phi psi
    unfolding unit
    unit_is = (unit_number P sa sb nonzero).1

    i : Residue p P
    i = residue p P unit

    inverts : mul_r p P k i ≡ residue p P 1
    unfolding degree_of k m i
    inverts = residue_unit p P unit (get_or h m 0) (unit_inverts P sa sb nonzero unit_is)

    -- b is a times the unit
    scaled_by_unit : {a b : List ℕ} {s : Series R} → Stored p a → series p P a ≡ s → b ≡ scaled_of p unit a → scale_s R i s ≡ series p P b
    unfolding i
    scaled_by_unit st e scaled =
        sym (ap (series p P) scaled ∙ scaled_means p P unit (stored_bounded st) (length_stored st) ∙ ap (scale_s R i) e)

    bounded_by_unit : {a b : List ℕ} → Stored p a → b ≡ scaled_of p unit a → Bounded p 32 b
    bounded_by_unit st scaled = rw scaled (bounded_mono (bounded_scaled (stored_bounded st) unit (let two = P.two in omega arith)) (length_stored st))

    numerator_is : reduced_numerator p phi psi ≡ scaled_of p unit (quotient_of p phi c)
    numerator_is = numerator_scaled p phi psi unit_is

    denominator_is : reduced_denominator p phi psi ≡ scaled_of p unit h
    denominator_is = denominator-scaled p phi psi unit_is

    W : LowestTerms F (series p P phi) (series p P psi)
    W = lowest_terms_of F (series p P phi) (series p P psi) C psi_nonnull m degree-h k k_is i inverts

    pub fraction_means : FractionMeans p P phi psi
    unfolding W
    fraction_means = record {
      terms = W;
      numerator = scaled_by_unit sq numerator_cofactor numerator_is;
      denominator = scaled_by_unit sh denominator_cofactor denominator_is;
      numerator_bounded = bounded_by_unit sq numerator_is;
      denominator_bounded = bounded_by_unit sh denominator_is;
      denominator-length = degree-length p P (bounded_by_unit sh denominator_is) m
          (subst (λ f. HasDegree F f m) (scaled_by_unit sh denominator_cofactor denominator_is) (monic_degree F W.denominator m W.monic));
    }
