-- The greatest common divisor of lists g, f 0, .., f (n - 1) is one in the ring of polynomials: a common divisor in the ideal of them all.
use mathlib.Core.Path.{◌≡◌, refl, sym, subst}
use mathlib.Core.List.{List}
use Prim.Native.Nat.{ℕ, zero, suc, ◌+◌, ◌<◌}
use native.Mathlib.Numerals.{add-one}
use native.Mathlib.Omega.{arith}
use Rattle.algebra.proofs.Series.{Series, const_s}
use Rattle.algebra.proofs.Field.{Field}
use Rattle.algebra.proofs.Degree.{HasDegree}
use Rattle.algebra.proofs.Euclid.{CommonDivisor}
use Rattle.algebra.proofs.Ideal.{InIdeal, FamilyDivisor, family_step, family_divisor}
use Rattle.algebra.proofs.Reduced.{ideal_of_constant}
use Rattle.field.proofs.Primality.{IsPrime}
use Rattle.reciprocal.proofs.PrimeField.{residue_field}
use Rattle.poly.specs.Coefficients.{Bounded, Stored}
use Rattle.poly.specs.Operations.{length_of}
use Rattle.poly.proofs.Lists.{bounded_mono}
use Rattle.poly_meaning.proofs.Series.{series}
use Rattle.poly_meaning.proofs.Lists.{list_polynomial}
use Rattle.euclid.proofs.Leading.{stored_bounded, length_stored}
use Rattle.euclid.specs.Euclid.{gcd_of}
use Rattle.euclid.proofs.Euclid.{gcd_stored, gcd-zero}
use Rattle.poly_meaning.proofs.Euclid.{gcd_means}
use Rattle.reduced.specs.CommonDivisor.{common_divisor_of}

-- a bound of what an array holds
pub stored_full : {p : ℕ} {a : List ℕ} → Stored p a → Bounded p 32 a
stored_full s = bounded_mono (stored_bounded s) (length_stored s)

-- the step at the code's i
pub common_next : (p : ℕ) (f : ℕ → List ℕ) (g : List ℕ) (i : ℕ) → common_divisor_of p f g (i + 1) ≡ gcd_of p (f i) (common_divisor_of p f g i)
unfolding common_divisor_of
common_next p f g i = rw add-one

module _ (F : Field) (f : ℕ → Series F.ring) (g : Series F.ring) where
  -- a common divisor in the ideal of the f's and g, and the series that it is
  abbrev pub DivisorIs : ℕ → Series F.ring → Type 0
  DivisorIs n d = (D : FamilyDivisor F n f g) × (D.divisor ≡ d)

  -- one more f
  pub divisor_step : (n : ℕ) {d e : Series F.ring} → DivisorIs n d → (C : CommonDivisor F (f n) d) → C.divisor ≡ e → DivisorIs (suc n) e
  unfolding family_step
  divisor_step n {e = e} D =
      subst (λ (d : Series F.ring). (C : CommonDivisor F (f n) d) → C.divisor ≡ e → DivisorIs (suc n) e) D.1
      (λ C h. (family_step F n f g D.0 C, h))

  -- where the divisor is a constant and not null, 1 is in the ideal
  pub constant_ideal : (n : ℕ) {d : Series F.ring} → DivisorIs n d → HasDegree F d zero → InIdeal F n f g (const_s F.ring F.ring.one)
  constant_ideal n D degree = ideal_of_constant F n f g D.0 (subst (λ e. HasDegree F e zero) (sym D.1) degree)

module _ (p : ℕ) (P : IsPrime p) (f : ℕ → List ℕ) {g : List ℕ} (sg : Stored p g) where
  pub common_stored : (n : ℕ) → ((i : ℕ) → i < n → Stored p (f i)) → Stored p (common_divisor_of p f g n)
  unfolding common_divisor_of
  common_stored zero sf = sg
  common_stored (suc n) sf = gcd_stored P (sf n (omega arith)) (common_stored n (λ i l. sf i (omega arith)))

  -- it is not zero, where g is not
  pub common_nonzero : (n : ℕ) → ((i : ℕ) → i < n → Stored p (f i)) → (length_of g ≡ 0 → ⊥) → length_of (common_divisor_of p f g n) ≡ 0 → ⊥
  unfolding common_divisor_of
  common_nonzero zero sf nonzero z = nonzero z
  common_nonzero (suc n) sf nonzero z =
      let lower : (i : ℕ) → i < n → Stored p (f i) = (λ i l. sf i (omega arith)) in
      common_nonzero n lower nonzero (gcd-zero P (sf n (omega arith)) (common_stored n lower) z).1

  pub common_means : (n : ℕ) → ((i : ℕ) → i < n → Stored p (f i))
      → DivisorIs (residue_field p P) (λ i. series p P (f i)) (series p P g) n (series p P (common_divisor_of p f g n))
  unfolding common_divisor_of family_divisor
  common_means zero sf = (family_divisor (residue_field p P) zero _ _ (λ i l. absurd (omega arith)) (list_polynomial p P g), refl)
  common_means (suc n) sf =
      let lower : (i : ℕ) → i < n → Stored p (f i) = (λ i l. sf i (omega arith)) in
      let C = gcd_means p P (sf n (omega arith)) (common_stored n lower) in
      divisor_step (residue_field p P) _ _ n (common_means n lower) C.0 C.1
