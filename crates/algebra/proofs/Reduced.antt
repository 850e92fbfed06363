-- Reduced families: that every common divisor is a constant says the same as that 1 is in the ideal.
use mathlib.Core.Path.{◌≡◌, sym, ◌∙◌, ap, subst}
use mathlib.Core.Logic.{◌≢◌}
use Prim.Native.Nat.{ℕ, zero, ◌<◌}
use Rattle.algebra.proofs.Ring.{mul_comm, one-mul}
use Rattle.algebra.proofs.Series.{Series, null_s, const_s, mul_s, const_s-mul, null_mul_s, series_ring}
use Rattle.algebra.proofs.Bounds.{Below, below_zero, drop_top, Polynomial, polynomial-add, polynomial-mul, polynomial-const_s}
use Rattle.algebra.proofs.Field.{Field}
use Rattle.algebra.proofs.Degree.{HasDegree, unit_constant}
use Rattle.algebra.proofs.Ideal.{at, last, plus, times, proportional, InIdeal, FamilyDivisor, family_divisor}
use Rattle.algebra.proofs.LowestTerms.{constant_of, scale_const_s}

module _ (F : Field) where
  open F use {ring as R, inv, inv-mul}
  open R use {Carrier, mul as ◌⊗◌, null, one}

  infixl 70 ◌⊗◌
  -- paper 01's reduced, less that g is monic: no polynomial of positive degree divides g and every f i, i < n
  abbrev pub Reduced : (n : ℕ) (f : ℕ → Series R) (g : Series R) → Type 0
  Reduced n f g = (d : Series R) → Polynomial R d → (f' : ℕ → Series R) (g' : Series R)
      → ((i : ℕ) → i < n → Polynomial R (f' i)) → Polynomial R g'
      → ((i : ℕ) → i < n → f i ≡ mul_s R d (f' i)) → g ≡ mul_s R d g' → Below R d 1

  -- members of the ideal of polynomials are polynomials
  pub member_polynomial : (n : ℕ) (f : ℕ → Series R) (g : Series R) → ((i : ℕ) → i < n → Polynomial R (f i)) → Polynomial R g
      → {x : Series R} → InIdeal F n f g x → Polynomial R x
  member_polynomial n f g pf pg (at i l) = pf i l
  member_polynomial n f g pf pg last = pg
  member_polynomial n f g pf pg (plus a b) = polynomial-add R _ _ (member_polynomial n f g pf pg a) (member_polynomial n f g pf pg b)
  member_polynomial n f g pf pg (times c ok a) = polynomial-mul R _ _ ok (member_polynomial n f g pf pg a)

  pub reduced_of_ideal : (n : ℕ) (f : ℕ → Series R) (g : Series R) → InIdeal F n f g (const_s R one) → Reduced n f g
  reduced_of_ideal n f g I d pd f' g' pf' pg' ef eg =
      let times-one = one-mul (series_ring R) in
      let t = proportional (series_ring R) (Polynomial R) (const_s R one) d n f g f' g' (λ i l. times-one (f i) ∙ ef i l) (times-one g ∙ eg) I in
      unit_constant F d t.0 pd (member_polynomial n f' g' pf' pg' t.1) (sym t.2 ∙ times-one _)

  -- where a common divisor in the ideal is a constant and not null, 1 is in the ideal
  pub ideal_of_constant : (n : ℕ) (f : ℕ → Series R) (g : Series R) (D : FamilyDivisor F n f g) → HasDegree F D.divisor zero
      → InIdeal F n f g (const_s R one)
  ideal_of_constant n f g D degree = subst (InIdeal F n f g) to_one (times (const_s R i) (polynomial-const_s R i) D.member)
    where
      k : Carrier
      k = D.divisor zero

      i : Carrier
      i = inv k degree.top

      unit : i ⊗ k ≡ one
      unit = mul_comm R i k ∙ inv-mul k degree.top

      to_one : mul_s R (const_s R i) D.divisor ≡ const_s R one
      to_one =
          ap (mul_s R (const_s R i)) (constant_of F D.divisor degree.low) ∙ const_s-mul R i _ ∙ scale_const_s F i k ∙ ap (const_s R) unit

  pub ideal_of_reduced : (n : ℕ) (f : ℕ → Series R) (g : Series R) → ((i : ℕ) → i < n → Polynomial R (f i)) → Polynomial R g
      → g ≢ null_s R → Reduced n f g → InIdeal F n f g (const_s R one)
  ideal_of_reduced n f g pf pg nz red = ideal_of_constant n f g D (record { top = nonnull; low = constant })
    where
      D : FamilyDivisor F n f g
      D = family_divisor F n f g pf pg

      constant : Below R D.divisor 1
      constant = red D.divisor D.divisor_polynomial D.f' D.g' D.f'_polynomial D.g'_polynomial D.f_multiple D.g_multiple

      nonnull : D.divisor zero ≢ null
      nonnull z =
          nz (D.g_multiple ∙ ap (λ x. mul_s R x D.g') (below_zero R D.divisor (drop_top R D.divisor zero constant z)) ∙ null_mul_s R D.g')
