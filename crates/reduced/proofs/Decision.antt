-- Reduced, decided: the leading coefficient of g is 1, and the greatest common divisor has length 1.
use lib.ListN.{get_or}
use mathlib.Core.Path.{◌≡◌, ap, subst, ◌∙◌}
use mathlib.Core.List.{List}
use Prim.Native.Nat.{ℕ, suc, ◌-◌, ◌<◌}
use native.Mathlib.Omega.{arith}
use Rattle.algebra.proofs.Bounds.{Below}
use Rattle.algebra.proofs.Reduced.{reduced_of_ideal}
use Rattle.field.proofs.Primality.{IsPrime}
use Rattle.reciprocal.proofs.PrimeField.{residue_ring, residue_field}
use Rattle.poly.specs.Coefficients.{Bounded, Stored}
use Rattle.poly.specs.Operations.{length_of}
use Rattle.poly.proofs.Lengths.{length_past, length_is, length_at_most}
use Rattle.poly_meaning.proofs.Series.{series}
use Rattle.poly_meaning.proofs.Degrees.{below_bounded, length_means}
use Rattle.euclid.proofs.Leading.{stored_bounded}
use Rattle.problem.specs.Reduced.{Coprime, LeadingOne, Reduced}
use Rattle.poly_meaning.proofs.Coprime.{coprime_means, means_coprime}
use Rattle.reduced.specs.CommonDivisor.{common_divisor_of}
use Rattle.reduced.proofs.CommonDivisors.{common_stored, common_nonzero, common_means, constant_ideal}

-- the leading coefficient stands below the length
leading_length : {g : List ℕ} (M : LeadingOne g) → length_of g ≡ suc M.degree
leading_length {g} M = length_is g M.degree (λ z. (let one = M.leading in omega arith)) (λ k l. M.above k (omega arith))

pub leading_nonzero : {g : List ℕ} → LeadingOne g → length_of g ≡ 0 → ⊥
leading_nonzero M z = let l = leading_length M in omega arith

pub leading_top : {g : List ℕ} → LeadingOne g → get_or g (length_of g - 1) 0 ≡ 1
leading_top {g} M =
    let e : length_of g - 1 ≡ M.degree = (let l = leading_length M in omega arith) in
    ap (λ k. get_or g k 0) e ∙ M.leading

top_leading : {g : List ℕ} → (length_of g ≡ 0 → ⊥) → get_or g (length_of g - 1) 0 ≡ 1 → LeadingOne g
top_leading {g} nonzero e = record {
  degree = length_of g - 1;
  leading = e;
  above = λ k l. length_past g k (let nz = nonzero in omega arith);
}

module _ (p : ℕ) (P : IsPrime p) (n : ℕ) (f : ℕ → List ℕ) {g : List ℕ} (sg : Stored p g) (sf : (i : ℕ) → i < n → Stored p (f i)) where
  abbrev c : List ℕ
  c = common_divisor_of p f g n

  bounded : Bounded p (length_of c) c
  bounded = stored_bounded (common_stored p P f sg n sf)

  -- 1 is in the ideal
  constant_coprime : length_of c ≡ 1 → Coprime p n f g
  constant_coprime e =
      means_coprime p P n f g
      (reduced_of_ideal (residue_field p P) n _ _
      (constant_ideal (residue_field p P) _ _ n (common_means p P f sg n sf) (length_means p P bounded 0 e)))

  -- the divisor divides g and every f, so that it is a constant
  divisor_constant : Coprime p n f g → Below (residue_ring p P) (series p P c) 1
  divisor_constant coprime =
      let M = common_means p P f sg n sf in
      let D = M.0 in
      subst (λ d. Below (residue_ring p P) d 1) M.1
      (coprime_means p P n f g coprime D.divisor D.divisor_polynomial D.f' D.g' D.f'_polynomial D.g'_polynomial
      D.f_multiple D.g_multiple)

  coprime_constant : (length_of g ≡ 0 → ⊥) → Coprime p n f g → length_of c ≡ 1
  coprime_constant nonzero coprime =
      let short = length_at_most c 1 (below_bounded p P bounded 1 (divisor_constant coprime)).within in
      let nz = common_nonzero p P f sg n sf nonzero in
      omega arith

  pub reduced_constant : Reduced p n f g → length_of (common_divisor_of p f g n) ≡ 1
  reduced_constant r = coprime_constant (leading_nonzero r.monic) r.coprime

  pub constant_reduced : (length_of g ≡ 0 → ⊥) → get_or g (length_of g - 1) 0 ≡ 1 → length_of (common_divisor_of p f g n) ≡ 1 → Reduced p n f g
  constant_reduced nonzero top e = record { monic = top_leading nonzero top; coprime = constant_coprime e }
