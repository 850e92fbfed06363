-- Quotient and remainder of lists are quotient and remainder in the ring of polynomials over the residues modulo p.
use mathlib.Core.Path.{◌≡◌, sym, ap, ◌∙◌}
use mathlib.Core.List.{List}
use Prim.Native.Nat.{ℕ, suc, ◌+◌, ◌-◌, ◌≤◌}
use native.Mathlib.Omega.{arith}
use lib.ListN.{length, replicate, length-replicate}
use Rattle.algebra.proofs.Ring.{Ring, add_null, null_add, mul_comm}
use Rattle.algebra.proofs.Series.{Series, add_s, null_s, mul_s, null_s_at, null_mul_s, series_ring}
use Rattle.algebra.proofs.Bounds.{Polynomial}
use Rattle.algebra.proofs.Degree.{HasDegree}
use Rattle.algebra.proofs.Division.{Division, division_unique}
use Rattle.field.proofs.Primality.{IsPrime}
use Rattle.reciprocal.proofs.PrimeField.{residue_ring, residue_field}
use Rattle.poly.specs.Coefficients.{Bounded}
use Rattle.poly.specs.Operations.{length_of}
use Rattle.lists.proofs.Tabulated.{at_zeros}
use Rattle.poly.proofs.Lists.{bounded_mono}
use Rattle.poly.proofs.Lengths.{length_at_most}
use Rattle.poly_meaning.proofs.Series.{series, series_below, zeros_means}
use Rattle.poly_meaning.proofs.Degrees.{length_means}
use Rattle.euclid.specs.Division.{degree_of, remainder_of, quotient_of}
use Rattle.euclid.proofs.Leading.{Divisor, degree_is, leading_number}
use Rattle.euclid.proofs.Steps.{remainder_steps, quotient_steps, bounded_remainder, bounded_quotient}
use Rattle.poly_meaning.proofs.Steps.{steps_mean}

module _ (p : ℕ) (P : IsPrime p) {b : List ℕ} {lb : ℕ} (D : Divisor p b lb) where
  abbrev R : Ring
  R = residue_ring p P

  pub divisor_degree : HasDegree (residue_field p P) (series p P b) (lb - 1)
  divisor_degree =
      let l = D.positive in
      length_means p P D.bounded (lb - 1) (sym D.is_length ∙ (let e : lb ≡ suc (lb - 1) = omega arith in e))

  -- a, with at most la coefficients, divided by b
  module _ {a : List ℕ} {la : ℕ} (la-fits : la ≤ 32) (ba : Bounded p la a) (size : length a ≡ 32) where
    pub division_equation : series p P a
        ≡ add_s (residue_ring p P) (mul_s (residue_ring p P) (series p P (quotient_of p a b)) (series p P b)) (series p P (remainder_of p a b))
    division_equation =
        let u = leading_number D in
        let d = degree_is D in
        let l = D.positive in
        let fits = D.fits in
        let short = length_at_most a la ba.within in
        rw (quotient_steps p a b u.1, remainder_steps p a b u.1)
        (sym (steps_mean p P (degree_of b) u.0 (bounded_mono D.bounded (omega arith)) (length_of a - degree_of b) a (replicate 32 0)
        (omega arith) size (length-replicate {A = ℕ} 32 0) (λ j h. at_zeros 32 j)
        ∙ ap (λ q. add_s R (mul_s R q (series p P b)) (series p P a)) (zeros_means p P 32)
        ∙ ap (λ q. add_s R q (series p P a)) (null_mul_s R (series p P b)) ∙ null_add (series_ring R) (series p P a)))

    -- quotient and remainder of the lists, as those of the polynomials
    abbrev pub division_means : Division (residue_field p P) (series p P a) (series p P b) (la + 1 - lb) (lb - 1)
    division_means = record {
      quotient = series p P (quotient_of p a b);
      remainder = series p P (remainder_of p a b);
      equation = division_equation;
      remainder_below = series_below p P (bounded_remainder D la-fits ba size);
      quotient_below = series_below p P (bounded_quotient D la-fits ba size);
    }

    -- where b divides a, the quotient is the cofactor and nothing is left
    pub exact_quotient : (s : Series (residue_ring p P)) → Polynomial (residue_ring p P) s
        → series p P a ≡ mul_s (residue_ring p P) (series p P b) s
        → (series p P (quotient_of p a b) ≡ s) × (series p P (remainder_of p a b) ≡ null_s (residue_ring p P))
    exact_quotient s ps e =
        division_unique (residue_field p P) (series p P b) (lb - 1) divisor_degree (series p P a) division_means.quotient division_means.remainder s (null_s R)
        (la + 1 - lb, division_means.quotient_below) ps division_means.remainder_below (λ k l. null_s_at R k) division_equation
        (e ∙ mul_comm (series_ring R) (series p P b) s ∙ sym (add_null (series_ring R) (mul_s R s (series p P b))))
