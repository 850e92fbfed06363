-- The length of a list is the degree of its polynomial plus 1, and 0 for the null polynomial.
use lib.ListN.{get_or}
use mathlib.Core.Path.{◌≡◌, sym, ◌∙◌, ap}
use mathlib.Core.List.{List}
use Prim.Native.Nat.{ℕ, suc}
use native.Mathlib.Omega.{arith}
use Rattle.algebra.proofs.Series.{null_s, null_s_at}
use Rattle.algebra.proofs.Bounds.{Below, below_zero}
use Rattle.algebra.proofs.Degree.{HasDegree}
use Rattle.field.proofs.Primality.{IsPrime}
use Rattle.reciprocal.proofs.PrimeField.{residue, residue_ring, residue_field}
use Rattle.poly.specs.Coefficients.{Bounded}
use Rattle.poly.specs.Operations.{length_of}
use Rattle.poly.proofs.Lengths.{length_top, length_is, length_at_most, bounded_length}
use Rattle.poly_meaning.proofs.Series.{series, series_at, series_below, residue-zero}

module _ (p : ℕ) (P : IsPrime p) {n : ℕ} {a : List ℕ} (b : Bounded p n a) where
  -- a bound of the polynomial is a bound of the list
  pub below_bounded : (m : ℕ) → Below (residue_ring p P) (series p P a) m → Bounded p m a
  below_bounded m h = record {
    residues = b.residues;
    within = λ k l. residue-zero p P (get_or a k 0) (b.residues k) (sym (series_at p P a k) ∙ h k l);
  }

  pub length_means : (m : ℕ) → length_of a ≡ suc m → HasDegree (residue_field p P) (series p P a) m
  length_means m e = record {
    top = λ z. length_top a m e (residue-zero p P (get_or a m 0) (b.residues m) (sym (series_at p P a m) ∙ z));
    low = λ k l. series_below p P (bounded_length b) k (omega arith);
  }

  pub length_means_null : length_of a ≡ 0 → series p P a ≡ null_s (residue_ring p P)
  length_means_null e = below_zero (residue_ring p P) (series p P a) (λ k l. series_below p P (bounded_length b) k (omega arith))

  pub degree-length : (m : ℕ) → HasDegree (residue_field p P) (series p P a) m → length_of a ≡ suc m
  degree-length m d = length_is a m (λ z. d.top (series_at p P a m ∙ ap (residue p P) z)) (below_bounded (suc m) d.low).within

  pub null_length : series p P a ≡ null_s (residue_ring p P) → length_of a ≡ 0
  null_length e =
      let l = length_at_most a 0 (below_bounded 0 (λ k h. ap (λ f. f k) e ∙ null_s_at (residue_ring p P) k)).within in
      omega arith
