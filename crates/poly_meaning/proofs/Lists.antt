-- Polynomials over the residues modulo p as lists of numbers.
use mathlib.Core.Path.{◌≡◌, sym, ◌∙◌, ap, fun_ext}
use mathlib.Core.List.{List}
use Prim.Native.Nat.{ℕ}
use native.Mathlib.Nat.{zero-mod}
use Rattle.algebra.proofs.Series.{Series, mul_s}
use Rattle.algebra.proofs.Bounds.{Polynomial}
use Rattle.field.proofs.Primality.{IsPrime}
use Rattle.reciprocal.proofs.PrimeField.{residue, residue_number, residue_equal, equal_residue, residue_ring}
use Rattle.lists.specs.Tabulated.{tabulate}
use Rattle.poly_meaning.proofs.Series.{series, series_at, series_below_length, tabulate_means}
use Rattle.poly_meaning.proofs.Products.{product_at_means}
use Rattle.problem.specs.Reduced.{Divides}

module _ (p : ℕ) (P : IsPrime p) where
  -- the numbers of a polynomial's coefficients
  unfoldable pub list_of : (f : Series (residue_ring p P)) → Polynomial (residue_ring p P) f → List ℕ
  list_of f b = tabulate b.0 (λ k. (f k).0)

  null_number : (residue p P 0).0 ≡ 0
  unfolding residue
  null_number = zero-mod p

  pub list_means : (f : Series (residue_ring p P)) (b : Polynomial (residue_ring p P) f) → series p P (list_of f b) ≡ f
  unfolding list_of
  list_means f b = tabulate_means p P b.0 (λ k. (f k).0) f (λ k l. ap (λ x. x.0) (b.1 k l) ∙ null_number) (λ k. residue_number p P (f k))

  pub list_polynomial : (a : List ℕ) → Polynomial (residue_ring p P) (series p P a)
  list_polynomial a = (_, series_below_length p P a)

  -- d divides a as lists exactly if it does as polynomials
  pub divides_means : (d a : List ℕ) (D : Divides p d a) → series p P a ≡ mul_s (residue_ring p P) (series p P d) (series p P D.0)
  divides_means d a D =
      fun_ext (λ k. series_at p P a k ∙ sym (residue_equal p P _ _ (D.1 k)) ∙ product_at_means p P d D.0 k)

  pub means_divides : (d a e : List ℕ) → series p P a ≡ mul_s (residue_ring p P) (series p P d) (series p P e) → Divides p d a
  means_divides d a e h =
      (e, λ k. equal_residue p P _ _ (product_at_means p P d e k ∙ sym (ap (λ f. f k) h) ∙ series_at p P a k))
