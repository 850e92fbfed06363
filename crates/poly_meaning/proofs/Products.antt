-- The product of lists is the product of polynomials.
use lib.ListN.{get_or}
use mathlib.Core.Path.{◌≡◌, sym, ◌∙◌, ap, ap₂}
use mathlib.Core.List.{List}
use Prim.Native.Nat.{ℕ, zero, suc, ◌+◌, ◌-◌, ◌*◌, ◌%◌, ◌≤◌}
use native.Mathlib.Nat.{zero-add}
use native.Mathlib.Omega.{arith}
use Rattle.algebra.proofs.Series.{mul_s, mul_s-zero, mul_s-suc}
use Rattle.field.proofs.Primality.{IsPrime}
use Rattle.reciprocal.proofs.PrimeField.{residue, add_r, residue-add, residue-mul, residue_ring}
use Rattle.poly.specs.Coefficients.{Bounded}
use Rattle.poly.specs.Operations.{sum_below, product_at, product_of}
use Rattle.poly.proofs.Products.{sum_first, sum_cong, product-reduced_past}
use Rattle.poly_meaning.proofs.Series.{series, residue-mod, tabulate_means}

module _ (p : ℕ) (P : IsPrime p) where
  -- the sum over i from 0 to k of f i times g (k - i)
  convolution_means : (f g : ℕ → ℕ) (k : ℕ)
      → residue p P (sum_below (suc k) (λ i. f i * g (k - i)))
      ≡ mul_s (residue_ring p P) (λ i. residue p P (f i)) (λ i. residue p P (g i)) k
  unfolding sum_below
  convolution_means f g zero = ap (residue p P) (zero-add _) ∙ sym (residue-mul p P _ _) ∙ sym (mul_s-zero (residue_ring p P) _ _)
  convolution_means f g (suc k) =
      let first : suc k - 0 ≡ suc k = omega arith in
      let rest : sum_below (suc k) (λ i. f (suc i) * g (suc k - suc i)) ≡ sum_below (suc k) (λ i. f (suc i) * g (k - i)) =
      sum_cong (suc k) _ _ (λ i l. let e : suc k - suc i ≡ k - i = omega arith in ap (λ t. f (suc i) * g t) e) in
      ap (residue p P) (sum_first (suc k) (λ i. f i * g (suc k - i)) ∙ ap₂ ◌+◌ (ap (λ t. f 0 * g t) first) rest)
      ∙ sym (residue-add p P _ _)
      ∙ ap₂ (add_r p P) (sym (residue-mul p P _ _)) (convolution_means (λ i. f (suc i)) g k)
      ∙ sym (mul_s-suc (residue_ring p P) _ _ k)

  pub product_at_means : (a b : List ℕ) (k : ℕ)
      → residue p P (product_at a b k) ≡ mul_s (residue_ring p P) (series p P a) (series p P b) k
  unfolding product_at series
  product_at_means a b k = convolution_means (λ k. get_or a k 0) (λ k. get_or b k 0) k

  pub product_means : {la lb : ℕ} {a b : List ℕ} → Bounded p la a → Bounded p lb b → la + lb ≤ 33
      → series p P (product_of p a b) ≡ mul_s (residue_ring p P) (series p P a) (series p P b)
  unfolding product_of
  product_means {a = a} {b = b} ba bb l =
      tabulate_means p P 32 (λ k. product_at a b k % p) _
      (λ k h. product-reduced_past ba bb k (omega arith))
      (λ k. residue-mod p P _ ∙ product_at_means a b k)
