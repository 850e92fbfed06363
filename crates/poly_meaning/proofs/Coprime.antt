-- Paper 01's reduced, said of lists, is that of the polynomials.
use mathlib.Core.Path.{◌≡◌, sym, ◌∙◌, ap, ap₂}
use mathlib.Core.List.{List}
use Prim.Native.Nat.{ℕ, ◌<◌}
use native.Mathlib.Nat.{zero-mod}
use native.Mathlib.Decide.{dec_lt}
use Rattle.algebra.proofs.Series.{Series, null_s, mul_s}
use Rattle.algebra.proofs.Bounds.{Polynomial, polynomial_null}
use Rattle.algebra.proofs.Reduced.{Reduced as ReducedSeries}
use Rattle.field.proofs.Primality.{IsPrime}
use Rattle.reciprocal.proofs.PrimeField.{residue_equal, equal_residue, residue_ring, residue_field}
use Rattle.poly_meaning.proofs.Series.{series, series_at}
use Rattle.problem.specs.Reduced.{Divides, Coprime}
use Rattle.poly_meaning.proofs.Lists.{list_of, list_means, list_polynomial, divides_means, means_divides}

module _ (p : ℕ) (P : IsPrime p) (n : ℕ) (f : ℕ → List ℕ) (g : List ℕ) where
  pub coprime_means : Coprime p n f g → ReducedSeries (residue_field p P) n (λ i. series p P (f i)) (series p P g)
  coprime_means c d pd f' g' pf' pg' ef eg k l =
      sym (ap (λ t. t k) (list_means p P d pd)) ∙ series_at p P dl k
      ∙ residue_equal p P _ 0 (c dl (divides pg' g eg) (λ i li. divides (pf' i li) (f i) (ef i li)) k l ∙ sym (zero-mod p))
    where
      dl : List ℕ
      dl = list_of p P d pd

      divides : {e : Series (residue_ring p P)} (pe : Polynomial (residue_ring p P) e) (a : List ℕ) → series p P a ≡ mul_s (residue_ring p P) d e → Divides p dl a
      divides {e} pe a h =
          means_divides p P dl a (list_of p P e pe) (h ∙ sym (ap₂ (mul_s (residue_ring p P)) (list_means p P d pd) (list_means p P e pe)))

  pub means_coprime : ReducedSeries (residue_field p P) n (λ i. series p P (f i)) (series p P g) → Coprime p n f g
  means_coprime r d dg df k l =
      equal_residue p P _ 0 (sym (series_at p P d k)
      ∙ r (series p P d) (list_polynomial p P d) cofactor (series p P dg.0) cofactor_polynomial (list_polynomial p P dg.0) multiple (divides_means p P d g dg) k l)
      ∙ zero-mod p
    where
      -- the cofactor of output i, where there is such an output
      cofactor_by : (i : ℕ) → Dec (i < n) → Series (residue_ring p P)
      cofactor_by i (yes li) = series p P (df i li).0
      cofactor_by i (no none) = null_s (residue_ring p P)

      cofactor : ℕ → Series (residue_ring p P)
      cofactor i = cofactor_by i (dec_lt i n)

      polynomial_by : (i : ℕ) (c : Dec (i < n)) → Polynomial (residue_ring p P) (cofactor_by i c)
      polynomial_by i (yes li) = list_polynomial p P (df i li).0
      polynomial_by i (no none) = polynomial_null (residue_ring p P)

      cofactor_polynomial : (i : ℕ) → i < n → Polynomial (residue_ring p P) (cofactor i)
      cofactor_polynomial i li = polynomial_by i (dec_lt i n)

      multiple_by : (i : ℕ) (c : Dec (i < n)) → i < n → series p P (f i) ≡ mul_s (residue_ring p P) (series p P d) (cofactor_by i c)
      multiple_by i (yes li) l = divides_means p P d (f i) (df i li)
      multiple_by i (no none) l = absurd (none l)

      multiple : (i : ℕ) → i < n → series p P (f i) ≡ mul_s (residue_ring p P) (series p P d) (cofactor i)
      multiple i li = multiple_by i (dec_lt i n) li
