-- Vectors of fractions with one denominator: n numerators f and the denominator g.
use mathlib.Core.Path.{◌≡◌, ◌∙◌, ap}
use Prim.Native.Nat.{ℕ, suc, ◌<◌}
use Rattle.algebra.proofs.Ring.{mul_comm, mul-one}
use Rattle.algebra.proofs.Series.{Series, mul_s, series_ring}
use Rattle.algebra.proofs.Bounds.{Below, Polynomial}
use Rattle.algebra.proofs.Field.{Field}
use Rattle.algebra.proofs.LowestTerms.{Monic, monic_constant}
use Rattle.algebra.proofs.Reduced.{Reduced}

module _ (F : Field) where
  open F use {ring as R}

  -- a reduced vector of paper 01, f i of degree at most bound i and g of degree at most dg, the leading coefficient of g being 1
  pub record ReducedVector (n : ℕ) (bound : ℕ → ℕ) (dg : ℕ) (f : ℕ → Series R) (g : Series R) : Type 0 where
    pub numerators_below : (i : ℕ) → i < n → Below R (f i) (suc (bound i))
    pub denominator_below : Below R g (suc dg)
    pub degree : ℕ
    pub monic : Monic F g degree
    pub reduced : Reduced F n f g

  -- equal denominators, and equal numerators
  abbrev pub SameVector : (n : ℕ) (f : ℕ → Series R) (g : Series R) (f' : ℕ → Series R) (g' : Series R) → Type 0
  SameVector n f g f' g' = (g ≡ g') × ((i : ℕ) → i < n → f i ≡ f' i)

  -- (f, g) is q times (f', g')
  pub record Multiple (n : ℕ) (f : ℕ → Series R) (g : Series R) (f' : ℕ → Series R) (g' : Series R) : Type 0 where
    pub q : Series R
    pub q_polynomial : Polynomial R q
    pub denominator : g ≡ mul_s R g' q
    pub numerators : (i : ℕ) → i < n → f i ≡ mul_s R (f' i) q

  -- a reduced vector that is a multiple of another is the same, where both denominators have leading coefficient 1
  pub same_if_multiple : {n : ℕ} {f f' : ℕ → Series R} {g g' : Series R} {d d' : ℕ} → Monic F g d → Reduced F n f g → Monic F g' d'
      → ((i : ℕ) → i < n → Polynomial R (f' i)) → Multiple n f g f' g' → SameVector n f g f' g'
  same_if_multiple {f' = f'} {g = g} {g' = g'} {d = d} {d' = d'} monic reduced monic' polynomials M =
      (M.denominator ∙ times_q g', λ i l. M.numerators i l ∙ times_q (f' i))
    where
      constant : Below R M.q 1
      constant = reduced M.q M.q_polynomial f' g' polynomials (suc d', monic'.low)
          (λ i l. M.numerators i l ∙ mul_comm (series_ring R) (f' i) M.q) (M.denominator ∙ mul_comm (series_ring R) g' M.q)

      times_q : (h : Series R) → mul_s R h M.q ≡ h
      times_q h = ap (mul_s R h) (monic_constant F g g' M.q d d' monic monic' M.denominator constant) ∙ mul-one (series_ring R) h
