-- docs/METHOD.md, Only one answer: two reduced vectors are the same, or the rows that speak number at most df + dg and the wrong rows of both.
use mathlib.Core.Path.{◌≡◌, sym, ◌∙◌, ap}
use mathlib.Core.Logic.{◌⊎◌, inl, inr}
use Prim.Native.Nat.{ℕ, suc, ◌+◌, ◌≤◌, ◌<◌}
use native.Mathlib.Omega.{arith}
use native.Mathlib.Decide.{dec_le}
use Rattle.algebra.proofs.Counting.{dec_and, dec_not, failures_and, failures_not}
use Rattle.algebra.proofs.Ring.{mul_comm, mul_left_comm, mul-one}
use Rattle.algebra.proofs.Series.{Series, const_s, mul_s, series_ring}
use Rattle.algebra.proofs.Bounds.{Below, below_mono, below_mul, Polynomial}
use Rattle.algebra.proofs.Value.{value, value-mul_within}
use Rattle.algebra.proofs.Field.{Field, one_proportion}
use Rattle.algebra.proofs.Degree.{regular}
use Rattle.algebra.proofs.Roots.{Distinct, equal_if_agree}
use Rattle.algebra.proofs.Ideal.{proportional, InIdeal}
use Rattle.algebra.proofs.LowestTerms.{monic_nonnull}
use Rattle.algebra.proofs.Reduced.{member_polynomial, ideal_of_reduced}
use Rattle.method.proofs.Vectors.{ReducedVector, SameVector, same_if_multiple}
use Rattle.method.proofs.Problem.{Evaluation, Silent, dec_silent, speaking_below, Clear, Right, dec_right, wrong_count, Fits}

module _ (F : Field) {n : ℕ} {bound : ℕ → ℕ} {dg : ℕ} {f f' : ℕ → Series F.ring} {g g' : Series F.ring}
    (v : ReducedVector F n bound dg f g) (v' : ReducedVector F n bound dg f' g') where
  open F use {ring as R}
  open R use {Carrier, mul as ◌⊗◌, one}

  infixl 70 ◌⊗◌
  -- fi g' = f'i g for every output i: g' = g q, since 1 is in the ideal of g and the f's; so (f', g') is q times (f, g)
  pub same_if_proportional : ((i : ℕ) → i < n → mul_s R (f i) g' ≡ mul_s R (f' i) g) → SameVector F n f g f' g'
  same_if_proportional cross = (sym same.0, λ i l. sym (same.1 i l))
    where
      polynomials : {h : ℕ → Series R} {k : Series R} → ReducedVector F n bound dg h k → (i : ℕ) → i < n → Polynomial R (h i)
      polynomials w i l = (suc (bound i), w.numerators_below i l)

      unit : InIdeal F n f g (const_s R one)
      unit = ideal_of_reduced F n f g (polynomials v) (suc dg, v.denominator_below) (monic_nonnull F g v.degree v.monic) v.reduced

      member : (y : Series R) × InIdeal F n f' g' y × (mul_s R g' (const_s R one) ≡ mul_s R g y)
      member = proportional (series_ring R) (Polynomial R) g' g n f g f' g'
          (λ i l. mul_comm (series_ring R) g' (f i) ∙ cross i l ∙ mul_comm (series_ring R) (f' i) g) (mul_comm (series_ring R) g' g) unit

      q : Series R
      q = member.0

      denominator : g' ≡ mul_s R g q
      denominator = sym (mul-one (series_ring R) g') ∙ member.2

      numerators : (i : ℕ) → i < n → f' i ≡ mul_s R (f i) q
      numerators i l = regular F (suc dg) g v.denominator_below (monic_nonnull F g v.degree v.monic) _ _
          (mul_comm (series_ring R) g (f' i) ∙ sym (cross i l) ∙ ap (mul_s R (f i)) denominator ∙ mul_left_comm (series_ring R) (f i) g q)

      same : SameVector F n f' g' f g
      same = same_if_multiple F v'.monic v'.reduced v.monic (polynomials v) (record {
        q = q;
        q_polynomial = member_polynomial F n f' g' (polynomials v') (suc dg, v'.denominator_below) member.1;
        denominator = denominator;
        numerators = numerators;
      })

  module _ {N : ℕ} (fits : Fits N n bound dg) (row : ℕ → Evaluation R) (L : ℕ) (distinct : Distinct F (λ l. (row l).point) L)
      (clear : Clear F n row L) where
    -- which rows are right for each vector
    abbrev right : (l : ℕ) → Dec (Right F N n f g (row l))
    right l = dec_right F N n f g (row l)

    abbrev right' : (l : ℕ) → Dec (Right F N n f' g' (row l))
    right' l = dec_right F N n f' g' (row l)

    abbrev silent : (l : ℕ) → Dec (Silent F n (row l))
    silent l = dec_silent F n (row l)

    -- the wrong rows of both vectors together
    abbrev both_wrong : ℕ
    both_wrong = wrong_count F N n f g row L + wrong_count F N n f' g' row L

    -- fi g' and f'i g have degrees of at most bound i + dg, and agree at the rows that are right for both and speak
    module _ (i : ℕ) (li : i < n) where
      abbrev m : ℕ
      m = suc (bound i + dg)

      product_below : (a b : Series R) → Below R a (suc (bound i)) → Below R b (suc dg) → Below R (mul_s R a b) m
      product_below a b ha hb = below_mono R _ (suc (bound i) + dg) m (omega arith) (below_mul R a b (suc (bound i)) dg ha hb)

      product_value : (a b : Series R) → Below R a (suc (bound i)) → Below R b (suc dg) → (x : Carrier)
          → value R m (mul_s R a b) x ≡ value R N a x ⊗ value R N b x
      product_value a b ha hb x =
          let l = fits.numerators i li in let l' = fits.denominator in
          value-mul_within R (suc (bound i)) (suc dg) m m N a b x ha hb (product_below a b ha hb) (omega arith) (omega arith) (omega arith)

      agree : (l : ℕ) → l < L → (Right F N n f g (row l) × Right F N n f' g' (row l)) × (Silent F n (row l) → ⊥)
          → value R m (mul_s R (f i) g') (row l).point ≡ value R m (mul_s R (f' i) g) (row l).point
      agree l h ok =
          product_value (f i) g' (v.numerators_below i li) v'.denominator_below _
          ∙ one_proportion F (row l).weight ((row l).values i) _ _ _ _ (ok.0.0 i li) (ok.0.1 i li) (λ idle. ok.1 (clear l h i li idle.0 idle.1))
          ∙ sym (product_value (f' i) g (v'.numerators_below i li) v.denominator_below _)

      cross : bound i + dg + both_wrong < speaking_below F n row L → mul_s R (f i) g' ≡ mul_s R (f' i) g
      cross many = equal_if_agree F (λ l. dec_and (dec_and (right l) (right' l)) (dec_not (silent l))) (λ l. (row l).point) L m (mul_s R (f i) g') (mul_s R (f' i) g)
          (product_below (f i) g' (v.numerators_below i li) v'.denominator_below)
          (product_below (f' i) g (v'.numerators_below i li) v.denominator_below) distinct agree
          (let w = failures_and right right' L in let w' = failures_and (λ l. dec_and (right l) (right' l)) (λ l. dec_not (silent l)) L in
          let all = failures_not silent L in omega arith)

    -- more rows that speak than these degrees and wrong rows, for every output: the vectors are the same
    pub same_if_many : ((i : ℕ) → i < n → bound i + dg + both_wrong < speaking_below F n row L) → SameVector F n f g f' g'
    same_if_many many = same_if_proportional (λ i l. cross i l (many i l))

    -- two reduced vectors are the same, or the rows that speak number at most df + dg and the wrong rows of both, where df is a bound of all numerators
    pub same_or_few : (df : ℕ) → ((i : ℕ) → i < n → bound i ≤ df)
        → SameVector F n f g f' g' ⊎ (speaking_below F n row L ≤ df + dg + wrong_count F N n f g row L + wrong_count F N n f' g' row L)
    same_or_few df largest = by (dec_le (speaking_below F n row L) (df + dg + wrong_count F N n f g row L + wrong_count F N n f' g' row L))
      where
        by : Dec (speaking_below F n row L ≤ df + dg + wrong_count F N n f g row L + wrong_count F N n f' g' row L)
            → SameVector F n f g f' g' ⊎ (speaking_below F n row L ≤ df + dg + wrong_count F N n f g row L + wrong_count F N n f' g' row L)
        by (yes few) = inr few
        by (no many) = inl (same_if_many (λ i l. let h = largest i l in omega arith))
