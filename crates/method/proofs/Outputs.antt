-- docs/METHOD.md, All outputs: one after the other. What is held after i outputs, and each step as a theorem on any solution, any fraction
-- in lowest terms and any family that continues the one before.
use mathlib.Core.Path.{◌≡◌, sym, ◌∙◌, ap, subst}
use mathlib.Core.Logic.{◌≢◌, inl, inr}
use Prim.Native.Nat.{ℕ, suc, ◌+◌, ◌≤◌, ◌<◌}
use native.Mathlib.Omega.{arith}
use Rattle.algebra.proofs.Ring.{mul_comm, mul_assoc, mul-one, one-mul}
use Rattle.algebra.proofs.Series.{Series, null_s, const_s, mul_s, series_ring}
use Rattle.algebra.proofs.Bounds.{Below, Polynomial, polynomial-mul}
use Rattle.algebra.proofs.Field.{Field}
use Rattle.algebra.proofs.Degree.{HasDegree, NullOrDegree, degree, degree-sum, factor_below}
use Rattle.algebra.proofs.Ideal.{at, last, plus, times, wider, proportional, InIdeal}
use Rattle.algebra.proofs.LowestTerms.{Monic, monic_degree, monic_mul, monic_one, LowestTerms}
use Rattle.algebra.proofs.Counting.{below_suc}
use Rattle.method.proofs.Solution.{Solves}
use Rattle.method.proofs.Vectors.{Multiple}
use Rattle.method.proofs.Problem.{Problem, Answer, None, phi_degree, Ample}
use Rattle.method.proofs.CrossProduct.{conditions, psi_degree, Divided, multiple_nonnull, psi_nonnull, divide}

module _ (F : Field) where
  open F use {ring as R}

  -- after output i, where its fraction is a / h
  pub record Extends (i : ℕ) (Fs : ℕ → Series R) (G a h : Series R) (Fs' : ℕ → Series R) (G' : Series R) : Type 0 where
    pub new : Fs' i ≡ a
    pub old : (j : ℕ) → j < i → Fs' j ≡ mul_s R (Fs j) h
    pub denominator : G' ≡ mul_s R G h

module _ (F : Field) (N : ℕ) (T : Problem F.ring) where
  open F use {ring as R, one≢null}
  open R use {one}

  -- what is held after i outputs: the denominator G of degree d, the numerators Fs
  pub record Candidate (i : ℕ) (Fs : ℕ → Series R) (G : Series R) (d : ℕ) : Type 0 where
    pub monic : Monic F G d
    pub fits : d ≤ T.denominator_bound
    pub numerators_below : (j : ℕ) → j < i → Below R (Fs j) (suc (T.bound j))
    pub coprime : InIdeal F i Fs G (const_s R one)
    pub multiple : (f : ℕ → Series R) (g : Series R) → Answer F N T f g → Multiple F i f g Fs G

  pub first_candidate : (Fs : ℕ → Series R) → Candidate 0 Fs (const_s R one) 0
  first_candidate Fs = record {
    monic = monic_one F;
    fits = omega arith;
    numerators_below = λ j l. absurd (omega arith);
    coprime = last;
    multiple = λ f g a. record {
      q = g;
      q_polynomial = (suc T.denominator_bound, a.vector.denominator_below);
      denominator = sym (one-mul (series_ring R) g);
      numerators = λ j l. absurd (omega arith);
    };
  }

  module _ (H : Ample F T) (capacity : T.count < N) {i : ℕ} (li : i < T.outputs) {Fs : ℕ → Series R} {G : Series R} {d : ℕ}
      (C : Candidate i Fs G d) {phi psi : Series R}
      (S : Solves R (phi_degree F T) (psi_degree F N T G i) N (conditions F N G i T.row) T.count phi psi) where
    pub none_if_psi_null : psi ≡ null_s R → None F N T
    none_if_psi_null z f g a = psi_nonnull F N T f g a H capacity i li Fs G d C.monic C.fits (C.multiple f g a) phi psi S z

    module _ (W : LowestTerms F phi psi) where
      abbrev a' : Series R
      a' = W.numerator

      abbrev h : Series R
      h = W.denominator

      module _ (f : ℕ → Series R) (g : Series R) (a : Answer F N T f g) where
        D : Divided F (C.multiple f g a).q (f i) a' h
        D = divide F N T f g a H capacity i li Fs G d C.monic C.fits (C.multiple f g a) phi psi S W

        -- q = h rest, put into a multiple by q
        through : (s : Series R) {p : Series R} → p ≡ mul_s R s (C.multiple f g a).q → p ≡ mul_s R (mul_s R s h) D.rest
        through s e = e ∙ ap (mul_s R s) D.q_equation ∙ sym (mul_assoc (series_ring R) s h D.rest)

        rest_nonnull : D.rest ≢ null_s R
        rest_nonnull = multiple_nonnull F N T f g a {i = 0} {Fs = Fs} (record
            { q = D.rest; q_polynomial = D.rest_polynomial; denominator = through G (C.multiple f g a).denominator; numerators = λ j l. absurd (omega arith) })

        -- a bound of a multiple by rest bounds what is multiplied
        below_through : (b : ℕ) {p s : Series R} → Polynomial R s → p ≡ mul_s R s D.rest → Below R p b → Below R s b
        below_through b {p} {s} ps e low = by_degree (degree F D.rest_polynomial.0 D.rest D.rest_polynomial.1)
          where
            by_degree : NullOrDegree F D.rest_polynomial.0 D.rest → Below R s b
            by_degree (inl z) = absurd (rest_nonnull z)
            by_degree (inr t) = factor_below F D.rest s t.0 b t.1 ps
                (subst (λ t. Below R t b) (e ∙ mul_comm (series_ring R) s D.rest) low)

        answer_denominator : Below R (mul_s R G h) (suc T.denominator_bound)
        answer_denominator = below_through _ (polynomial-mul R _ _ (suc d, C.monic.low) (suc W.degree, W.monic.low))
            (through G (C.multiple f g a).denominator) a.vector.denominator_below

        answer_new : Below R a' (suc (T.bound i))
        answer_new = below_through _ W.numerator_polynomial D.f_equation (a.vector.numerators_below i li)

        answer_old : (j : ℕ) → j < i → Below R (mul_s R (Fs j) h) (suc (T.bound j))
        answer_old j l = below_through _ (polynomial-mul R _ _ (suc (T.bound j), C.numerators_below j l) (suc W.degree, W.monic.low))
            (through (Fs j) ((C.multiple f g a).numerators j l)) (a.vector.numerators_below j (omega arith))

      new_monic : Monic F (mul_s R G h) (d + W.degree)
      new_monic = monic_mul F G h d W.degree C.monic W.monic

      pub none_if_denominator_too_long : T.denominator_bound < d + W.degree → None F N T
      none_if_denominator_too_long long f g a = one≢null (sym new_monic.top ∙ answer_denominator f g a (d + W.degree) long)

      pub none_if_new_numerator_too_long : (Below R W.numerator (suc (T.bound i)) → ⊥) → None F N T
      none_if_new_numerator_too_long long f g a = long (answer_new f g a)

      -- told by the degrees, before the product is made
      pub none_if_old_numerator_too_long : (j t : ℕ) → j < i → HasDegree F (Fs j) t → T.bound j < t + W.degree → None F N T
      none_if_old_numerator_too_long j t l top long f g a =
          let s = degree-sum F (Fs j) h t W.degree (suc (T.bound j)) top (monic_degree F h W.degree W.monic) (answer_old f g a j l) in
          absurd (omega arith)

      module _ {Fs' : ℕ → Series R} {G' : Series R} (X : Extends F i Fs G W.numerator W.denominator Fs' G') where
        -- 1 was in the ideal, so h is in the new one
        h_member : InIdeal F (suc i) Fs' G' h
        h_member = wider (series_ring R) (Polynomial R) i Fs' G'
            (subst (InIdeal F i Fs' G') (sym (one-mul (series_ring R) _) ∙ sym times_h.2 ∙ mul-one (series_ring R) h) times_h.1)
          where
            times_h : (y : Series R) × InIdeal F i Fs' G' y × (mul_s R h (const_s R one) ≡ mul_s R (const_s R one) y)
            times_h = proportional (series_ring R) (Polynomial R) h (const_s R one) i Fs G Fs' G'
                (λ j l. mul_comm (series_ring R) h (Fs j) ∙ sym (X.old j l) ∙ sym (one-mul (series_ring R) (Fs' j)))
                (mul_comm (series_ring R) h G ∙ sym X.denominator ∙ sym (one-mul (series_ring R) G')) C.coprime

        pub next_candidate : d + W.degree ≤ T.denominator_bound → ((j : ℕ) → j < suc i → Below R (Fs' j) (suc (T.bound j)))
            → Candidate (suc i) Fs' G' (d + W.degree)
        next_candidate fits below = record {
          monic = subst (λ t. Monic F t (d + W.degree)) (sym X.denominator) new_monic;
          fits = fits;
          numerators_below = below;
          coprime = subst (InIdeal F (suc i) Fs' G') W.bezout (plus
              (times W.r W.r_polynomial (subst (InIdeal F (suc i) Fs' G') X.new (at i (omega arith))))
              (times W.s W.s-polynomial h_member));
          multiple = λ f g a. record {
            q = (D f g a).rest;
            q_polynomial = (D f g a).rest_polynomial;
            denominator = through f g a G (C.multiple f g a).denominator ∙ ap (λ t. mul_s R t (D f g a).rest) (sym X.denominator);
            numerators = below_suc (λ j. f j ≡ mul_s R (Fs' j) (D f g a).rest) i
                (λ j l. through f g a (Fs j) ((C.multiple f g a).numerators j l) ∙ ap (λ t. mul_s R t (D f g a).rest) (sym (X.old j l)))
                ((D f g a).f_equation ∙ ap (λ t. mul_s R t (D f g a).rest) (sym X.new));
          };
        }
