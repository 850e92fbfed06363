-- Monic polynomials, and fractions in lowest terms with a monic denominator.
use mathlib.Core.Path.{◌≡◌, sym, ◌∙◌, ap, ap₂, fun_ext}
use mathlib.Core.Logic.{◌≢◌}
use Prim.Native.Nat.{ℕ, zero, suc, ◌+◌, ◌≤◌}
use native.Mathlib.Omega.{arith}
use native.Mathlib.Nat.{add-zero}
use native.Mathlib.Decide.{dec_le, ℕ_discrete}
use Rattle.algebra.proofs.Ring.{mul_comm, mul-one, one-mul, mul_null}
use Rattle.algebra.proofs.Series.{Series, add_s, null_s, const_s, scale_s, mul_s, null_s_at, scale_s_at, const_s-zero, const_s-suc, const_s-mul, null_mul_s, mul_s_null, series_ring}
use Rattle.algebra.proofs.Bounds.{Below, below_mul, below_zero, below_scale, below_const_s, drop_top, Polynomial, polynomial_scale}
use Rattle.algebra.proofs.Identities.{bezout_divided, bezout_scaled, multiple_scaled}
use Rattle.algebra.proofs.Field.{Field}
use Rattle.algebra.proofs.Degree.{HasDegree, top_mul, regular}
use Rattle.algebra.proofs.Euclid.{CommonDivisor}

module _ (F : Field) where
  open F use {ring as R, one≢null}
  open R use {Carrier, mul as ◌⊗◌, null, one}

  infixl 70 ◌⊗◌
  -- of degree d, with leading coefficient 1
  pub record Monic (g : Series R) (d : ℕ) : Type 0 where
    pub top : g d ≡ one
    pub low : Below R g (suc d)

  pub monic_degree : (g : Series R) (d : ℕ) → Monic g d → HasDegree F g d
  monic_degree g d M = record { top = λ e. one≢null (sym M.top ∙ e); low = M.low }

  pub monic_nonnull : (g : Series R) (d : ℕ) → Monic g d → g ≢ null_s R
  monic_nonnull g d M e = one≢null (sym M.top ∙ ap (λ f. f d) e ∙ null_s_at R d)

  pub monic_mul : (f g : Series R) (a b : ℕ) → Monic f a → Monic g b → Monic (mul_s R f g) (a + b)
  monic_mul f g a b M N = record {
    top = top_mul F f g a b M.low N.low ∙ ap₂ ◌⊗◌ M.top N.top ∙ mul-one R one;
    low = λ k l. below_mul R f g (suc a) b M.low N.low k (omega arith);
  }

  pub monic_one : Monic (const_s R one) 0
  monic_one = record { top = const_s-zero R one; low = below_const_s R one }

  -- a polynomial of degree 0 is its constant term
  pub constant_of : (q : Series R) → Below R q 1 → q ≡ const_s R (q zero)
  constant_of q b = fun_ext at
    where
      at : (k : ℕ) → q k ≡ const_s R (q zero) k
      at zero = sym (const_s-zero R _)
      at (suc k) = b (suc k) (omega arith) ∙ sym (const_s-suc R _ k)

  pub scale_const_s : (a b : Carrier) → scale_s R a (const_s R b) ≡ const_s R (a ⊗ b)
  scale_const_s a b = fun_ext at
    where
      at : (k : ℕ) → scale_s R a (const_s R b) k ≡ const_s R (a ⊗ b) k
      at zero = scale_s_at R a _ zero ∙ ap (λ x. a ⊗ x) (const_s-zero R b) ∙ sym (const_s-zero R (a ⊗ b))
      at (suc k) = scale_s_at R a _ (suc k) ∙ ap (λ x. a ⊗ x) (const_s-suc R b k) ∙ mul_null R a ∙ sym (const_s-suc R (a ⊗ b) k)

  -- of two monic polynomials one is a constant times the other: the constant is 1
  pub monic_constant : (g h q : Series R) (d m : ℕ) → Monic g d → Monic h m → g ≡ mul_s R h q → Below R q 1 → q ≡ const_s R one
  monic_constant g h q d m Mg Mh e b = constant_of q b ∙ ap (const_s R) (by_degree (ℕ_discrete d m))
    where
      at_m : g m ≡ q zero
      at_m =
          ap (λ f. f m) e ∙ ap (mul_s R h q) (sym (add-zero m)) ∙ top_mul F h q m zero Mh.low b
          ∙ ap (λ x. x ⊗ q zero) Mh.top ∙ one-mul R _

      g_below : Below R g (suc m)
      g_below k l = ap (λ f. f k) e ∙ below_mul R h q (suc m) 0 Mh.low b k (omega arith)

      g_null : q zero ≡ null → g ≡ null_s R
      g_null z = e ∙ ap (mul_s R h) (below_zero R q (drop_top R q zero b z)) ∙ mul_s_null R h

      by_degree : Dec (d ≡ m) → q zero ≡ one
      by_degree (yes s) = sym at_m ∙ ap g (sym s) ∙ Mg.top
      by_degree (no s) = absurd (compare (dec_le d m))
        where
          compare : Dec (d ≤ m) → ⊥
          compare (yes l) = monic_nonnull g d Mg (g_null (sym at_m ∙ Mg.low m (omega arith)))
          compare (no l) = one≢null (sym Mg.top ∙ g_below d (omega arith))

  -- phi / psi = numerator / denominator, r numerator + s denominator = 1, and the denominator is monic
  pub record LowestTerms (phi psi : Series R) : Type 0 where
    pub common : Series R
    pub numerator : Series R
    pub denominator : Series R
    pub r : Series R
    pub s : Series R
    pub degree : ℕ
    pub monic : Monic denominator degree
    pub bezout : add_s R (mul_s R r numerator) (mul_s R s denominator) ≡ const_s R one
    pub numerator_equation : phi ≡ mul_s R common numerator
    pub denominator_equation : psi ≡ mul_s R common denominator
    pub common_polynomial : Polynomial R common
    pub numerator_polynomial : Polynomial R numerator
    pub r_polynomial : Polynomial R r
    pub s-polynomial : Polynomial R s

  module _ (phi psi : Series R) (C : CommonDivisor F phi psi) (nz : psi ≢ null_s R) where
    coprime : add_s R (mul_s R C.u C.f') (mul_s R C.v C.g') ≡ const_s R one
    coprime =
        regular F C.divisor_polynomial.0 C.divisor C.divisor_polynomial.1 divisor_nonnull _ _
        (bezout_divided (series_ring R) C.divisor C.u C.v phi psi C.f' C.g' C.combination C.left_multiple C.right_multiple)
      where
        divisor_nonnull : C.divisor ≢ null_s R
        divisor_nonnull e = nz (C.right_multiple ∙ ap (λ x. mul_s R x C.g') e ∙ null_mul_s R C.g')

    -- k is the leading coefficient of g', and i its reciprocal
    module _ (m : ℕ) (dg : HasDegree F C.g' m) (k : Carrier) (ek : k ≡ C.g' m) (i : Carrier) (unit : k ⊗ i ≡ one) where
      constants : mul_s R (const_s R k) (const_s R i) ≡ const_s R one
      constants = const_s-mul R k _ ∙ scale_const_s k i ∙ ap (const_s R) unit

      scaled : (d f h : Series R) → h ≡ mul_s R d f → h ≡ mul_s R (scale_s R k d) (scale_s R i f)
      scaled d f h e =
          e ∙ multiple_scaled (series_ring R) (const_s R k) (const_s R i) d f constants
          ∙ ap₂ (mul_s R) (const_s-mul R k d) (const_s-mul R i f)

      pub scaled_bezout : add_s R (mul_s R (scale_s R k C.u) (scale_s R i C.f')) (mul_s R (scale_s R k C.v) (scale_s R i C.g')) ≡ const_s R one
      scaled_bezout =
          ap₂ (add_s R)
          (ap₂ (mul_s R) (sym (const_s-mul R k C.u)) (sym (const_s-mul R i C.f')))
          (ap₂ (mul_s R) (sym (const_s-mul R k C.v)) (sym (const_s-mul R i C.g')))
          ∙ bezout_scaled (series_ring R) (const_s R k) (const_s R i) C.u C.v C.f' C.g' constants coprime

      pub scaled_monic : Monic (scale_s R i C.g') m
      scaled_monic = record {
        top = scale_s_at R i C.g' m ∙ ap (λ x. i ⊗ x) (sym ek) ∙ mul_comm R _ _ ∙ unit;
        low = below_scale R i C.g' (suc m) dg.low;
      }

      pub scaled_numerator : phi ≡ mul_s R (scale_s R k C.divisor) (scale_s R i C.f')
      scaled_numerator = scaled C.divisor C.f' phi C.left_multiple

      pub scaled-denominator : psi ≡ mul_s R (scale_s R k C.divisor) (scale_s R i C.g')
      scaled-denominator = scaled C.divisor C.g' psi C.right_multiple

      -- from any common divisor
      abbrev pub lowest_terms_of : LowestTerms phi psi
      lowest_terms_of = record {
        common = scale_s R k C.divisor;
        numerator = scale_s R i C.f';
        denominator = scale_s R i C.g';
        r = scale_s R k C.u;
        s = scale_s R k C.v;
        degree = m;
        monic = scaled_monic;
        bezout = scaled_bezout;
        numerator_equation = scaled_numerator;
        denominator_equation = scaled-denominator;
        common_polynomial = polynomial_scale R k _ C.divisor_polynomial;
        numerator_polynomial = polynomial_scale R i _ C.f'_polynomial;
        r_polynomial = polynomial_scale R k _ C.u_polynomial;
        s-polynomial = polynomial_scale R k _ C.v_polynomial;
      }
