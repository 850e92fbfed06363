-- Euclid's algorithm: a common divisor of two polynomials that is a combination of them.
use mathlib.Core.Path.{◌≡◌, sym, ◌∙◌, ap₂}
use Prim.Native.Nat.{ℕ, zero, suc}
use Rattle.algebra.proofs.Ring.{add_null, mul_null, null_mul, mul-one, one-mul}
use Rattle.algebra.proofs.Series.{Series, add_s, neg_s, null_s, const_s, mul_s, series_ring}
use Rattle.algebra.proofs.Bounds.{Below, below_zero, drop_top, Polynomial, polynomial-add, polynomial-neg, polynomial-mul, polynomial_null, polynomial-const_s}
use Rattle.algebra.proofs.Identities.{euclid_combination, euclid_multiple}
use Rattle.algebra.proofs.Field.{Field}
use Rattle.algebra.proofs.Division.{Division, divide}

module _ (F : Field) where
  open F use {ring as R, dec}
  open R use {null, one}

  -- divisor = u f + v g, f = divisor f', g = divisor g'
  pub record CommonDivisor (f g : Series R) : Type 0 where
    pub divisor : Series R
    pub u : Series R
    pub v : Series R
    pub f' : Series R
    pub g' : Series R
    pub combination : divisor ≡ add_s R (mul_s R u f) (mul_s R v g)
    pub left_multiple : f ≡ mul_s R divisor f'
    pub right_multiple : g ≡ mul_s R divisor g'
    pub divisor_polynomial : Polynomial R divisor
    pub u_polynomial : Polynomial R u
    pub v_polynomial : Polynomial R v
    pub f'_polynomial : Polynomial R f'
    pub g'_polynomial : Polynomial R g'

  -- where the algorithm stops: f is the divisor. (This and the step are abbrevs, so that the divisor can be read off.)
  abbrev pub euclid_stop : (f g : Series R) → Polynomial R f → g ≡ null_s R → CommonDivisor f g
  euclid_stop f g p e = record {
    divisor = f;
    u = const_s R one;
    v = null_s R;
    f' = const_s R one;
    g' = null_s R;
    combination = sym (ap₂ (add_s R) (one-mul (series_ring R) f) (null_mul (series_ring R) g) ∙ add_null (series_ring R) f);
    left_multiple = sym (mul-one (series_ring R) f);
    right_multiple = e ∙ sym (mul_null (series_ring R) f);
    divisor_polynomial = p;
    u_polynomial = polynomial-const_s R one;
    v_polynomial = polynomial_null R;
    f'_polynomial = polynomial-const_s R one;
    g'_polynomial = polynomial_null R;
  }

  -- one step: the divisor of g and the remainder of f by g is one of f and g
  abbrev pub euclid_step : (f g : Series R) (n m : ℕ) (D : Division F f g n m) → CommonDivisor g D.remainder → CommonDivisor f g
  euclid_step f g n m D C = record {
    divisor = C.divisor;
    u = C.v;
    v = add_s R C.u (neg_s R (mul_s R C.v D.quotient));
    f' = add_s R (mul_s R D.quotient C.f') C.g';
    g' = C.f';
    combination = euclid_combination (series_ring R) C.divisor f g D.quotient D.remainder C.u C.v C.combination D.equation;
    left_multiple = euclid_multiple (series_ring R) C.divisor f g D.quotient D.remainder C.f' C.g' D.equation C.left_multiple C.right_multiple;
    right_multiple = C.left_multiple;
    divisor_polynomial = C.divisor_polynomial;
    u_polynomial = C.v_polynomial;
    v_polynomial = polynomial-add R _ _ C.u_polynomial (polynomial-neg R _ (polynomial-mul R _ _ C.v_polynomial (n, D.quotient_below)));
    f'_polynomial = polynomial-add R _ _ (polynomial-mul R _ _ (n, D.quotient_below) C.f'_polynomial) C.g'_polynomial;
    g'_polynomial = C.f'_polynomial;
  }

  pub euclid : (n : ℕ) (f g : Series R) → Polynomial R f → Below R g n → CommonDivisor f g
  euclid zero f g p b = euclid_stop f g p (below_zero R g b)
  euclid (suc n) f g p b = by_top (dec (g n) null) (euclid n)
    where
      by_top : Dec (g n ≡ null) → ((f g : Series R) → Polynomial R f → Below R g n → CommonDivisor f g) → CommonDivisor f g
      by_top (yes z) ih = ih f g p (drop_top R g n b z)
      by_top (no nz) ih =
          let D = divide F g n (record { top = nz; low = b }) p.0 f p.1 in
          euclid_step f g p.0 n D (ih g D.remainder (suc n, b) D.remainder_below)
