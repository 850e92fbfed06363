-- Degrees of polynomials over a field: leading coefficients multiply, so that degrees of products add, polynomials that
-- are not null can be cancelled, and units are constants.
use mathlib.Core.Path.{◌≡◌, sym, ◌∙◌, ap}
use mathlib.Core.Logic.{◌≢◌, ◌⊎◌, inl, inr}
use Prim.Native.Nat.{ℕ, zero, suc, ◌+◌, ◌-◌, ◌<◌}
use native.Mathlib.Omega.{arith}
use native.Mathlib.Nat.{suc-add, zero-add}
use native.Mathlib.Decide.{dec_lt}
use Rattle.algebra.proofs.Ring.{Ring, add_null, null_add, mul_null, mul-add, mul-neg, add-neg, sub_null}
use Rattle.algebra.proofs.Series.{Series, tail, add_s, neg_s, null_s, const_s, mul_s, mul_s-zero, mul_s-suc, null_s_at, const_s-zero, null_mul_s_at, mul_s_null, series_ring}
use Rattle.algebra.proofs.Bounds.{Below, below_mono, below_tail, below_zero, below_const_s, drop_top, Polynomial}
use Rattle.algebra.proofs.Field.{Field, nonzero_mul, no_zero_divisors}

module _ (F : Field) where
  open F use {ring as R, dec, one≢null}
  open R use {mul as ◌⊗◌, null, one}

  infixl 70 ◌⊗◌
  -- a is the degree of f, and f a its leading coefficient
  pub record HasDegree (f : Series R) (a : ℕ) : Type 0 where
    pub top : f a ≢ null
    pub low : Below R f (suc a)

  -- a polynomial below n: null, or of a degree that is less than n
  abbrev pub NullOrDegree : ℕ → Series R → Type 0
  NullOrDegree n f = (f ≡ null_s R) ⊎ ((a : ℕ) × HasDegree f a × (a < n))

  pub degree : (n : ℕ) (f : Series R) → Below R f n → NullOrDegree n f
  degree zero f b = inl (below_zero R f b)
  degree (suc n) f b = by_top (dec (f n) null) (degree n f)
    where
      wider : NullOrDegree n f → NullOrDegree (suc n) f
      wider (inl e) = inl e
      wider (inr t) = inr (t.0, t.1, (let l = t.2 in omega arith))

      by_top : Dec (f n ≡ null) → (Below R f n → NullOrDegree n f) → NullOrDegree (suc n) f
      by_top (yes z) ih = wider (ih (drop_top R f n b z))
      by_top (no nz) ih = inr (n, record { top = nz; low = b }, omega arith)

  pub top_mul : (f g : Series R) (a b : ℕ) → Below R f (suc a) → Below R g (suc b) → mul_s R f g (a + b) ≡ f a ⊗ g b
  top_mul f g zero b bf bg = rw zero-add (constant b)
    where
      constant : (k : ℕ) → mul_s R f g k ≡ f zero ⊗ g k
      constant zero = mul_s-zero R f g
      constant (suc k) = rw (mul_s-suc, below_zero R (tail R f) (below_tail R f zero bf), null_mul_s_at, add_null)
  top_mul f g (suc a) b bf bg =
      rw (suc-add, mul_s-suc, bg (suc (a + b)) (omega arith), mul_null, null_add) (top_mul (tail R f) g a b (below_tail R f (suc a) bf) bg)

  -- a bound of a product is more than the sum of the degrees
  pub degree-sum : (f g : Series R) (a b n : ℕ) → HasDegree f a → HasDegree g b → Below R (mul_s R f g) n → a + b < n
  degree-sum f g a b n df dg bound = decide (dec_lt (a + b) n)
    where
      decide : Dec (a + b < n) → a + b < n
      decide (yes l) = l
      decide (no l) =
          absurd (nonzero_mul F (f a) (g b) df.top dg.top
          (sym (top_mul f g a b df.low dg.low) ∙ bound (a + b) (omega arith)))

  -- a bound of a product, less the degree of one factor, bounds the other
  pub cofactor_below : (f g : Series R) (a n : ℕ) → HasDegree f a → Polynomial R g → Below R (mul_s R f g) n → Below R g (n - a)
  cofactor_below f g a n df pg bound = by_degree (degree pg.0 g pg.1)
    where
      by_degree : NullOrDegree pg.0 g → Below R g (n - a)
      by_degree (inl e) k l = ap (λ t. t k) e ∙ null_s_at R k
      by_degree (inr t) k l = t.1.low k (let s = degree-sum f g a t.0 n df t.1 bound in omega arith)

  -- a bound of a product bounds its factors
  pub factor_below : (f g : Series R) (a n : ℕ) → HasDegree f a → Polynomial R g → Below R (mul_s R f g) n → Below R g n
  factor_below f g a n df pg bound = below_mono R g (n - a) n (omega arith) (cofactor_below f g a n df pg bound)

  pub dec_null : (n : ℕ) (h : Series R) → Below R h n → Dec (h ≡ null_s R)
  dec_null n h b = by_degree (degree n h b)
    where
      by_degree : NullOrDegree n h → Dec (h ≡ null_s R)
      by_degree (inl e) = yes e
      by_degree (inr t) = no (λ e. t.1.top (ap (λ s. s t.0) e ∙ null_s_at R _))

  -- a polynomial that is not null can be cancelled
  pub regular : (n : ℕ) (g : Series R) → Below R g n → g ≢ null_s R → (x y : Series R) → mul_s R g x ≡ mul_s R g y → x ≡ y
  regular n g b nz x y e = by_factor (no_zero_divisors F n g (add_s R x (neg_s R y)) b (difference (series_ring R) g x y e))
    where
      difference : (P : Ring) (g x y : P.Carrier) → P.mul g x ≡ P.mul g y → P.mul g (P.add x (P.neg y)) ≡ P.null
      difference P g x y e = rw (mul-add, mul-neg, e, add-neg)

      by_factor : (g ≡ null_s R) ⊎ (add_s R x (neg_s R y) ≡ null_s R) → x ≡ y
      by_factor (inl z) = absurd (nz z)
      by_factor (inr z) = sub_null (series_ring R) x y z

  pub unit_constant : (f g : Series R) → Polynomial R f → Polynomial R g → mul_s R f g ≡ const_s R one → Below R f 1
  unit_constant f g pf pg e = by_degree (degree pf.0 f pf.1) (degree pg.0 g pg.1)
    where
      product_below : Below R (mul_s R f g) 1
      product_below k l = ap (λ t. t k) e ∙ below_const_s R one k l

      by_degree : NullOrDegree pf.0 f → NullOrDegree pg.0 g → Below R f 1
      by_degree (inl z) d k l = ap (λ t. t k) z ∙ null_s_at R k
      by_degree (inr t) (inl z) k l =
          absurd (one≢null (sym (const_s-zero R one) ∙ ap (λ s. s zero) (sym e ∙ ap (mul_s R f) z ∙ mul_s_null R f) ∙ null_s_at R zero))
      by_degree (inr t) (inr s) k l =
          t.1.low k (let m = degree-sum f g t.0 s.0 1 t.1 s.1 product_below in omega arith)
