-- Two operations on polynomials that the interpolation uses, combination c f - c' g and multiplication by u - x: what each does to
-- values, to the coefficients that vanish, and to the leading coefficient.
use mathlib.Core.Path.{◌≡◌, sym, ◌∙◌, ap}
use mathlib.Core.Logic.{◌≢◌}
use Prim.Native.Nat.{ℕ, zero, suc, ◌+◌, ◌≤◌, ◌<◌}
use native.Mathlib.Omega.{arith}
use Rattle.algebra.proofs.Ring.{Ring, ring, null_add, mul_null}
use Rattle.algebra.proofs.Series.{Series, add_s, neg_s, null_s, const_s, scale_s, mul_s, add_s_at, neg_s_at, scale_s_at, null_s_at, const_s-zero, const_s-suc}
use Rattle.algebra.proofs.Bounds.{Below, below_mono, below_mul, below_add, below_neg, below_scale}
use Rattle.algebra.proofs.Value.{value, value-add, value-neg, value_scale, value_stable, linear, linear_below, linear-mul-zero, linear-mul-suc, value-linear, value-mul_within}
use Rattle.algebra.proofs.Field.{Field, cancel}

module _ (R : Ring) where
  open R use {Carrier, add as ◌⊕◌, mul as ◌⊗◌, neg as ⊖◌, null, one}

  infixl 60 ◌⊕◌
  infixl 70 ◌⊗◌
  infix 80 ⊖◌
  -- c f - c' g
  unfoldable pub combine : Carrier → Series R → Carrier → Series R → Series R
  combine c f c' g = add_s R (scale_s R c f) (neg_s R (scale_s R c' g))

  combine_at : (c : Carrier) (f : Series R) (c' : Carrier) (g : Series R) (k : ℕ) → combine c f c' g k ≡ c ⊗ f k ⊕ ⊖ (c' ⊗ g k)
  unfolding combine
  combine_at c f c' g k = rw (add_s_at, neg_s_at, scale_s_at, scale_s_at)

  pub value-combine : (n : ℕ) (c : Carrier) (f : Series R) (c' : Carrier) (g : Series R) (x : Carrier)
      → value R n (combine c f c' g) x ≡ c ⊗ value R n f x ⊕ ⊖ (c' ⊗ value R n g x)
  unfolding combine
  value-combine n c f c' g x = rw (value-add, value-neg, value_scale, value_scale)

  pub below_combine : (c : Carrier) (f : Series R) (c' : Carrier) (g : Series R) (n : ℕ) → Below R f n → Below R g n → Below R (combine c f c' g) n
  unfolding combine
  below_combine c f c' g n hf hg = below_add R _ _ n (below_scale R c f n hf) (below_neg R _ n (below_scale R c' g n hg))

  pub below_linear-mul : (x : Carrier) (f : Series R) (k : ℕ) → Below R f (suc k) → Below R (mul_s R (linear R x) f) (suc (suc k))
  below_linear-mul x f k h = below_mono R _ (2 + k) (suc (suc k)) (omega arith) (below_mul R (linear R x) f 2 k (linear_below R x) h)

  -- the value of (u - x) f, where its coefficients fit into N places
  pub value-linear_within : (N k : ℕ) (f : Series R) (x y : Carrier) → Below R f (suc k) → suc k < N
      → value R N (mul_s R (linear R x) f) y ≡ (y ⊕ ⊖ x) ⊗ value R N f y
  value-linear_within N k f x y h l =
      value-mul_within R 2 (suc k) (suc (suc k)) N N (linear R x) f y (linear_below R x) h (below_linear-mul x f k h) (omega arith) (omega arith) (omega arith)
      ∙ ap (λ t. t ⊗ value R N f y) (value_stable R 2 N (linear R x) y (linear_below R x) (omega arith) ∙ value-linear R x y)

  -- f[m] = 0 where e ≤ m + A
  abbrev NullFrom : Series R → ℕ → ℕ → Type 0
  NullFrom f e A = (m : ℕ) → e ≤ m + A → f m ≡ null

  null_from_linear : (x : Carrier) (f : Series R) (e A : ℕ) → NullFrom f e A → NullFrom (mul_s R (linear R x) f) (suc e) A
  null_from_linear x f e A h zero l = rw (linear-mul-zero, h zero (omega arith)) (mul_null R _)
  null_from_linear x f e A h (suc m) l = rw (linear-mul-suc, h (suc m) (omega arith), h m (omega arith)) (simp ring)

  null_from_combine : (c : Carrier) (f : Series R) (c' : Carrier) (g : Series R) (e A : ℕ)
      → NullFrom f e A → NullFrom g e A → NullFrom (combine c f c' g) e A
  null_from_combine c f c' g e A hf hg m l = rw (combine_at, hf m l, hg m l) (simp ring)

  -- a pair with the number e that leads in f: f[e - A] is its last coefficient that is not 0, and g[m] = 0 where t + e ≤ m + B; t is 0 for
  -- the pair that leads in the numerator, and 1 for the other
  pub record Leading (f : Series R) (A : ℕ) (g : Series R) (B t e : ℕ) : Type 0 where
    pub fits : A ≤ e
    pub top : (m : ℕ) → m + A ≡ e → f m ≢ null
    pub f_null : (m : ℕ) → suc e ≤ m + A → f m ≡ null
    pub g_null : (m : ℕ) → t + e ≤ m + B → g m ≡ null

  -- the leading coefficient of (u - x) f is that of f
  pub leading-linear : (x : Carrier) {f : Series R} {A : ℕ} {g : Series R} {B t e : ℕ} → Leading f A g B t e
      → Leading (mul_s R (linear R x) f) A (mul_s R (linear R x) g) B t (suc e)
  leading-linear x {f} {A} {g} {B} {t} {e} L = record {
    fits = (let l = L.fits in omega arith);
    top = top;
    f_null = null_from_linear x f (suc e) A L.f_null;
    g_null = λ m l. null_from_linear x g (t + e) B L.g_null m (omega arith);
  }
    where
      top : (m : ℕ) → m + A ≡ suc e → mul_s R (linear R x) f m ≢ null
      top zero p q = absurd (let l = L.fits in omega arith)
      top (suc m) p q = L.top m (omega arith)
          (let r : ⊖ x ⊗ f (suc m) ⊕ f m ≡ null = sym (linear-mul-suc R x f m) ∙ q in
          simp (L.f_null (suc m) (omega arith), mul_null, null_add) at r)

module _ (F : Field) where
  open F use {ring as R, one≢null}
  open R use {Carrier, add as ◌⊕◌, mul as ◌⊗◌, neg as ⊖◌, null, one}

  infixl 60 ◌⊕◌
  infixl 70 ◌⊗◌
  infix 80 ⊖◌
  -- c times a pair less c' times one that leads in the other polynomial and is shorter: the leading coefficient is c times that of f
  pub leading-combine : {c : Carrier} (c' : Carrier) {f g f' g' : Series R} {A B t t' e e' : ℕ} → c ≢ null → Leading R f A g B t e → Leading R f' B g' A t' e'
      → t' + e' ≤ e → suc e' ≤ t + e → Leading R (combine R c f c' g') A (combine R c g c' f') B t e
  leading-combine {c} c' {f} {g} {f'} {g'} {A} {B} {t} {t'} {e} {e'} nz L L' short short' = record {
    fits = L.fits;
    top = λ m p q. L.top m p (cancel F c (f m) nz
        (sym (alone (c ⊗ f m) c' (g' m) (L'.g_null m (omega arith))) ∙ sym (combine_at R c f c' g' m) ∙ q));
    f_null = null_from_combine R c f c' g' (suc e) A L.f_null (λ m l. L'.g_null m (omega arith));
    g_null = null_from_combine R c g c' f' (t + e) B L.g_null (λ m l. L'.f_null m (omega arith));
  }
    where
      alone : (a c' b : Carrier) → b ≡ null → a ⊕ ⊖ (c' ⊗ b) ≡ a
      alone a c' b e = rw e (simp ring)

  -- the pair of 1 and 0
  pub leading_one : (A B t : ℕ) → Leading R (const_s R one) A (null_s R) B t A
  leading_one A B t = record { fits = omega arith; top = top; f_null = f_null; g_null = λ m l. null_s_at R m }
    where
      top : (m : ℕ) → m + A ≡ A → const_s R one m ≢ null
      top zero p q = one≢null (sym (const_s-zero R one) ∙ q)
      top (suc m) p q = absurd (omega arith)

      f_null : (m : ℕ) → suc A ≤ m + A → const_s R one m ≡ null
      f_null zero l = absurd (omega arith)
      f_null (suc m) l = const_s-suc R one m
