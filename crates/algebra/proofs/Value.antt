-- Values of polynomials, and the division by u − x.
use mathlib.Core.Path.{◌≡◌, refl, sym, ◌∙◌, ap, ap₂, fun_ext}
use Prim.Native.Nat.{ℕ, zero, suc, ◌+◌, ◌≤◌}
use native.Mathlib.Omega.{arith}
use Rattle.algebra.proofs.Ring.{Ring, ring, add_comm, add_null, mul_null, null_mul, neg_null, neg-mul, neg_unique, one-mul}
use Rattle.algebra.proofs.Series.{Series, tail, cons, add_s, neg_s, null_s, const_s, scale_s, mul_s, mul_s-zero, const_s-mul_at, null_mul_s}
use Rattle.algebra.proofs.Bounds.{Below, below_tail, below_zero}

module _ (R : Ring) where
  open R use {Carrier, add as ◌⊕◌, mul as ◌⊗◌, neg as ⊖◌, null, one}

  infixl 60 ◌⊕◌
  infixl 70 ◌⊗◌
  infix 80 ⊖◌
  -- the value at x of the first n coefficients
  unfoldable pub value : ℕ → Series R → Carrier → Carrier
  value zero f x = null
  value (suc n) f x = f zero ⊕ x ⊗ value n (tail R f) x

  pub value-suc : (n : ℕ) (f : Series R) (x : Carrier) → value (suc n) f x ≡ f zero ⊕ x ⊗ value n (tail R f) x
  unfolding value
  value-suc n f x = refl

  pub value-zero : (f : Series R) (x : Carrier) → value zero f x ≡ null
  unfolding value
  value-zero f x = refl

  pub value-add : (n : ℕ) (f g : Series R) (x : Carrier) → value n (add_s R f g) x ≡ value n f x ⊕ value n g x
  unfolding value add_s
  value-add zero f g x = sym (add_null R null)
  value-add (suc n) f g x =
      ap (λ v. f zero ⊕ g zero ⊕ x ⊗ v) (value-add n (tail R f) (tail R g) x) ∙ simp (ring, value-suc)

  pub value-neg : (n : ℕ) (f : Series R) (x : Carrier) → value n (neg_s R f) x ≡ ⊖ (value n f x)
  unfolding value neg_s
  value-neg zero f x = sym (neg_null R)
  value-neg (suc n) f x = ap (λ v. ⊖ (f zero) ⊕ x ⊗ v) (value-neg n (tail R f) x) ∙ simp (ring, value-suc)

  pub value_scale : (n : ℕ) (c : Carrier) (f : Series R) (x : Carrier) → value n (scale_s R c f) x ≡ c ⊗ value n f x
  unfolding value scale_s
  value_scale zero c f x = sym (mul_null R c)
  value_scale (suc n) c f x = ap (λ v. c ⊗ f zero ⊕ x ⊗ v) (value_scale n c (tail R f) x) ∙ simp (ring, value-suc)

  pub value_null : (n : ℕ) (x : Carrier) → value n (null_s R) x ≡ null
  unfolding value null_s
  value_null zero x = refl
  value_null (suc n) x = ap (λ v. null ⊕ x ⊗ v) (value_null n x) ∙ simp ring

  -- coefficients past the bound change nothing
  pub value_stable : (n m : ℕ) (f : Series R) (x : Carrier) → Below R f n → n ≤ m → value m f x ≡ value n f x
  unfolding value
  value_stable zero m f x b l = rw (below_zero R f b) (value_null m x)
  value_stable (suc n) zero f x b l = absurd (let l' : suc n ≤ zero = l in omega arith)
  value_stable (suc n) (suc m) f x b l =
      ap (λ v. f zero ⊕ x ⊗ v) (value_stable n m (tail R f) x (below_tail R f n b) (omega arith))

  tail-mul : (f g : Series R) → tail R (mul_s R f g) ≡ add_s R (scale_s R (f zero) (tail R g)) (mul_s R (tail R f) g)
  unfolding mul_s add_s scale_s
  tail-mul f g = refl

  pub value-mul : (a b m : ℕ) (f g : Series R) (x : Carrier) → Below R f a → Below R g b → a + b ≤ m
      → value m (mul_s R f g) x ≡ value a f x ⊗ value b g x
  value-mul zero b m f g x bf bg l = rw (below_zero R f bf, value-zero, null_mul_s, value_null, null_mul)
  value-mul (suc a) b zero f g x bf bg l = absurd (omega arith)
  value-mul (suc a) b (suc m) f g x bf bg l =
      let e : value b g x ≡ g zero ⊕ x ⊗ value m (tail R g) x = sym (value_stable b (suc m) g x bg (omega arith)) ∙ value-suc m g x in
      rw (value-suc m, tail-mul, value-add, value_scale, value-mul a b m (tail R f) g x (below_tail R f a bf) bg (omega arith), value-suc a, e)
      (simp (ring, mul_s-zero))

  -- the same where m is enough for the product, and one N for both factors
  pub value-mul_within : (a b c m N : ℕ) (f g : Series R) (x : Carrier) → Below R f a → Below R g b → Below R (mul_s R f g) c
      → c ≤ m → a ≤ N → b ≤ N → value m (mul_s R f g) x ≡ value N f x ⊗ value N g x
  value-mul_within a b c m N f g x bf bg bc lm la lb =
      value_stable c m (mul_s R f g) x bc lm
      ∙ sym (value_stable c (c + (a + b)) (mul_s R f g) x bc (omega arith))
      ∙ value-mul a b (c + (a + b)) f g x bf bg (omega arith)
      ∙ sym (ap₂ ◌⊗◌ (value_stable a N f x bf la) (value_stable b N g x bg lb))

  -- u − x
  unfoldable pub linear : Carrier → Series R
  linear x = cons R (⊖ x) (const_s R one)

  pub linear_one : (x : Carrier) → linear x 1 ≡ one
  unfolding linear cons const_s
  linear_one x = refl

  pub linear_below : (x : Carrier) → Below R (linear x) 2
  unfolding linear cons const_s
  linear_below x zero l = absurd (omega arith)
  linear_below x (suc zero) l = absurd (omega arith)
  linear_below x (suc (suc k)) l = refl

  pub linear-mul-zero : (x : Carrier) (q : Series R) → mul_s R (linear x) q zero ≡ ⊖ x ⊗ q zero
  unfolding linear cons mul_s
  linear-mul-zero x q = refl

  pub linear-mul-suc : (x : Carrier) (q : Series R) (k : ℕ) → mul_s R (linear x) q (suc k) ≡ ⊖ x ⊗ q (suc k) ⊕ q k
  unfolding linear cons mul_s
  linear-mul-suc x q k = ap (λ v. ⊖ x ⊗ q (suc k) ⊕ v) (const_s-mul_at R one q k ∙ one-mul R _)

  pub value-linear : (x y : Carrier) → value 2 (linear x) y ≡ y ⊕ ⊖ x
  unfolding linear cons const_s value
  value-linear x y = let e : ⊖ x ⊕ y ⊗ (one ⊕ y ⊗ null) ≡ y ⊕ ⊖ x = simp ring in e

  pub value-linear-mul : (n : ℕ) (f : Series R) (x y : Carrier) → Below R f n
      → value (2 + n) (mul_s R (linear x) f) y ≡ (y ⊕ ⊖ x) ⊗ value n f y
  value-linear-mul n f x y b =
      value-mul 2 n (2 + n) (linear x) f y (linear_below x) b (omega arith) ∙ ap (λ v. v ⊗ value n f y) (value-linear x y)

  -- the quotient of h by u − x; n is the number of h's coefficients less one
  unfoldable pub quotient_at : ℕ → Series R → Carrier → Series R
  quotient_at n h x zero = value n (tail R h) x
  quotient_at n h x (suc k) = quotient_at n (tail R h) x k

  pub quotient_at_below : (n m : ℕ) (h : Series R) (x : Carrier) → Below R h (suc n) → Below R (quotient_at m h x) n
  unfolding quotient_at
  quotient_at_below zero m h x b zero l =
      ap (λ f. value m f x) (below_zero R (tail R h) (below_tail R h zero b)) ∙ value_null m x
  quotient_at_below zero m h x b (suc k) l = quotient_at_below zero m (tail R h) x (λ j l'. b (suc j) (omega arith)) k (omega arith)
  quotient_at_below (suc n) m h x b zero l = absurd (omega arith)
  quotient_at_below (suc n) m h x b (suc k) l = quotient_at_below n m (tail R h) x (below_tail R h (suc n) b) k (omega arith)

  quotient_at-step : (n : ℕ) (h : Series R) (x : Carrier) (k : ℕ) → Below R h (suc n)
      → quotient_at n h x k ≡ h (suc k) ⊕ x ⊗ quotient_at n h x (suc k)
  unfolding quotient_at value
  quotient_at-step n h x zero b = sym (value_stable n (suc n) (tail R h) x (below_tail R h n b) (omega arith))
  quotient_at-step n h x (suc k) b = quotient_at-step n (tail R h) x k (λ j l'. b (suc j) (omega arith))

  pub factor_at_root : (n : ℕ) (h : Series R) (x : Carrier) → Below R h (suc n) → value (suc n) h x ≡ null
      → mul_s R (linear x) (quotient_at n h x) ≡ h
  unfolding quotient_at
  factor_at_root n h x b e = fun_ext at
    where
      at : (k : ℕ) → mul_s R (linear x) (quotient_at n h x) k ≡ h k
      at zero =
          rw (linear-mul-zero, neg-mul)
          (sym (neg_unique R (x ⊗ quotient_at n h x zero) (h zero) (add_comm R _ _ ∙ sym (value-suc n h x) ∙ e)))
      at (suc k) = rw (linear-mul-suc, quotient_at-step n h x k b) (simp ring)
