-- Degree bounds: a polynomial is a series whose coefficients are null from some place on.
use mathlib.Core.Path.{◌≡◌, refl, ◌∙◌, ap, fun_ext}
use Prim.Native.Nat.{ℕ, zero, suc, ◌+◌, ◌≤◌}
use native.Mathlib.Omega.{arith}
use native.Mathlib.Decide.{ℕ_discrete}
use Rattle.algebra.proofs.Ring.{Ring, ring, add_null, neg_null, mul_null, null_mul}
use Rattle.algebra.proofs.Series.{Series, tail, cons, add_s, neg_s, null_s, const_s, scale_s, mul_s, add_s_at, neg_s_at, scale_s_at, mul_s-zero, mul_s-suc, const_s-suc, null_mul_s_at}

module _ (R : Ring) where
  open R use {Carrier, null}

  -- every coefficient from n on is null: the degree is below n
  abbrev pub Below : Series R → ℕ → Type 0
  Below f n = (k : ℕ) → n ≤ k → f k ≡ null

  pub below_tail : (f : Series R) (n : ℕ) → Below f (suc n) → Below (tail R f) n
  below_tail f n b k l = b (suc k) (omega arith)

  pub below_mono : (f : Series R) (n m : ℕ) → n ≤ m → Below f n → Below f m
  below_mono f n m l b k l' = b k (omega arith)

  pub below_add : (f g : Series R) (n : ℕ) → Below f n → Below g n → Below (add_s R f g) n
  below_add f g n bf bg k l = rw (add_s_at, bf k l, bg k l) (add_null R null)

  pub below_neg : (f : Series R) (n : ℕ) → Below f n → Below (neg_s R f) n
  below_neg f n b k l = rw (neg_s_at, b k l) (neg_null R)

  pub below_scale : (c : Carrier) (f : Series R) (n : ℕ) → Below f n → Below (scale_s R c f) n
  below_scale c f n b k l = rw (scale_s_at, b k l) (mul_null R c)

  pub below_zero : (f : Series R) → Below f zero → f ≡ null_s R
  unfolding null_s
  below_zero f b = fun_ext (λ k. b k (omega arith))

  -- degrees add: below n and at most m give below n + m
  pub below_mul : (f g : Series R) (n m : ℕ) → Below f n → Below g (suc m) → Below (mul_s R f g) (n + m)
  below_mul f g zero m bf bg k l = rw (below_zero f bf) (null_mul_s_at R g k)
  below_mul f g (suc n) m bf bg zero l = rw (mul_s-zero, bf zero (omega arith)) (null_mul R _)
  below_mul f g (suc n) m bf bg (suc k) l =
      rw (mul_s-suc, bg (suc k) (omega arith), below_mul (tail R f) g n m (below_tail f n bf) bg k (omega arith)) (simp ring)

  pub below_cons : (c : Carrier) (f : Series R) (n : ℕ) → Below f n → Below (cons R c f) (suc n)
  unfolding cons
  below_cons c f n b zero l = absurd (omega arith)
  below_cons c f n b (suc k) l = b k (omega arith)

  pub below_const_s : (c : Carrier) → Below (const_s R c) 1
  below_const_s c zero l = absurd (omega arith)
  below_const_s c (suc k) l = const_s-suc R c k

  -- a top coefficient that is null lowers the bound
  pub drop_top : (f : Series R) (n : ℕ) → Below f (suc n) → f n ≡ null → Below f n
  drop_top f n b e k l = at (ℕ_discrete k n)
    where
      at : Dec (k ≡ n) → f k ≡ null
      at (yes s) = ap f s ∙ e
      at (no s) = b k (omega arith)

  -- some bound holds
  abbrev pub Polynomial : Series R → Type 0
  Polynomial f = (n : ℕ) × Below f n

  pub polynomial-add : (f g : Series R) → Polynomial f → Polynomial g → Polynomial (add_s R f g)
  polynomial-add f g p q =
      (p.0 + q.0, below_add f g _ (below_mono f _ _ (omega arith) p.1) (below_mono g _ _ (omega arith) q.1))

  pub polynomial-neg : (f : Series R) → Polynomial f → Polynomial (neg_s R f)
  polynomial-neg f p = (p.0, below_neg f _ p.1)

  pub polynomial-mul : (f g : Series R) → Polynomial f → Polynomial g → Polynomial (mul_s R f g)
  polynomial-mul f g p q = (p.0 + q.0, below_mul f g _ _ p.1 (below_mono g _ _ (omega arith) q.1))

  pub polynomial_null : Polynomial (null_s R)
  unfolding null_s
  polynomial_null = (0, λ k l. refl)

  pub polynomial-const_s : (c : Carrier) → Polynomial (const_s R c)
  polynomial-const_s c = (1, below_const_s c)

  pub polynomial_scale : (c : Carrier) (f : Series R) → Polynomial f → Polynomial (scale_s R c f)
  polynomial_scale c f p = (p.0, below_scale c f _ p.1)
