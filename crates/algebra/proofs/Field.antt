-- Fields with decidable equality: neither the numbers nor the polynomials have zero divisors.
use mathlib.Core.Path.{◌≡◌, sym, ◌∙◌, ap, fun_ext}
use mathlib.Core.Logic.{◌≢◌, ◌⊎◌, inl, inr}
use Prim.Native.Nat.{ℕ, zero, suc}
use Rattle.algebra.proofs.Ring.{Ring, ring, mul_comm, mul_assoc, one-mul, null_add, mul_null, null_mul, sub_null}
use Rattle.algebra.proofs.Series.{Series, tail, null_s, mul_s, mul_s-zero, mul_s-suc, mul_s-suc-right}
use Rattle.algebra.proofs.Bounds.{Below, below_tail, below_zero}

pub record Field : Type 1 where
  pub ring : Ring
  pub dec : Discrete ring.Carrier
  -- null has no reciprocal
  pub inv : (a : ring.Carrier) → a ≢ ring.null → ring.Carrier
  pub inv-mul : (a : ring.Carrier) (n : a ≢ ring.null) → ring.mul a (inv a n) ≡ ring.one
  pub one≢null : ring.one ≢ ring.null

module _ (F : Field) where
  open F use {ring as R, dec, inv, inv-mul}
  open R use {Carrier, add as ◌⊕◌, mul as ◌⊗◌, neg as ⊖◌, null, one}

  infixl 60 ◌⊕◌
  infixl 70 ◌⊗◌
  infix 80 ⊖◌
  pub cancel : (a b : Carrier) → a ≢ null → a ⊗ b ≡ null → b ≡ null
  cancel a b n e =
      let i = inv a n in
      let unit : i ⊗ a ≡ one = mul_comm R _ _ ∙ inv-mul a n in
      sym (one-mul R b) ∙ ap (λ x. x ⊗ b) (sym unit) ∙ mul_assoc R _ _ _ ∙ ap (λ x. i ⊗ x) e ∙ mul_null R _

  pub nonzero_mul : (a b : Carrier) → a ≢ null → b ≢ null → a ⊗ b ≢ null
  nonzero_mul a b na nb e = nb (cancel a b na e)

  -- a condition c a = b y leaves one proportion of a and b, unless c and y are both null
  pub one_proportion : (c y a b a' b' : Carrier) → c ⊗ a ≡ b ⊗ y → c ⊗ a' ≡ b' ⊗ y → ((c ≡ null) × (y ≡ null) → ⊥) → a ⊗ b' ≡ a' ⊗ b
  one_proportion c y a b a' b' e e' asks = by_weight (dec c null)
    where
      multiplied : c ⊗ (a ⊗ b' ⊕ ⊖ (a' ⊗ b)) ≡ (c ⊗ a) ⊗ b' ⊕ ⊖ ((c ⊗ a') ⊗ b)
      multiplied = simp ring

      difference : (c ⊗ a) ⊗ b' ⊕ ⊖ ((c ⊗ a') ⊗ b) ≡ null
      difference = rw (e, e') (simp ring)

      vanishes : (a b : Carrier) → c ≡ null → c ⊗ a ≡ b ⊗ y → b ≡ null
      vanishes a b z e = cancel y b (λ w. asks (z, w)) (mul_comm R y b ∙ sym e ∙ ap (λ t. t ⊗ a) z ∙ null_mul R a)

      by_weight : Dec (c ≡ null) → a ⊗ b' ≡ a' ⊗ b
      by_weight (yes z) = rw (vanishes a b z e, vanishes a' b' z e') (simp ring)
      by_weight (no nz) = sub_null R _ _ (cancel c _ nz (multiplied ∙ difference))

  -- a series whose constant term is not null is no zero divisor
  cancel_unit : (f g : Series R) → f zero ≢ null → ((k : ℕ) → mul_s R f g k ≡ null) → (k : ℕ) → g k ≡ null
  cancel_unit f g n e zero = cancel (f zero) (g zero) n (sym (mul_s-zero R f g) ∙ e zero)
  cancel_unit f g n e (suc k) =
      cancel_unit f (tail R g) n
      (λ j. let z : g zero ≡ null = cancel (f zero) (g zero) n (sym (mul_s-zero R f g) ∙ e zero) in
      let s : f (suc j) ⊗ g zero ⊕ mul_s R f (tail R g) j ≡ null = sym (mul_s-suc-right R f g j) ∙ e (suc j) in
      simp (z, mul_null, null_add) at s)
      k

  pub no_zero_divisors : (n : ℕ) (f g : Series R) → Below R f n → mul_s R f g ≡ null_s R → (f ≡ null_s R) ⊎ (g ≡ null_s R)
  unfolding null_s
  no_zero_divisors zero f g b e = inl (below_zero R f b)
  no_zero_divisors (suc n) f g b e = by_constant (dec (f zero) null) (no_zero_divisors n (tail R f) g (below_tail R f n b))
    where
      at : (k : ℕ) → mul_s R f g k ≡ null
      at k = ap (λ h. h k) e

      extend : f zero ≡ null → (tail R f ≡ null_s R) ⊎ (g ≡ null_s R) → (f ≡ null_s R) ⊎ (g ≡ null_s R)
      extend z (inl t) = inl (fun_ext (elim [ zero ↦ z | suc k ↦ ap (λ h. h k) t ]))
      extend z (inr t) = inr t

      by_constant : Dec (f zero ≡ null) → (mul_s R (tail R f) g ≡ null_s R → (tail R f ≡ null_s R) ⊎ (g ≡ null_s R))
          → (f ≡ null_s R) ⊎ (g ≡ null_s R)
      by_constant (yes z) ih = extend z (ih (fun_ext (λ k. simp (mul_s-suc, z, null_mul, null_add) at (at (suc k)))))
      by_constant (no nz) ih = inr (fun_ext (cancel_unit f g nz at))
