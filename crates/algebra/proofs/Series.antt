-- Formal power series over a ring, as their coefficients ℕ → Carrier. They are a ring again.
use mathlib.Core.Path.{◌≡◌, refl, sym, ◌∙◌, ap, ap₂, fun_ext}
use Prim.Native.Nat.{ℕ, zero, suc}
use Rattle.algebra.proofs.Ring.{Ring, ring, add_comm, add_assoc, add_left_comm, add_null, add-neg, mul_comm, mul_assoc, mul-add, null_mul, mul_null, one-mul}

module _ (R : Ring) where
  open R use {Carrier, add as ◌⊕◌, mul as ◌⊗◌, neg as ⊖◌, null, one}

  infixl 60 ◌⊕◌
  infixl 70 ◌⊗◌
  infix 80 ⊖◌
  abbrev pub Series : Type 0
  Series = ℕ → Carrier

  abbrev pub tail : Series → Series
  tail f = λ k. f (suc k)

  unfoldable pub cons : Carrier → Series → Series
  cons c f zero = c
  cons c f (suc k) = f k

  unfoldable pub add_s : Series → Series → Series
  add_s f g = λ k. f k ⊕ g k

  unfoldable pub neg_s : Series → Series
  neg_s f = λ k. ⊖ (f k)

  unfoldable pub null_s : Series
  null_s = λ k. null

  unfoldable pub const_s : Carrier → Series
  const_s c = cons c (λ k. null)

  unfoldable pub scale_s : Carrier → Series → Series
  scale_s c f = λ k. c ⊗ f k

  unfoldable pub mul_s : Series → Series → Series
  mul_s f g zero = f zero ⊗ g zero
  mul_s f g (suc k) = f zero ⊗ g (suc k) ⊕ mul_s (tail f) g k

  -- the clauses as equations, for `rw` and `simp`
  pub mul_s-zero : (f g : Series) → mul_s f g zero ≡ f zero ⊗ g zero
  unfolding mul_s
  mul_s-zero f g = refl

  pub mul_s-suc : (f g : Series) (k : ℕ) → mul_s f g (suc k) ≡ f zero ⊗ g (suc k) ⊕ mul_s (tail f) g k
  unfolding mul_s
  mul_s-suc f g k = refl

  pub add_s_at : (f g : Series) (k : ℕ) → add_s f g k ≡ f k ⊕ g k
  unfolding add_s
  add_s_at f g k = refl

  pub neg_s_at : (f : Series) (k : ℕ) → neg_s f k ≡ ⊖ (f k)
  unfolding neg_s
  neg_s_at f k = refl

  pub scale_s_at : (c : Carrier) (f : Series) (k : ℕ) → scale_s c f k ≡ c ⊗ f k
  unfolding scale_s
  scale_s_at c f k = refl

  pub null_s_at : (k : ℕ) → null_s k ≡ null
  unfolding null_s
  null_s_at k = refl

  pub cons-zero : (c : Carrier) (f : Series) → cons c f zero ≡ c
  unfolding cons
  cons-zero c f = refl

  pub cons-suc : (c : Carrier) (f : Series) (k : ℕ) → cons c f (suc k) ≡ f k
  unfolding cons
  cons-suc c f k = refl

  pub const_s-zero : (c : Carrier) → const_s c zero ≡ c
  unfolding const_s cons
  const_s-zero c = refl

  pub const_s-suc : (c : Carrier) (k : ℕ) → const_s c (suc k) ≡ null
  unfolding const_s cons
  const_s-suc c k = refl

  pub ruleset clauses = (mul_s-zero, mul_s-suc, add_s_at, neg_s_at, scale_s_at, null_s_at, cons-zero, cons-suc, const_s-zero, const_s-suc)

  -- the product peels off the second factor's constant term as it does the first's
  pub mul_s-suc-right : (f g : Series) (k : ℕ) → mul_s f g (suc k) ≡ f (suc k) ⊗ g zero ⊕ mul_s f (tail g) k
  unfolding mul_s
  mul_s-suc-right f g zero = add_comm R _ _
  mul_s-suc-right f g (suc k) = ap (λ x. f zero ⊗ g (suc (suc k)) ⊕ x) (mul_s-suc-right (tail f) g k) ∙ add_left_comm R _ _ _

  pub mul_s_comm_at : (f g : Series) (k : ℕ) → mul_s f g k ≡ mul_s g f k
  unfolding mul_s
  mul_s_comm_at f g zero = mul_comm R _ _
  mul_s_comm_at f g (suc k) = ap₂ ◌⊕◌ (mul_comm R _ _) (mul_s_comm_at (tail f) g k) ∙ sym (mul_s-suc-right g f k)

  mul_s-add_at : (f g h : Series) (k : ℕ) → mul_s f (add_s g h) k ≡ mul_s f g k ⊕ mul_s f h k
  unfolding mul_s add_s
  mul_s-add_at f g h zero = mul-add R _ _ _
  mul_s-add_at f g h (suc k) = ap (λ x. f zero ⊗ (g (suc k) ⊕ h (suc k)) ⊕ x) (mul_s-add_at (tail f) g h k) ∙ simp ring

  scale_s-mul_at : (c : Carrier) (f g : Series) (k : ℕ) → mul_s (scale_s c f) g k ≡ c ⊗ mul_s f g k
  unfolding mul_s scale_s
  scale_s-mul_at c f g zero = mul_assoc R _ _ _
  scale_s-mul_at c f g (suc k) = ap (λ x. c ⊗ f zero ⊗ g (suc k) ⊕ x) (scale_s-mul_at c (tail f) g k) ∙ simp ring

  add_s-mul_at : (f g h : Series) (k : ℕ) → mul_s (add_s f g) h k ≡ mul_s f h k ⊕ mul_s g h k
  add_s-mul_at f g h k = rw (mul_s_comm_at (add_s f g) h k, mul_s-add_at, mul_s_comm_at h f k, mul_s_comm_at h g k)

  pub mul_s_assoc_at : (f g h : Series) (k : ℕ) → mul_s (mul_s f g) h k ≡ mul_s f (mul_s g h) k
  unfolding mul_s add_s scale_s
  mul_s_assoc_at f g h zero = mul_assoc R _ _ _
  mul_s_assoc_at f g h (suc k) =
      ap (λ x. f zero ⊗ g zero ⊗ h (suc k) ⊕ x)
      (add_s-mul_at (scale_s (f zero) (tail g)) (mul_s (tail f) g) h k
      ∙ ap₂ ◌⊕◌ (scale_s-mul_at (f zero) (tail g) h k) (mul_s_assoc_at (tail f) g h k))
      ∙ simp (ring, mul_s-suc)

  pub null_mul_s_at : (g : Series) (k : ℕ) → mul_s null_s g k ≡ null
  unfolding mul_s null_s
  null_mul_s_at g zero = null_mul R _
  null_mul_s_at g (suc k) = ap (λ x. null ⊗ g (suc k) ⊕ x) (null_mul_s_at g k) ∙ simp ring

  pub const_s-mul_at : (c : Carrier) (g : Series) (k : ℕ) → mul_s (const_s c) g k ≡ c ⊗ g k
  unfolding mul_s const_s cons null_s
  const_s-mul_at c g zero = refl
  const_s-mul_at c g (suc k) = ap (λ x. c ⊗ g (suc k) ⊕ x) (null_mul_s_at g k) ∙ add_null R _

  pub const_s-mul : (c : Carrier) (g : Series) → mul_s (const_s c) g ≡ scale_s c g
  unfolding scale_s
  const_s-mul c g = fun_ext (const_s-mul_at c g)

  pub add_s_comm : (f g : Series) → add_s f g ≡ add_s g f
  unfolding add_s
  add_s_comm f g = fun_ext (λ k. add_comm R _ _)

  pub add_s_assoc : (f g h : Series) → add_s (add_s f g) h ≡ add_s f (add_s g h)
  unfolding add_s
  add_s_assoc f g h = fun_ext (λ k. add_assoc R _ _ _)

  pub add_s_null : (f : Series) → add_s f null_s ≡ f
  unfolding add_s null_s
  add_s_null f = fun_ext (λ k. add_null R _)

  pub add_s-neg : (f : Series) → add_s f (neg_s f) ≡ null_s
  unfolding add_s neg_s null_s
  add_s-neg f = fun_ext (λ k. add-neg R _)

  pub mul_s-add : (f g h : Series) → mul_s f (add_s g h) ≡ add_s (mul_s f g) (mul_s f h)
  unfolding add_s
  mul_s-add f g h = fun_ext (mul_s-add_at f g h)

  -- an abbrev with an `unfolding` line would unfold only where that line's names do, so the laws are lemmas of their own
  abbrev pub series_ring : Ring
  series_ring = record {
    Carrier = Series;
    add = add_s;
    mul = mul_s;
    neg = neg_s;
    null = null_s;
    one = const_s one;
    add_comm = add_s_comm;
    add_assoc = add_s_assoc;
    add_null = add_s_null;
    add-neg = add_s-neg;
    mul_comm = λ f g. fun_ext (mul_s_comm_at f g);
    mul_assoc = λ f g h. fun_ext (mul_s_assoc_at f g h);
    mul-one = λ f. fun_ext (λ k. mul_s_comm_at f (const_s one) k ∙ const_s-mul_at one f k ∙ one-mul R _);
    mul-add = mul_s-add;
  }

  pub null_mul_s : (g : Series) → mul_s null_s g ≡ null_s
  null_mul_s = null_mul series_ring

  pub mul_s_null : (g : Series) → mul_s g null_s ≡ null_s
  mul_s_null = mul_null series_ring
