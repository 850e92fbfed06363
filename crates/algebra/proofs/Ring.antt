-- Commutative rings with one, their first laws, and the rules that prove identities in them.
use mathlib.Core.Path.{◌≡◌, sym, ◌∙◌, ap}

pub record Ring : Type 1 where
  pub Carrier : Type 0
  pub add : Carrier → Carrier → Carrier
  pub mul : Carrier → Carrier → Carrier
  pub neg : Carrier → Carrier
  pub null : Carrier
  pub one : Carrier
  pub add_comm : (a b : Carrier) → add a b ≡ add b a
  pub add_assoc : (a b c : Carrier) → add (add a b) c ≡ add a (add b c)
  pub add_null : (a : Carrier) → add a null ≡ a
  pub add-neg : (a : Carrier) → add a (neg a) ≡ null
  pub mul_comm : (a b : Carrier) → mul a b ≡ mul b a
  pub mul_assoc : (a b c : Carrier) → mul (mul a b) c ≡ mul a (mul b c)
  pub mul-one : (a : Carrier) → mul a one ≡ a
  pub mul-add : (a b c : Carrier) → mul a (add b c) ≡ add (mul a b) (mul a c)

module _ (R : Ring) where
  open R use {Carrier, add as ◌⊕◌, mul as ◌⊗◌, neg as ⊖◌, null, one}

  infixl 60 ◌⊕◌
  infixl 70 ◌⊗◌
  infix 80 ⊖◌
  -- the laws of the record, as lemmas that a ruleset can name
  pub add_comm : (a b : Carrier) → a ⊕ b ≡ b ⊕ a
  add_comm = R.add_comm

  pub add_assoc : (a b c : Carrier) → (a ⊕ b) ⊕ c ≡ a ⊕ (b ⊕ c)
  add_assoc = R.add_assoc

  pub add_null : (a : Carrier) → a ⊕ null ≡ a
  add_null = R.add_null

  pub add-neg : (a : Carrier) → a ⊕ ⊖ a ≡ null
  add-neg = R.add-neg

  pub mul_comm : (a b : Carrier) → a ⊗ b ≡ b ⊗ a
  mul_comm = R.mul_comm

  pub mul_assoc : (a b c : Carrier) → (a ⊗ b) ⊗ c ≡ a ⊗ (b ⊗ c)
  mul_assoc = R.mul_assoc

  pub mul-one : (a : Carrier) → a ⊗ one ≡ a
  mul-one = R.mul-one

  pub mul-add : (a b c : Carrier) → a ⊗ (b ⊕ c) ≡ a ⊗ b ⊕ a ⊗ c
  mul-add = R.mul-add

  pub null_add : (a : Carrier) → null ⊕ a ≡ a
  null_add a = rw add_comm (add_null a)

  pub add_left_comm : (a b c : Carrier) → a ⊕ (b ⊕ c) ≡ b ⊕ (a ⊕ c)
  add_left_comm a b c = rw (← add_assoc a b c, add_comm a b, add_assoc b a c)

  pub mul_left_comm : (a b c : Carrier) → a ⊗ (b ⊗ c) ≡ b ⊗ (a ⊗ c)
  mul_left_comm a b c = rw (← mul_assoc a b c, mul_comm a b, mul_assoc b a c)

  pub one-mul : (a : Carrier) → one ⊗ a ≡ a
  one-mul a = rw mul_comm (mul-one a)

  pub add-mul : (a b c : Carrier) → (a ⊕ b) ⊗ c ≡ a ⊗ c ⊕ b ⊗ c
  add-mul a b c = simp (mul_comm, mul-add)

  pub neg_add_cancel : (a : Carrier) → (⊖ a) ⊕ a ≡ null
  neg_add_cancel a = rw add_comm (add-neg a)

  -- a and its negation at the head of a longer sum
  pub add_neg_cancel : (a b : Carrier) → a ⊕ ((⊖ a) ⊕ b) ≡ b
  add_neg_cancel a b = rw (← add_assoc, add-neg, null_add)

  pub neg_add_cancel_left : (a b : Carrier) → (⊖ a) ⊕ (a ⊕ b) ≡ b
  neg_add_cancel_left a b = rw (← add_assoc, neg_add_cancel, null_add)

  pub add-cancel : (a b c : Carrier) → a ⊕ b ≡ a ⊕ c → b ≡ c
  add-cancel a b c e = rw (neg_add_cancel_left a b, neg_add_cancel_left a c) at (ap (λ x. (⊖ a) ⊕ x) e)

  pub neg_unique : (a b : Carrier) → a ⊕ b ≡ null → b ≡ ⊖ a
  neg_unique a b e = add-cancel a b (⊖ a) (e ∙ sym (add-neg a))

  pub mul_null : (a : Carrier) → a ⊗ null ≡ null
  mul_null a = add-cancel (a ⊗ null) (a ⊗ null) null (rw (← mul-add, add_null null, add_null (a ⊗ null)))

  pub null_mul : (a : Carrier) → null ⊗ a ≡ null
  null_mul a = rw mul_comm (mul_null a)

  pub neg-mul : (a b : Carrier) → (⊖ a) ⊗ b ≡ ⊖ (a ⊗ b)
  neg-mul a b = neg_unique (a ⊗ b) ((⊖ a) ⊗ b) (rw (← add-mul, add-neg, null_mul))

  pub mul-neg : (a b : Carrier) → a ⊗ (⊖ b) ≡ ⊖ (a ⊗ b)
  mul-neg a b = rw (mul_comm a (⊖ b), neg-mul, mul_comm b a)

  pub neg-neg : (a : Carrier) → ⊖ (⊖ a) ≡ a
  neg-neg a = sym (neg_unique (⊖ a) a (neg_add_cancel a))

  pub neg-add : (a b : Carrier) → ⊖ (a ⊕ b) ≡ (⊖ a) ⊕ (⊖ b)
  neg-add a b =
      sym (neg_unique (a ⊕ b) ((⊖ a) ⊕ (⊖ b)) (simp (add_assoc, add_left_comm b (⊖ a) (⊖ b), add_neg_cancel, add-neg)))

  pub neg_null : ⊖ null ≡ null
  neg_null = sym (neg_unique null null (add_null null))

  -- a difference that is null
  pub sub_null : (x y : Carrier) → x ⊕ ⊖ y ≡ null → x ≡ y
  sub_null x y e = neg_unique (⊖ y) x (add_comm _ _ ∙ e) ∙ neg-neg y

  -- a and its negation with one to four other terms in between, in front of more terms or at the end
  pub cancel_past_1 : (a p z : Carrier) → a ⊕ (p ⊕ (⊖ a ⊕ z)) ≡ p ⊕ z
  cancel_past_1 a p z = rw (add_left_comm p (⊖ a) z) (add_neg_cancel a (p ⊕ z))

  pub cancel_past_1_end : (a p : Carrier) → a ⊕ (p ⊕ (⊖ a)) ≡ p
  cancel_past_1_end a p = rw (add_comm p (⊖ a)) (add_neg_cancel a p)

  pub cancel_past_2 : (a p q z : Carrier) → a ⊕ (p ⊕ (q ⊕ (⊖ a ⊕ z))) ≡ p ⊕ (q ⊕ z)
  cancel_past_2 a p q z = rw (add_left_comm q (⊖ a) z) (cancel_past_1 a p (q ⊕ z))

  pub cancel_past_2_end : (a p q : Carrier) → a ⊕ (p ⊕ (q ⊕ (⊖ a))) ≡ p ⊕ q
  cancel_past_2_end a p q = rw (add_comm q (⊖ a)) (cancel_past_1 a p q)

  pub cancel_past_3 : (a p q r z : Carrier) → a ⊕ (p ⊕ (q ⊕ (r ⊕ (⊖ a ⊕ z)))) ≡ p ⊕ (q ⊕ (r ⊕ z))
  cancel_past_3 a p q r z = rw (add_left_comm r (⊖ a) z) (cancel_past_2 a p q (r ⊕ z))

  pub cancel_past_3_end : (a p q r : Carrier) → a ⊕ (p ⊕ (q ⊕ (r ⊕ (⊖ a)))) ≡ p ⊕ (q ⊕ r)
  cancel_past_3_end a p q r = rw (add_comm r (⊖ a)) (cancel_past_2 a p q r)

  pub cancel_past_4 : (a p q r s z : Carrier) → a ⊕ (p ⊕ (q ⊕ (r ⊕ (s ⊕ (⊖ a ⊕ z))))) ≡ p ⊕ (q ⊕ (r ⊕ (s ⊕ z)))
  cancel_past_4 a p q r s z = rw (add_left_comm s (⊖ a) z) (cancel_past_3 a p q r (s ⊕ z))

  pub cancel_past_4_end : (a p q r s : Carrier) → a ⊕ (p ⊕ (q ⊕ (r ⊕ (s ⊕ (⊖ a))))) ≡ p ⊕ (q ⊕ (r ⊕ s))
  cancel_past_4_end a p q r s = rw (add_comm s (⊖ a)) (cancel_past_3 a p q r s)

  -- the same where the negation comes first
  pub neg-cancel_past_1 : (a p z : Carrier) → ⊖ a ⊕ (p ⊕ (a ⊕ z)) ≡ p ⊕ z
  neg-cancel_past_1 a p z = rw (add_left_comm p a z) (neg_add_cancel_left a (p ⊕ z))

  pub neg-cancel_past_1_end : (a p : Carrier) → ⊖ a ⊕ (p ⊕ a) ≡ p
  neg-cancel_past_1_end a p = rw (add_comm p a) (neg_add_cancel_left a p)

  pub neg-cancel_past_2 : (a p q z : Carrier) → ⊖ a ⊕ (p ⊕ (q ⊕ (a ⊕ z))) ≡ p ⊕ (q ⊕ z)
  neg-cancel_past_2 a p q z = rw (add_left_comm q a z) (neg-cancel_past_1 a p (q ⊕ z))

  pub neg-cancel_past_2_end : (a p q : Carrier) → ⊖ a ⊕ (p ⊕ (q ⊕ a)) ≡ p ⊕ q
  neg-cancel_past_2_end a p q = rw (add_comm q a) (neg-cancel_past_1 a p q)

  pub neg-cancel_past_3 : (a p q r z : Carrier) → ⊖ a ⊕ (p ⊕ (q ⊕ (r ⊕ (a ⊕ z)))) ≡ p ⊕ (q ⊕ (r ⊕ z))
  neg-cancel_past_3 a p q r z = rw (add_left_comm r a z) (neg-cancel_past_2 a p q (r ⊕ z))

  pub neg-cancel_past_3_end : (a p q r : Carrier) → ⊖ a ⊕ (p ⊕ (q ⊕ (r ⊕ a))) ≡ p ⊕ (q ⊕ r)
  neg-cancel_past_3_end a p q r = rw (add_comm r a) (neg-cancel_past_2 a p q r)

  pub neg-cancel_past_4 : (a p q r s z : Carrier) → ⊖ a ⊕ (p ⊕ (q ⊕ (r ⊕ (s ⊕ (a ⊕ z))))) ≡ p ⊕ (q ⊕ (r ⊕ (s ⊕ z)))
  neg-cancel_past_4 a p q r s z = rw (add_left_comm s a z) (neg-cancel_past_3 a p q r (s ⊕ z))

  pub neg-cancel_past_4_end : (a p q r s : Carrier) → ⊖ a ⊕ (p ⊕ (q ⊕ (r ⊕ (s ⊕ a)))) ≡ p ⊕ (q ⊕ (r ⊕ s))
  neg-cancel_past_4_end a p q r s = rw (add_comm s a) (neg-cancel_past_3 a p q r s)

  -- `simp ring` brings both sides of an identity to one sorted sum of products. Where more than four terms stand between
  -- a and its negation, first state the identity with the negated terms on the other side.
  pub ruleset ring = (
    add_assoc,
    add_comm,
    add_left_comm,
    mul_assoc,
    mul_comm,
    mul_left_comm,
    mul-add,
    add-mul,
    neg-mul,
    mul-neg,
    neg-add,
    neg-neg,
    neg_null,
    add_null,
    null_add,
    mul_null,
    null_mul,
    mul-one,
    one-mul,
    add-neg,
    neg_add_cancel,
    add_neg_cancel,
    neg_add_cancel_left,
    cancel_past_1,
    cancel_past_1_end,
    cancel_past_2,
    cancel_past_2_end,
    cancel_past_3,
    cancel_past_3_end,
    cancel_past_4,
    cancel_past_4_end,
    neg-cancel_past_1,
    neg-cancel_past_1_end,
    neg-cancel_past_2,
    neg-cancel_past_2_end,
    neg-cancel_past_3,
    neg-cancel_past_3_end,
    neg-cancel_past_4,
    neg-cancel_past_4_end,
  )
