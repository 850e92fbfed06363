-- Division of polynomials with remainder: it exists and is unique.
use mathlib.Core.Path.{◌≡◌, refl, sym, ◌∙◌, ap, fun_ext}
use mathlib.Core.Logic.{inl, inr}
use Prim.Native.Nat.{ℕ, zero, suc}
use native.Mathlib.Omega.{arith}
use Rattle.algebra.proofs.Ring.{ring, null_add, add-cancel, add-neg, mul_comm, mul_assoc, mul-one, sub_null}
use Rattle.algebra.proofs.Series.{Series, tail, cons, add_s, neg_s, null_s, scale_s, mul_s, clauses, null_mul_s_at, series_ring}
use Rattle.algebra.proofs.Bounds.{Below, below_tail, below_add, below_neg, below_scale, below_cons, drop_top, Polynomial, polynomial-add, polynomial-neg}
use Rattle.algebra.proofs.Identities.{division_difference}
use Rattle.algebra.proofs.Field.{Field}
use Rattle.algebra.proofs.Degree.{HasDegree, NullOrDegree, degree, degree-sum}

module _ (F : Field) where
  open F use {ring as R, inv, inv-mul}
  open R use {Carrier, add as ◌⊕◌, mul as ◌⊗◌, neg as ⊖◌, null, one}

  infixl 60 ◌⊕◌
  infixl 70 ◌⊗◌
  infix 80 ⊖◌
  -- f = quotient g + remainder, the quotient below n and the remainder below m
  pub record Division (f g : Series R) (n m : ℕ) : Type 0 where
    pub quotient : Series R
    pub remainder : Series R
    pub equation : f ≡ add_s R (mul_s R quotient g) remainder
    pub remainder_below : Below R remainder m
    pub quotient_below : Below R quotient n

  top_cancels : (a i b : Carrier) → b ⊗ i ≡ one → a ⊕ ⊖ (a ⊗ i ⊗ b) ≡ null
  top_cancels a i b e = rw (mul_assoc, mul_comm R i b, e, mul-one, add-neg)

  cons-mul-suc : (c : Carrier) (f g : Series R) (k : ℕ) → mul_s R (cons R c f) g (suc k) ≡ c ⊗ g (suc k) ⊕ mul_s R f g k
  unfolding mul_s cons
  cons-mul-suc c f g k = refl

  module _ (g : Series R) (m : ℕ) (dg : HasDegree F g m) where
    -- one more coefficient in front of f
    extend : (n : ℕ) (f : Series R) → Division (tail R f) g n m → Division f g (suc n) m
    extend n f d = record {
      quotient = cons R c d.quotient;
      remainder = r;
      equation = fun_ext at;
      remainder_below = drop_top R r m below top;
      quotient_below = below_cons R c d.quotient n d.quotient_below;
    }
      where
        -- the reciprocal of the leading coefficient
        i : Carrier
        i = inv (g m) dg.top

        c : Carrier
        c = cons R (f zero) d.remainder m ⊗ i

        r : Series R
        r = add_s R (cons R (f zero) d.remainder) (neg_s R (scale_s R c g))

        below : Below R r (suc m)
        below = below_add R _ _ _ (below_cons R (f zero) d.remainder m d.remainder_below) (below_neg R _ _ (below_scale R c g _ dg.low))

        top : r m ≡ null
        top = simp clauses (top_cancels _ i (g m) (inv-mul (g m) dg.top))

        at : (k : ℕ) → f k ≡ add_s R (mul_s R (cons R c d.quotient) g) r k
        at zero = simp (clauses, ring)
        at (suc k) = ap (λ t. t k) d.equation ∙ simp (cons-mul-suc, clauses, ring)

    pub divide : (n : ℕ) (f : Series R) → Below R f n → Division f g n m
    unfolding null_s
    divide zero f b = record {
      quotient = null_s R;
      remainder = f;
      equation = fun_ext (λ k. simp (clauses, null_mul_s_at, null_add));
      remainder_below = λ k l. b k (omega arith);
      quotient_below = λ k l. refl;
    }
    divide (suc n) f b = extend n f (divide n (tail R f) (below_tail R f n b))

    pub division_unique : (f q r q' r' : Series R) → Polynomial R q → Polynomial R q' → Below R r m → Below R r' m
        → f ≡ add_s R (mul_s R q g) r → f ≡ add_s R (mul_s R q' g) r' → (q ≡ q') × (r ≡ r')
    division_unique f q r q' r' pq pq' br br' e e' = by_degree (degree F p.0 (add_s R q (neg_s R q')) p.1)
      where
        both : add_s R (mul_s R q g) r ≡ add_s R (mul_s R q' g) r'
        both = sym e ∙ e'

        p : Polynomial R (add_s R q (neg_s R q'))
        p = polynomial-add R q (neg_s R q') pq (polynomial-neg R q' pq')

        product_below : Below R (mul_s R (add_s R q (neg_s R q')) g) m
        product_below k l = ap (λ t. t k) (division_difference (series_ring R) g q r q' r' both) ∙ below_add R r' (neg_s R r) m br' (below_neg R r m br) k l

        by_degree : NullOrDegree F p.0 (add_s R q (neg_s R q')) → (q ≡ q') × (r ≡ r')
        by_degree (inl z) =
            let s : q ≡ q' = sub_null (series_ring R) q q' z in
            (s, add-cancel (series_ring R) (mul_s R q' g) r r' (ap (λ t. add_s R (mul_s R t g) r) (sym s) ∙ both))
        by_degree (inr t) = absurd (let l = degree-sum F _ g t.0 m m t.1 dg product_below in omega arith)
