-- The ideal of f 0, .., f (n - 1) and g, by its members; and for polynomials, the common divisor of such a family that is
-- a member.
use mathlib.Core.Path.{◌≡◌, sym, ◌∙◌, ap, ap₂}
use Prim.Native.Nat.{ℕ, zero, suc, ◌<◌}
use native.Mathlib.Omega.{arith}
use native.Mathlib.Decide.{ℕ_discrete}
use Rattle.algebra.proofs.Ring.{Ring, mul-add, mul_assoc, mul_left_comm, mul-one}
use Rattle.algebra.proofs.Series.{Series, const_s, mul_s, series_ring}
use Rattle.algebra.proofs.Bounds.{Polynomial, polynomial-mul, polynomial-const_s}
use Rattle.algebra.proofs.Field.{Field}
use Rattle.algebra.proofs.Euclid.{CommonDivisor, euclid}

-- Allowed: what may be a factor (for series: the polynomials)
pub data Ideal (R : Ring) (Allowed : R.Carrier → Type 0) (n : ℕ) (f : ℕ → R.Carrier) (g : R.Carrier) : R.Carrier → Type 0 where
  at : (i : ℕ) → i < n → Ideal R Allowed n f g (f i)
  last : Ideal R Allowed n f g g
  plus : {x y : R.Carrier} → Ideal R Allowed n f g x → Ideal R Allowed n f g y → Ideal R Allowed n f g (R.add x y)
  times : (c : R.Carrier) {x : R.Carrier} → Allowed c → Ideal R Allowed n f g x → Ideal R Allowed n f g (R.mul c x)

module _ (R : Ring) (Allowed : R.Carrier → Type 0) where
  open R use {Carrier, add as ◌⊕◌, mul as ◌⊗◌}

  infixl 60 ◌⊕◌
  infixl 70 ◌⊗◌
  -- one more f
  pub wider : (n : ℕ) (f : ℕ → Carrier) (g : Carrier) {x : Carrier} → Ideal R Allowed n f g x → Ideal R Allowed (suc n) f g x
  wider n f g (at i l) = at i (omega arith)
  wider n f g last = last
  wider n f g (plus a b) = plus (wider n f g a) (wider n f g b)
  wider n f g (times c ok a) = times c ok (wider n f g a)

  -- where h f i = d f' i for every i, and h g = d g': h times a member of the ideal of the f's and g is d times one of the ideal of the f''s and g'
  pub proportional : (h d : Carrier) (n : ℕ) (f : ℕ → Carrier) (g : Carrier) (f' : ℕ → Carrier) (g' : Carrier)
      → ((i : ℕ) → i < n → h ⊗ f i ≡ d ⊗ f' i) → h ⊗ g ≡ d ⊗ g'
      → {x : Carrier} → Ideal R Allowed n f g x → (y : Carrier) × Ideal R Allowed n f' g' y × (h ⊗ x ≡ d ⊗ y)
  proportional h d n f g f' g' ef eg (at i l) = (f' i, at i l, ef i l)
  proportional h d n f g f' g' ef eg last = (g', last, eg)
  proportional h d n f g f' g' ef eg (plus a b) =
      let s = proportional h d n f g f' g' ef eg a in
      let t = proportional h d n f g f' g' ef eg b in
      (s.0 ⊕ t.0, plus s.1 t.1, mul-add R h _ _ ∙ ap₂ ◌⊕◌ s.2 t.2 ∙ sym (mul-add R d _ _))
  proportional h d n f g f' g' ef eg (times c ok a) =
      let s = proportional h d n f g f' g' ef eg a in
      (c ⊗ s.0, times c ok s.1, mul_left_comm R h c _ ∙ ap (λ t. c ⊗ t) s.2 ∙ mul_left_comm R c d _)

module _ (F : Field) where
  open F use {ring as R}
  open R use {one}

  -- the ideal in the ring of polynomials
  abbrev pub InIdeal : (n : ℕ) (f : ℕ → Series R) (g : Series R) → Series R → Type 0
  InIdeal = Ideal (series_ring R) (Polynomial R)

  pub record FamilyDivisor (n : ℕ) (f : ℕ → Series R) (g : Series R) : Type 0 where
    pub divisor : Series R
    pub f' : ℕ → Series R
    pub g' : Series R
    pub member : InIdeal n f g divisor
    pub f_multiple : (i : ℕ) → i < n → f i ≡ mul_s R divisor (f' i)
    pub g_multiple : g ≡ mul_s R divisor g'
    pub divisor_polynomial : Polynomial R divisor
    pub f'_polynomial : (i : ℕ) → i < n → Polynomial R (f' i)
    pub g'_polynomial : Polynomial R g'

  -- from the divisor of g and n of the f's, and the common divisor of that and the next
  unfoldable pub family_step : (n : ℕ) (f : ℕ → Series R) (g : Series R) (D : FamilyDivisor n f g) → CommonDivisor F (f n) D.divisor
      → FamilyDivisor (suc n) f g
  family_step n f g D C = record {
    divisor = C.divisor;
    f' = λ i. quotient i (ℕ_discrete i n);
    g' = mul_s R C.g' D.g';
    member =
        rw C.combination
        (plus (times C.u C.u_polynomial (at n (omega arith)))
        (times C.v C.v_polynomial (wider (series_ring R) (Polynomial R) n f g D.member)));
    f_multiple = λ i l. multiple i l (ℕ_discrete i n);
    g_multiple = through g D.g' D.g_multiple;
    divisor_polynomial = C.divisor_polynomial;
    f'_polynomial = λ i l. polynomial i l (ℕ_discrete i n);
    g'_polynomial = polynomial-mul R _ _ C.g'_polynomial D.g'_polynomial;
  }
    where
      through : (h h' : Series R) → h ≡ mul_s R D.divisor h' → h ≡ mul_s R C.divisor (mul_s R C.g' h')
      through h h' e = e ∙ ap (λ x. mul_s R x h') C.right_multiple ∙ mul_assoc (series_ring R) C.divisor C.g' h'

      quotient : (i : ℕ) → Dec (i ≡ n) → Series R
      quotient i (yes _) = C.f'
      quotient i (no _) = mul_s R C.g' (D.f' i)

      multiple : (i : ℕ) → i < suc n → (c : Dec (i ≡ n)) → f i ≡ mul_s R C.divisor (quotient i c)
      multiple i l (yes e) = ap f e ∙ C.left_multiple
      multiple i l (no e) = through (f i) (D.f' i) (D.f_multiple i (omega arith))

      polynomial : (i : ℕ) → i < suc n → (c : Dec (i ≡ n)) → Polynomial R (quotient i c)
      polynomial i l (yes e) = C.f'_polynomial
      polynomial i l (no e) = polynomial-mul R _ _ C.g'_polynomial (D.f'_polynomial i (omega arith))

  unfoldable pub family_divisor : (n : ℕ) (f : ℕ → Series R) (g : Series R) → ((i : ℕ) → i < n → Polynomial R (f i)) → Polynomial R g
      → FamilyDivisor n f g
  family_divisor zero f g pf pg = record {
    divisor = g;
    f' = f;
    g' = const_s R one;
    member = last;
    f_multiple = λ i l. absurd (omega arith);
    g_multiple = sym (mul-one (series_ring R) g);
    divisor_polynomial = pg;
    f'_polynomial = λ i l. absurd (omega arith);
    g'_polynomial = polynomial-const_s R one;
  }
  family_divisor (suc n) f g pf pg =
      let D = family_divisor n f g (λ i l. pf i (omega arith)) pg in
      family_step n f g D (euclid F D.divisor_polynomial.0 (f n) D.divisor (pf n (omega arith)) D.divisor_polynomial.1)
