-- docs/METHOD.md, One output: two pairs of polynomials, one row at a time. Each line of its table keeps the invariant.
use mathlib.Core.Path.{◌≡◌, refl, ◌∙◌, ap}
use mathlib.Core.Logic.{◌≢◌}
use Prim.Native.Nat.{ℕ, suc, ◌+◌, ◌≤◌, ◌<◌}
use native.Mathlib.Omega.{arith}
use Rattle.algebra.proofs.Counting.{below_suc, dec_and, failures, failures_zero, failures_holds, failures_fails}
use Rattle.algebra.proofs.Ring.{Ring, ring, mul_null}
use Rattle.algebra.proofs.Series.{Series, null_s, const_s, mul_s, null_s_at}
use Rattle.algebra.proofs.Bounds.{Below, below_mono, below_const_s}
use Rattle.algebra.proofs.Value.{value, linear}
use Rattle.algebra.proofs.Field.{Field}
use Rattle.method.proofs.PairLaws.{combine, value-combine, below_combine, below_linear-mul, value-linear_within, Leading, leading-linear, leading-combine, leading_one}

-- the condition c a(x) = z b(x)
pub record Condition (R : Ring) : Type 0 where
  pub x : R.Carrier
  pub c : R.Carrier
  pub z : R.Carrier

-- two polynomials and their number
pub record Pair (R : Ring) : Type 0 where
  pub a : Series R
  pub b : Series R
  pub e : ℕ

module _ (R : Ring) where
  open R use {Carrier, add as ◌⊕◌, mul as ◌⊗◌, neg as ⊖◌, null, one}

  infixl 60 ◌⊕◌
  infixl 70 ◌⊗◌
  infix 80 ⊖◌
  -- c a(x) - z b(x)
  unfoldable pub discrepancy : ℕ → Condition R → Pair R → Carrier
  discrepancy N r s = r.c ⊗ value R N s.a r.x ⊕ ⊖ (r.z ⊗ value R N s.b r.x)

  pub discrepancy_at : (N : ℕ) (r : Condition R) (s : Pair R) → discrepancy N r s ≡ r.c ⊗ value R N s.a r.x ⊕ ⊖ (r.z ⊗ value R N s.b r.x)
  unfolding discrepancy
  discrepancy_at N r s = refl

  -- a condition that asks nothing; the others are active
  abbrev pub Idle : Condition R → Type 0
  Idle r = (r.c ≡ null) × (r.z ≡ null)

  pub idle-discrepancy : (N : ℕ) (r : Condition R) (s : Pair R) → Idle r → discrepancy N r s ≡ null
  idle-discrepancy N r s idle = rw (discrepancy_at, idle.0, idle.1) (simp ring)

  -- before the first row: (1, 0) and (0, 1)
  abbrev pub first_pair : ℕ → Pair R
  first_pair B = record { a = const_s R one; b = null_s R; e = B }

  abbrev pub second_pair : ℕ → Pair R
  second_pair A = record { a = null_s R; b = const_s R one; e = A }

  -- the pair times (u - x), its number raised
  abbrev pub advanced : Carrier → Pair R → Pair R
  advanced x s = record { a = mul_s R (linear R x) s.a; b = mul_s R (linear R x) s.b; e = suc s.e }

  -- c s - c' t, with the number of s
  abbrev pub combined : Carrier → Pair R → Carrier → Pair R → Pair R
  combined c s c' t = record { a = combine R c s.a c' t.a; b = combine R c s.b c' t.b; e = s.e }

  -- what the invariant says after k rows of one pair s, which leads in f; the numbers are those of docs/METHOD.md
  pub record Holds (N : ℕ) (row : ℕ → Condition R) (k : ℕ) (s : Pair R) (f : Series R) (A : ℕ) (g : Series R) (B t : ℕ) : Type 0 where
    -- 1
    pub at_row : (l : ℕ) → l < k → discrepancy N (row l) s ≡ null
    -- 2 or 3
    pub leads : Leading R f A g B t s.e
    -- 5
    pub a_below : Below R s.a (suc k)
    pub b_below : Below R s.b (suc k)

  -- the invariant of the pairs s and t after k rows, of which a are active
  pub record Invariant (A B N : ℕ) (row : ℕ → Condition R) (k a : ℕ) (s t : Pair R) : Type 0 where
    -- s leads in a, t in b
    pub first : Holds N row k s s.a B s.b A 0
    pub second : Holds N row k t t.b A t.a B 1
    -- 4
    pub sum : s.e + t.e ≤ A + B + a

module _ (F : Field) where
  open F use {ring as R, dec}

  -- it is decided whether a condition is idle
  pub dec_idle : (r : Condition R) → Dec (Idle R r)
  dec_idle r = dec_and (dec _ _) (dec _ _)

  -- how many of the first k conditions are active
  abbrev pub active_below : (ℕ → Condition R) → ℕ → ℕ
  active_below row k = failures (λ l. dec_idle (row l)) k

  -- no condition, an idle one more, an active one more
  pub active_below-zero : (row : ℕ → Condition R) → active_below row 0 ≡ 0
  active_below-zero row = failures_zero (λ l. dec_idle (row l))

  pub active_below-idle : (row : ℕ → Condition R) (k : ℕ) → Idle R (row k) → active_below row (suc k) ≡ active_below row k
  active_below-idle row k idle = failures_holds (λ l. dec_idle (row l)) k idle

  pub active_below-active : (row : ℕ → Condition R) (k : ℕ) → (Idle R (row k) → ⊥) → active_below row (suc k) ≡ suc (active_below row k)
  active_below-active row k active = failures_fails (λ l. dec_idle (row l)) k active

module _ (F : Field) (N : ℕ) (row : ℕ → Condition F.ring) (k : ℕ) where
  open F use {ring as R}
  open R use {Carrier, add as ◌⊕◌, mul as ◌⊗◌, neg as ⊖◌, null}

  infixl 60 ◌⊕◌
  infixl 70 ◌⊗◌
  infix 80 ⊖◌
  abbrev x : Carrier
  x = (row k).x

  -- What a row does to a pair, whichever of the two it is. A pair that meets the condition stays.
  keeps : {s : Pair R} {f g : Series R} {A B t : ℕ} → discrepancy R N (row k) s ≡ null → Holds R N row k s f A g B t → Holds R N row (suc k) s f A g B t
  keeps {s} e S = record {
    at_row = below_suc (λ l. discrepancy R N (row l) s ≡ null) k S.at_row e;
    leads = S.leads;
    a_below = below_mono R s.a _ _ (omega arith) S.a_below;
    b_below = below_mono R s.b _ _ (omega arith) S.b_below;
  }

  -- a pair times (u - x)
  advances : {s : Pair R} {f g : Series R} {A B t : ℕ} → suc k < N → Holds R N row k s f A g B t
      → Holds R N row (suc k) (advanced R (row k).x s) (mul_s R (linear R (row k).x) f) A (mul_s R (linear R (row k).x) g) B t
  advances {s} fits S = record {
    at_row = below_suc (λ l. discrepancy R N (row l) (advanced R x s) ≡ null) k
        (λ l h. times l ∙ ap (λ t. ((row l).x ⊕ ⊖ x) ⊗ t) (S.at_row l h) ∙ mul_null R _)
        (times k ∙ itself (discrepancy R N (row k) s));
    leads = leading-linear R x S.leads;
    a_below = below_linear-mul R x s.a k S.a_below;
    b_below = below_linear-mul R x s.b k S.b_below;
  }
    where
      itself : (d : Carrier) → (x ⊕ ⊖ x) ⊗ d ≡ null
      itself d = simp ring

      times : (l : ℕ) → discrepancy R N (row l) (advanced R x s) ≡ ((row l).x ⊕ ⊖ x) ⊗ discrepancy R N (row l) s
      times l = simp (discrepancy_at, value-linear_within R N k s.a x (row l).x S.a_below fits, value-linear_within R N k s.b x (row l).x S.b_below fits, ring)

  -- the combination c s - c' s' that meets the condition, c and c' being the discrepancies of s' and s, and s' shorter
  combines : {s s' : Pair R} {f g f' g' : Series R} {A B t t' : ℕ} (c c' : Carrier) → c ≡ discrepancy R N (row k) s' → c' ≡ discrepancy R N (row k) s → c ≢ null
      → Holds R N row k s f A g B t → Holds R N row k s' f' B g' A t' → t' + s'.e ≤ s.e → suc s'.e ≤ t + s.e
      → Holds R N row (suc k) (combined R c s c' s') (combine R c f c' g') A (combine R c g c' f') B t
  combines {s} {s'} c c' e e' nz S S' short short' = record {
    at_row = below_suc (λ l. discrepancy R N (row l) (combined R c s c' s') ≡ null) k
        (λ l h. difference l ∙ none _ _ (S.at_row l h) (S'.at_row l h)) (difference k ∙ itself _ _ e e');
    leads = leading-combine F c' nz S.leads S'.leads short short';
    a_below = below_mono R _ _ _ (omega arith) (below_combine R c s.a c' s'.a _ S.a_below S'.a_below);
    b_below = below_mono R _ _ _ (omega arith) (below_combine R c s.b c' s'.b _ S.b_below S'.b_below);
  }
    where
      difference : (l : ℕ) → discrepancy R N (row l) (combined R c s c' s') ≡ c ⊗ discrepancy R N (row l) s ⊕ ⊖ (c' ⊗ discrepancy R N (row l) s')
      difference l = simp (discrepancy_at, value-combine, ring)

      itself : (d d' : Carrier) → c ≡ d' → c' ≡ d → c ⊗ d ⊕ ⊖ (c' ⊗ d') ≡ null
      itself d d' h h' = rw (h, h') (simp ring)

      none : (d d' : Carrier) → d ≡ null → d' ≡ null → c ⊗ d ⊕ ⊖ (c' ⊗ d') ≡ null
      none d d' h h' = rw (h, h') (simp ring)

module _ (F : Field) (A B N : ℕ) where
  open F use {ring as R}
  open R use {Carrier, null, one}

  pub start_invariant : (row : ℕ → Condition R) → Invariant R A B N row 0 0 (first_pair R B) (second_pair R A)
  start_invariant row = record {
    first = record { at_row = λ l h. absurd (omega arith); leads = leading_one F B A 0; a_below = below_const_s R one; b_below = λ k l. null_s_at R k };
    second = record { at_row = λ l h. absurd (omega arith); leads = leading_one F A B 1; a_below = λ k l. null_s_at R k; b_below = below_const_s R one };
    sum = omega arith;
  }

  -- the five lines of the table; an idle condition, which no pair fails, need not be counted
  module _ {row : ℕ → Condition R} {k a : ℕ} {s t : Pair R} (I : Invariant R A B N row k a s t) where
    pub keep_both : {a' : ℕ} → discrepancy R N (row k) s ≡ null → discrepancy R N (row k) t ≡ null → a ≤ a' → Invariant R A B N row (suc k) a' s t
    keep_both z0 z1 more = record { first = keeps F N row k z0 I.first; second = keeps F N row k z1 I.second; sum = (let h = I.sum in omega arith) }

    module _ (fits : suc k < N) where
      pub advance_first : discrepancy R N (row k) t ≡ null → Invariant R A B N row (suc k) (suc a) (advanced R (row k).x s) t
      advance_first z1 = record { first = advances F N row k fits I.first; second = keeps F N row k z1 I.second; sum = (let h = I.sum in omega arith) }

      pub advance_second : discrepancy R N (row k) s ≡ null → Invariant R A B N row (suc k) (suc a) s (advanced R (row k).x t)
      advance_second z0 = record { first = keeps F N row k z0 I.first; second = advances F N row k fits I.second; sum = (let h = I.sum in omega arith) }

      -- d0 and d1 are the discrepancies
      module _ (d0 d1 : Carrier) (e0 : d0 ≡ discrepancy R N (row k) s) (e1 : d1 ≡ discrepancy R N (row k) t) where
        pub combine_second : d0 ≢ null → s.e ≤ t.e → Invariant R A B N row (suc k) (suc a) (advanced R (row k).x s) (combined R d0 t d1 s)
        combine_second n0 le = record {
          first = advances F N row k fits I.first;
          second = combines F N row k d0 d1 e0 e1 n0 I.second I.first (omega arith) (omega arith);
          sum = (let h = I.sum in omega arith);
        }

        pub combine_first : d1 ≢ null → t.e < s.e → Invariant R A B N row (suc k) (suc a) (combined R d1 s d0 t) (advanced R (row k).x t)
        combine_first n1 lt = record {
          first = combines F N row k d1 d0 e1 e0 n1 I.first I.second (omega arith) (omega arith);
          second = advances F N row k fits I.second;
          sum = (let h = I.sum in omega arith);
        }
