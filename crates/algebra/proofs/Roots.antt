-- Roots: a polynomial below n that is not null is not null at more than m - n of m distinct points. So two polynomials are equal
-- where they agree at enough points.
use mathlib.Core.Path.{◌≡◌, sym, ◌∙◌, ap, ap₂}
use mathlib.Core.Logic.{◌≢◌}
use Prim.Native.Nat.{ℕ, zero, suc, ◌+◌, ◌≤◌, ◌<◌}
use native.Mathlib.Omega.{arith}
use Rattle.algebra.proofs.Ring.{add-neg, sub_null}
use Rattle.algebra.proofs.Series.{Series, add_s, neg_s, null_s, mul_s, mul_s_null, series_ring}
use Rattle.algebra.proofs.Bounds.{Below, below_zero, below_add, below_neg}
use Rattle.algebra.proofs.Value.{value, value-add, value-neg, value_stable, value-linear-mul, linear, quotient_at, quotient_at_below, factor_at_root}
use Rattle.algebra.proofs.Field.{Field, cancel}
use Rattle.algebra.proofs.Degree.{dec_null}
use Rattle.algebra.proofs.Counting.{failures, failures_holds, failures_fails, failures_le}

module _ (F : Field) where
  open F use {ring as R, dec}
  open R use {Carrier, add as ◌⊕◌, mul as ◌⊗◌, neg as ⊖◌, null}

  infixl 60 ◌⊕◌
  infixl 70 ◌⊗◌
  infix 80 ⊖◌
  -- the points x 0 .. x (m - 1) are distinct
  abbrev pub Distinct : (ℕ → Carrier) → ℕ → Type 0
  Distinct x m = (i j : ℕ) → i < j → j < m → x i ≢ x j

  -- at how many of x 0 .. x (m - 1) the value of h's first N coefficients is not null
  abbrev pub nonzeros : ℕ → Series R → (ℕ → Carrier) → ℕ → ℕ
  nonzeros N h x m = failures (λ l. dec (value R N h (x l)) null) m

  -- h at y by its quotient at a root x
  value-quotient : (n : ℕ) (h : Series R) (x y : Carrier) → Below R h (suc n) → value R (suc n) h x ≡ null
      → value R (suc n) h y ≡ (y ⊕ ⊖ x) ⊗ value R n (quotient_at R n h x) y
  value-quotient n h x y b e =
      sym (value_stable R (suc n) (2 + n) h y b (omega arith))
      ∙ ap (λ g. value R (2 + n) g y) (sym (factor_at_root R n h x b e))
      ∙ value-linear-mul R n (quotient_at R n h x) x y (quotient_at_below R n n h x b)

  -- the quotient at a root has no more nonzeros at the other points
  nonzeros-quotient : (n : ℕ) (h : Series R) (root : Carrier) (x : ℕ → Carrier) (m : ℕ) → Below R h (suc n)
      → value R (suc n) h root ≡ null → ((i : ℕ) → i < m → x i ≢ root)
      → nonzeros n (quotient_at R n h root) x m ≤ nonzeros (suc n) h x m
  nonzeros-quotient n h root x m b e apart =
      failures_le _ _ m (λ l h' z. cancel F _ _ (λ w. apart l h' (sub_null R (x l) root w)) (sym (value-quotient n h root (x l) b e) ∙ z))

  pub root_bound : (x : ℕ → Carrier) (m n : ℕ) (h : Series R) → Below R h n → Distinct x m → h ≢ null_s R
      → m < n + nonzeros n h x m
  root_bound x m zero h b d nz = absurd (nz (below_zero R h b))
  root_bound x zero (suc n) h b d nz = omega arith
  root_bound x (suc m) (suc n) h b d nz =
      by_value (dec (value R (suc n) h (x m)) null) (root_bound x m (suc n) h b distinct nz)
      (root_bound x m n (quotient_at R n h (x m)) (quotient_at_below R n n h (x m) b) distinct)
    where
      distinct : Distinct x m
      distinct i j l l' = d i j l (omega arith)

      by_value : Dec (value R (suc n) h (x m) ≡ null) → m < suc n + nonzeros (suc n) h x m
          → (quotient_at R n h (x m) ≢ null_s R → m < n + nonzeros n (quotient_at R n h (x m)) x m)
          → suc m < suc n + nonzeros (suc n) h x (suc m)
      by_value (yes e) ih ih-quotient =
          let same = failures_holds (λ l. dec (value R (suc n) h (x l)) null) m e in
          let fewer = nonzeros-quotient n h (x m) x m b e (λ i l. d i m l (omega arith)) in
          let l = ih-quotient (λ q. nz (sym (factor_at_root R n h (x m) b e) ∙ ap (mul_s R (linear R (x m))) q ∙ mul_s_null R (linear R (x m)))) in
          omega arith
      by_value (no e) ih ih-quotient = let more = failures_fails (λ l. dec (value R (suc n) h (x l)) null) m e in omega arith

  -- two polynomials below n are equal if they agree at those of m distinct points that have a property, and at most m - n fail it
  pub equal_if_agree : {P : ℕ → Type 0} (c : (l : ℕ) → Dec (P l)) (x : ℕ → Carrier) (m n : ℕ) (f g : Series R) → Below R f n → Below R g n
      → Distinct x m → ((l : ℕ) → l < m → P l → value R n f (x l) ≡ value R n g (x l)) → n + failures c m ≤ m → f ≡ g
  equal_if_agree {P} c x m n f g bf bg d agree l = sub_null (series_ring R) f g (by (dec_null F n h low))
    where
      h : Series R
      h = add_s R f (neg_s R g)

      low : Below R h n
      low = below_add R f (neg_s R g) n bf (below_neg R g n bg)

      vanishes : (i : ℕ) → i < m → P i → value R n h (x i) ≡ null
      vanishes i li e = value-add R n f (neg_s R g) (x i) ∙ ap₂ ◌⊕◌ (agree i li e) (value-neg R n g (x i)) ∙ add-neg R _

      by : Dec (h ≡ null_s R) → h ≡ null_s R
      by (yes e) = e
      by (no ne) =
          let s = root_bound x m n h low d ne in
          let t = failures_le c (λ i. dec (value R n h (x i)) null) m vanishes in
          absurd (omega arith)
