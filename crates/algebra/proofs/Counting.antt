-- Properties of the numbers below a bound: deciding that all have one, and counting those that fail it.
use mathlib.Core.Path.{◌≡◌, refl, sym, subst}
use Prim.Native.Nat.{ℕ, zero, suc, ◌+◌, ◌≤◌, ◌<◌}
use native.Mathlib.Omega.{arith}
use native.Mathlib.Decide.{ℕ_discrete}

-- a fact of the numbers before k and of k
pub below_suc : (P : ℕ → Type 0) (k : ℕ) → ((l : ℕ) → l < k → P l) → P k → (l : ℕ) → l < suc k → P l
below_suc P k before last l h = by_place (ℕ_discrete l k)
  where
    by_place : Dec (l ≡ k) → P l
    by_place (yes e) = subst P (sym e) last
    by_place (no ne) = before l (omega arith)

pub dec_all : (n : ℕ) (P : ℕ → Type 0) → ((i : ℕ) → i < n → Dec (P i)) → Dec ((i : ℕ) → i < n → P i)
dec_all zero P d = yes (λ i l. absurd (omega arith))
dec_all (suc n) P d = both (dec_all n P (λ i l. d i (omega arith))) (d n (omega arith))
  where
    both : Dec ((i : ℕ) → i < n → P i) → Dec (P n) → Dec ((i : ℕ) → i < suc n → P i)
    both (yes h) (yes p) = yes (below_suc P n h p)
    both (yes h) (no p) = no (λ h'. p (h' n (omega arith)))
    both (no h) c = no (λ h'. h (λ i l. h' i (omega arith)))

pub dec_and : {A B : Type 0} → Dec A → Dec B → Dec (A × B)
dec_and (yes a) (yes b) = yes (a, b)
dec_and (yes a) (no n) = no (λ t. n t.1)
dec_and (no n) c = no (λ t. n t.0)

pub dec_not : {A : Type 0} → Dec A → Dec (A → ⊥)
dec_not (yes a) = no (λ n. n a)
dec_not (no n) = yes n

-- one more, unless A holds
count_unless : {A : Type 0} → Dec A → ℕ → ℕ
count_unless (yes _) n = n
count_unless (no _) n = suc n

-- how many of 0 .. m - 1 fail the property that d decides
pub failures : {P : ℕ → Type 0} → ((l : ℕ) → Dec (P l)) → ℕ → ℕ
failures d zero = 0
failures d (suc m) = count_unless (d m) (failures d m)

module _ {P : ℕ → Type 0} (d : (l : ℕ) → Dec (P l)) where
  pub failures_zero : failures d 0 ≡ 0
  unfolding failures
  failures_zero = refl

  -- one number more, which has the property, or fails it
  pub failures_holds : (m : ℕ) → P m → failures d (suc m) ≡ failures d m
  unfolding failures count_unless
  failures_holds m h = by (d m)
    where
      by : (c : Dec (P m)) → count_unless c (failures d m) ≡ failures d m
      by (yes _) = refl
      by (no n) = absurd (n h)

  pub failures_fails : (m : ℕ) → (P m → ⊥) → failures d (suc m) ≡ suc (failures d m)
  unfolding failures count_unless
  failures_fails m n = by (d m)
    where
      by : (c : Dec (P m)) → count_unless c (failures d m) ≡ suc (failures d m)
      by (yes h) = absurd (n h)
      by (no _) = refl

-- two properties together fail no more often than each by itself
pub failures_and : {P Q : ℕ → Type 0} (p : (l : ℕ) → Dec (P l)) (q : (l : ℕ) → Dec (Q l)) (m : ℕ)
    → failures (λ l. dec_and (p l) (q l)) m ≤ failures p m + failures q m
unfolding failures count_unless dec_and
failures_and p q zero = omega arith
failures_and p q (suc m) = add (p m) (q m) _ _ _ (failures_and p q m)
  where
    add : {A B : Type 0} (a : Dec A) (b : Dec B) (i j k : ℕ) → k ≤ i + j → count_unless (dec_and a b) k ≤ count_unless a i + count_unless b j
    add (yes a) (yes b) i j k l = l
    add (yes a) (no b) i j k l = omega arith
    add (no a) (yes b) i j k l = omega arith
    add (no a) (no b) i j k l = omega arith

-- each number fails a property or its negation
pub failures_not : {P : ℕ → Type 0} (p : (l : ℕ) → Dec (P l)) (m : ℕ) → failures p m + failures (λ l. dec_not (p l)) m ≡ m
unfolding failures count_unless dec_not
failures_not p zero = refl
failures_not p (suc m) = add (p m) _ _ (failures_not p m)
  where
    add : {A : Type 0} (a : Dec A) (i j : ℕ) → i + j ≡ m → count_unless a i + count_unless (dec_not a) j ≡ suc m
    add (yes a) i j e = omega arith
    add (no a) i j e = omega arith

-- where one property gives another
pub failures_le : {P Q : ℕ → Type 0} (p : (l : ℕ) → Dec (P l)) (q : (l : ℕ) → Dec (Q l)) (m : ℕ) → ((l : ℕ) → l < m → P l → Q l) → failures q m ≤ failures p m
unfolding failures count_unless
failures_le p q zero f = omega arith
failures_le p q (suc m) f = add (p m) (q m) (f m (omega arith)) _ _ (failures_le p q m (λ l h. f l (omega arith)))
  where
    add : {A B : Type 0} (a : Dec A) (b : Dec B) → (A → B) → (i j : ℕ) → j ≤ i → count_unless b j ≤ count_unless a i
    add (yes a) (yes b) g _ _ l = l
    add (yes a) (no b) g _ _ l = absurd (b (g a))
    add (no a) (yes b) g _ _ l = omega arith
    add (no a) (no b) g _ _ l = omega arith
