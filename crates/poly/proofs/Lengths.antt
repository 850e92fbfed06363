-- The length of a polynomial, from the top coefficient down.
use mathlib.Core.Path.{◌≡◌, refl, sym, ap, ◌∙◌}
use mathlib.Core.List.{List}
use Prim.Native.Nat.{ℕ, zero, suc, ◌-◌, ◌≤◌, ◌<◌}
use native.Mathlib.Decide.{dec_lt, ℕ_discrete}
use native.Mathlib.Omega.{arith}
use borrow.Author.Tests.{eq-eqb, ne_eqb}
use lib.ListN.{get_or, length}
use Rattle.poly.specs.Coefficients.{Bounded}
use Rattle.poly.specs.Operations.{length_below, length_of}
use Rattle.lists.proofs.Tabulated.{at_past}

-- where the topmost of the first n + 1 coefficients is 0, and where it is not
length_lower : (a : List ℕ) (n : ℕ) → get_or a n 0 ≡ 0 → length_below a (suc n) ≡ length_below a n
unfolding length_below
length_lower a n e = simp (eq-eqb _ _ e)

length-here : (a : List ℕ) (n : ℕ) → (get_or a n 0 ≡ 0 → ⊥) → length_below a (suc n) ≡ suc n
unfolding length_below
length-here a n e = simp (ne_eqb _ _ e)

-- the same at the code's i = n + 1
pub length_before : (a : List ℕ) (i : ℕ) → 0 < i → get_or a (i - 1) 0 ≡ 0 → length_below a i ≡ length_below a (i - 1)
length_before a zero h e = absurd (omega arith)
length_before a (suc n) h e = let s : suc n - 1 ≡ n = omega arith in rw s (length_lower a n (rw s at e))

pub length_found : (a : List ℕ) (i : ℕ) → 0 < i → (get_or a (i - 1) 0 ≡ 0 → ⊥) → length_below a i ≡ i
length_found a zero h e = absurd (omega arith)
length_found a (suc n) h e = let s : suc n - 1 ≡ n = omega arith in length-here a n (λ z. e (rw s z))

pub length_none : (a : List ℕ) → length_below a 0 ≡ 0
unfolding length_below
length_none a = refl

-- zeros on top do not count
length-start : (a : List ℕ) (n m : ℕ) → ((k : ℕ) → n ≤ k → get_or a k 0 ≡ 0) → n ≤ m → length_below a m ≡ length_below a n
length-start a n zero h l = ap (length_below a) (omega arith)
length-start a n (suc m) h l = go (ℕ_discrete n (suc m)) (length-start a n m h)
  where
    go : Dec (n ≡ suc m) → (n ≤ m → length_below a m ≡ length_below a n) → length_below a (suc m) ≡ length_below a n
    go (yes same) lower = ap (length_below a) (sym same)
    go (no other) lower = length_lower a m (h m (omega arith)) ∙ lower (omega arith)

pub length_of_lem : (a : List ℕ) (n : ℕ) → ((k : ℕ) → n ≤ k → get_or a k 0 ≡ 0) → n ≤ length a → length_of a ≡ length_below a n
unfolding length_of
length_of_lem a n h l = length-start a n (length a) h l

-- the coefficients from the length on are 0, and the one below it is not
length_below_past : (a : List ℕ) (n k : ℕ) → length_below a n ≤ k → k < n → get_or a k 0 ≡ 0
length_below_past a zero k h l = absurd (omega arith)
length_below_past a (suc n) k h l = by_top (ℕ_discrete (get_or a n 0) 0) (length_below_past a n k)
  where
    by_top : Dec (get_or a n 0 ≡ 0) → (length_below a n ≤ k → k < n → get_or a k 0 ≡ 0) → get_or a k 0 ≡ 0
    by_top (yes e) lower = by_place (ℕ_discrete k n)
      where
        by_place : Dec (k ≡ n) → get_or a k 0 ≡ 0
        by_place (yes same) = ap (λ k. get_or a k 0) same ∙ e
        by_place (no other) = lower (let s = length_lower a n e in omega arith) (omega arith)
    by_top (no e) lower = absurd (let s = length-here a n e in omega arith)

pub length_past : (a : List ℕ) (k : ℕ) → length_of a ≤ k → get_or a k 0 ≡ 0
unfolding length_of
length_past a k h = by_place (dec_lt k (length a))
  where
    by_place : Dec (k < length a) → get_or a k 0 ≡ 0
    by_place (yes l) = length_below_past a (length a) k h l
    by_place (no l) = at_past a k (omega arith)

length_below_top : (a : List ℕ) (n m : ℕ) → length_below a n ≡ suc m → get_or a m 0 ≡ 0 → ⊥
length_below_top a zero m h = λ e. (let s = length_none a in omega arith)
length_below_top a (suc n) m h = by_top (ℕ_discrete (get_or a n 0) 0) (length_below_top a n m)
  where
    by_top : Dec (get_or a n 0 ≡ 0) → (length_below a n ≡ suc m → get_or a m 0 ≡ 0 → ⊥) → get_or a m 0 ≡ 0 → ⊥
    by_top (yes e) lower = lower (sym (length_lower a n e) ∙ h)
    by_top (no e) lower = λ z. e (ap (λ k. get_or a k 0) (let s = length-here a n e in omega arith) ∙ z)

pub length_top : (a : List ℕ) (m : ℕ) → length_of a ≡ suc m → get_or a m 0 ≡ 0 → ⊥
unfolding length_of
length_top a m h = length_below_top a (length a) m h

pub length_at_most : (a : List ℕ) (n : ℕ) → ((k : ℕ) → n ≤ k → get_or a k 0 ≡ 0) → length_of a ≤ n
length_at_most a n h = by_length (length_of a) refl
  where
    by_length : (m : ℕ) → length_of a ≡ m → m ≤ n
    by_length zero e = omega arith
    by_length (suc m) e = by_place (dec_lt m n)
      where
        by_place : Dec (m < n) → suc m ≤ n
        by_place (yes l) = omega arith
        by_place (no l) = absurd (length_top a m e (h m (omega arith)))

-- the length is determined by that
pub length_is : (a : List ℕ) (m : ℕ) → (get_or a m 0 ≡ 0 → ⊥) → ((k : ℕ) → suc m ≤ k → get_or a k 0 ≡ 0) → length_of a ≡ suc m
length_is a m top past = by_place (dec_lt m (length_of a))
  where
    by_place : Dec (m < length_of a) → length_of a ≡ suc m
    by_place (yes l) = let s = length_at_most a (suc m) past in omega arith
    by_place (no l) = absurd (top (length_past a m (omega arith)))

pub bounded_length : {p n : ℕ} {a : List ℕ} → Bounded p n a → Bounded p (length_of a) a
bounded_length {a = a} b = record { residues = b.residues; within = length_past a }
