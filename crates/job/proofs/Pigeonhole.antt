-- Different numbers below k are at most k many.
use mathlib.Core.Bool.{cond}
use mathlib.Core.Logic.{◌⊎◌, inl, inr}
use mathlib.Core.Path.{◌≡◌}
use Prim.Native.Nat.{ℕ, zero, suc, ◌-◌, ◌<◌, ◌≤◌}
use native.Mathlib.Omega.{arith}
use borrow.Author.Tests.{lt-ltb, le-ltb}
use lib.Dec.{ltb}
use Rattle.lists.proofs.Order.{lt_or_ge}

-- closes the gap that v leaves among the numbers other than v
collapse : ℕ → ℕ → ℕ
collapse v x = cond (ltb v x) (x - 1) x

collapse_above : (v x : ℕ) → v < x → collapse v x ≡ x - 1
unfolding collapse
collapse_above v x l = simp (lt-ltb v x l)

collapse_below : (v x : ℕ) → x ≤ v → collapse v x ≡ x
unfolding collapse
collapse_below v x l = simp (le-ltb v x l)

collapse_most : (v x k : ℕ) → (x ≡ v → ⊥) → v < suc k → x < suc k → (v < x) ⊎ (x ≤ v) → collapse v x < k
collapse_most v x k other b c (inl l) = omega (arith, collapse_above v x l)
collapse_most v x k other b c (inr l) = omega (arith, collapse_below v x l)

collapse_one : (v x y : ℕ) → (x ≡ v → ⊥) → (y ≡ v → ⊥) → collapse v x ≡ collapse v y → (v < x) ⊎ (x ≤ v) → (v < y) ⊎ (y ≤ v) → x ≡ y
collapse_one v x y a b e (inl l) (inl m) = omega (arith, collapse_above v x l, collapse_above v y m)
collapse_one v x y a b e (inl l) (inr m) = omega (arith, collapse_above v x l, collapse_below v y m)
collapse_one v x y a b e (inr l) (inl m) = omega (arith, collapse_below v x l, collapse_above v y m)
collapse_one v x y a b e (inr l) (inr m) = omega (arith, collapse_below v x l, collapse_below v y m)

pub pigeonhole : (m k : ℕ) (f : ℕ → ℕ) → ((i : ℕ) → i < m → f i < k) → ((i j : ℕ) → i < m → j < m → f i ≡ f j → i ≡ j) → m ≤ k
pigeonhole zero k f below different = omega arith
pigeonhole (suc m) zero f below different = absurd (let h = below 0 (omega arith) in omega arith)
pigeonhole (suc m) (suc k) f below different =
    let other : (i : ℕ) → i < m → f i ≡ f m → ⊥ = λ i l e. (let q = different i m (omega arith) (omega arith) e in omega arith) in
    let h = pigeonhole m k (λ i. collapse (f m) (f i))
    (λ i l. collapse_most (f m) (f i) k (other i l) (below m (omega arith)) (below i (omega arith)) (lt_or_ge (f m) (f i)))
    (λ i j l n e. different i j (omega arith) (omega arith)
    (collapse_one (f m) (f i) (f j) (other i l) (other j n) e (lt_or_ge (f m) (f i)) (lt_or_ge (f m) (f j)))) in
    omega arith
