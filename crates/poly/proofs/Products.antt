-- The sum of products that is a coefficient of a product.
use mathlib.Core.Path.{◌≡◌, refl, sym, ap, ap₂, ◌∙◌}
use mathlib.Core.List.{List}
use Prim.Native.Nat.{ℕ, zero, suc, ◌+◌, ◌-◌, ◌*◌, ◌%◌, ◌≤◌, ◌<◌, min}
use native.Mathlib.Nat.{mod-lt, mod-eq_of_lt, sub_self}
use native.Mathlib.Numerals.{add-one}
use native.Mathlib.Decide.{dec_lt, ℕ_discrete}
use native.Mathlib.Omega.{arith}
use lib.ListN.{get_or, length}
use Rattle.poly.specs.Coefficients.{Bounded}
use Rattle.poly.specs.Operations.{sum_below, product_at, product_of}
use Rattle.lists.proofs.Tabulated.{is_tabulate}
use Rattle.poly.proofs.Lists.{bounded_tabulate}
use Rattle.poly.proofs.Bounds.{zero_remainder}

-- sums
pub sum_more : (n : ℕ) (f : ℕ → ℕ) → sum_below (n + 1) f ≡ sum_below n f + f n
unfolding sum_below
sum_more n f = rw add-one

pub sum_zeros : (n : ℕ) (f : ℕ → ℕ) → ((k : ℕ) → k < n → f k ≡ 0) → sum_below n f ≡ 0
unfolding sum_below
sum_zeros zero f h = refl
sum_zeros (suc n) f h =
    let lower = sum_zeros n f (λ k l. h k (omega arith)) in
    let top = h n (omega arith) in
    omega arith

-- zeros at the end add nothing
sum_end : (n m : ℕ) (f : ℕ → ℕ) → n ≤ m → ((k : ℕ) → n ≤ k → k < m → f k ≡ 0) → sum_below m f ≡ sum_below n f
unfolding sum_below
sum_end n zero f l h = ap (λ (t : ℕ). sum_below t f) (let e : 0 ≡ n = omega arith in e)
sum_end n (suc m) f l h = go (ℕ_discrete n (suc m)) (sum_end n m f)
  where
    go : Dec (n ≡ suc m) → (n ≤ m → ((k : ℕ) → n ≤ k → k < m → f k ≡ 0) → sum_below m f ≡ sum_below n f) → sum_below (suc m) f ≡ sum_below n f
    go (yes same) lower = ap (λ (t : ℕ). sum_below t f) (sym same)
    go (no other) lower =
        let e = lower (omega arith) (λ k lk lm. h k lk (omega arith)) in
        let top = h m (omega arith) (omega arith) in
        omega arith

sum_at_most : (n s : ℕ) (f : ℕ → ℕ) → ((k : ℕ) → f k ≤ s) → sum_below n f ≤ n * s
unfolding sum_below
sum_at_most zero s f h = omega arith
sum_at_most (suc n) s f h = let lower = sum_at_most n s f h in let top = h n in omega arith

pub sum_cong : (n : ℕ) (f g : ℕ → ℕ) → ((k : ℕ) → k < n → f k ≡ g k) → sum_below n f ≡ sum_below n g
unfolding sum_below
sum_cong zero f g h = refl
sum_cong (suc n) f g h = ap₂ ◌+◌ (sum_cong n f g (λ k l. h k (omega arith))) (h n (omega arith))

-- the first term apart
pub sum_first : (n : ℕ) (f : ℕ → ℕ) → sum_below (suc n) f ≡ f 0 + sum_below n (λ k. f (suc k))
unfolding sum_below
sum_first zero f = omega arith
sum_first (suc n) f = let lower = sum_first n f in omega arith

-- the terms of a coefficient of the product of a and b
abbrev pub terms : List ℕ → List ℕ → ℕ → ℕ → ℕ
terms a b k i = get_or a i 0 * get_or b (k - i) 0

module _ {p la lb : ℕ} {a b : List ℕ} (ba : Bounded p la a) (bb : Bounded p lb b) where
  pub terms_before : (k i : ℕ) → i < k + 1 - lb → terms a b k i ≡ 0
  terms_before k i h = let e = bb.within (k - i) (omega arith) in rw e (omega arith)

  pub terms_after : (k i : ℕ) → la ≤ i → terms a b k i ≡ 0
  terms_after k i h = let e = ba.within i h in rw e (omega arith)

  product_past : (k : ℕ) → la + lb - 1 ≤ k → product_at a b k ≡ 0
  unfolding product_at
  product_past k h = sum_zeros (suc k) (terms a b k) (λ i l. go i l (dec_lt i la))
    where
      go : (i : ℕ) → i < suc k → Dec (i < la) → terms a b k i ≡ 0
      go i l (yes low) = terms_before k i (omega arith)
      go i l (no high) = terms_after k i (omega arith)

  pub product-reduced_past : (k : ℕ) → la + lb - 1 ≤ k → product_at a b k % p ≡ 0
  product-reduced_past k h = zero_remainder p _ (product_past k h)

  pub bounded_product : 0 < p → Bounded p (la + lb - 1) (product_of p a b)
  unfolding product_of
  bounded_product h =
      bounded_tabulate p (la + lb - 1) 32 (λ k. product_at a b k % p) (λ k. mod-lt _ h) product-reduced_past

  -- the terms from the (k + 1 - lb)-th up to the min (k + 1) la-th are enough
  pub product_end : (k n : ℕ) → min (k + 1) la ≤ n → n ≤ k + 1 → product_at a b k ≡ sum_below n (terms a b k)
  unfolding product_at
  product_end k n l u = sum_end n (suc k) (terms a b k) (omega arith) (λ i li lk. terms_after k i (omega arith))

  pub product-start : (k : ℕ) → sum_below (k + 1 - lb) (terms a b k) ≡ 0
  product-start k = sum_zeros (k + 1 - lb) (terms a b k) (terms_before k)

-- a times the polynomial 1 is a
module _ {p n : ℕ} {a one : List ℕ} (ba : Bounded p n a) (bo : Bounded p 1 one) (constant : get_or one 0 0 ≡ 1) where
  product_one_at : (k : ℕ) → product_at a one k ≡ get_or a k 0
  unfolding product_at sum_below
  product_one_at k =
      let lower = sum_zeros k (terms a one k) (λ i l. terms_before ba bo k i (omega arith)) in
      rw (lower, sub_self, constant) (omega arith)

  pub product_one : length a ≡ 32 → product_of p a one ≡ a
  unfolding product_of
  product_one size =
      sym (is_tabulate 32 (λ k. product_at a one k % p) a size (λ k l. sym (ap (λ (t : ℕ). t % p) (product_one_at k) ∙ mod-eq_of_lt (ba.residues k))))
