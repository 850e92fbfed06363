-- What the sizes of the bounds say of lengths.
use Prim.Native.Nat.{ℕ, zero, suc, ◌+◌, ◌*◌, ◌≤◌, ◌<◌}
use mathlib.Core.Logic.{◌⊎◌, ⊎_elim, inl, inr}
use mathlib.Core.Path.{◌≡◌, refl}
use native.Mathlib.Nat.{eq-or-lt_of_le, le_refl, le_of_suc-le-suc, suc-mul}
use Rattle.std.proofs.Math.Nat.{le_trans, le-max_left, le-max_right, max-le}
use native.Mathlib.Omega.{arith}
use Rattle.format.specs.declared.Bounds.{Bounds}
use Rattle.format.specs.Bounds.{numerator_bound_of, largest_bound, numerator_count, EnoughRows}

pub numerator_low : {b : Bounds} → EnoughRows b → (j : ℕ) → numerator_bound_of b j ≤ 30
numerator_low s j = let e = s.enough j in let r = s.rows in omega arith

pub denominator-low : {b : Bounds} → EnoughRows b → b.dg + 2 * b.errors ≤ 30
denominator-low s = let e = s.enough 0 in let r = s.rows in omega arith

-- the first outputs have no more coefficients than more of them
pub counts_rise : (b : Bounds) (i n : ℕ) → i ≤ n → numerator_count b i ≤ numerator_count b n
unfolding numerator_count
counts_rise b i zero l = let e : i ≡ 0 = omega arith in rw e (omega arith)
counts_rise b i (suc n) l = by (λ lower. counts_rise b i n lower) (eq-or-lt_of_le l)
  where
    by : (i ≤ n → numerator_count b i ≤ numerator_count b n) → (i ≡ suc n) ⊎ (i < suc n) → numerator_count b i ≤ numerator_count b (suc n)
    by earlier (inl e) = rw e (le_refl _)
    by earlier (inr lower) = omega (arith, earlier (omega arith))

-- none of the first n bounds is above the largest
pub largest_above : (b : Bounds) (n i : ℕ) → i < n → numerator_bound_of b i ≤ largest_bound b n
unfolding largest_bound
largest_above b zero i l = absurd (omega arith)
largest_above b (suc n) i l =
    ⊎_elim (λ e. rw e (le-max_right (largest_bound b n) (numerator_bound_of b n)))
    (λ lower. le_trans (largest_above b n i lower) (le-max_left (largest_bound b n) (numerator_bound_of b n))) (eq-or-lt_of_le (le_of_suc-le-suc l))

pub count_next : (b : Bounds) (i : ℕ) → numerator_count b (i + 1) ≡ numerator_count b i + (numerator_bound_of b i + 1)
unfolding numerator_count
count_next b i = let e : i + 1 ≡ suc i = omega arith in rw e refl

-- n outputs have at most so many coefficients, where each has at most m + 1
pub counts_most : (b : Bounds) (m n : ℕ) → ((i : ℕ) → numerator_bound_of b i ≤ m) → numerator_count b n ≤ n * (m + 1)
unfolding numerator_count
counts_most b m zero low = omega arith
counts_most b m (suc n) low = omega (arith, counts_most b m n low, low n, suc-mul n (m + 1))

-- the largest is at most what all are
pub largest_most : (b : Bounds) (m n : ℕ) → ((i : ℕ) → i < n → numerator_bound_of b i ≤ m) → largest_bound b n ≤ m
unfolding largest_bound
largest_most b m zero low = omega arith
largest_most b m (suc n) low = max-le (largest_most b m n (λ i l. low i (omega arith))) (low n (omega arith))
