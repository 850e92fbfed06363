-- The values of d a - c b and of (u - x) a, by the values of a and b.
use lib.ListN.{get_or}
use mathlib.Core.Path.{◌≡◌, refl, sym, ap, ap₂, ◌∙◌}
use mathlib.Core.List.{List, [], ◌∷◌}
use Prim.Native.Nat.{ℕ, zero, suc, ◌+◌, ◌-◌, ◌*◌, ◌/◌, ◌%◌, ◌≤◌}
use native.Mathlib.Nat.{add-zero, div-add-mod', mod-add-mod, one-mul, zero-mul}
use native.Mathlib.Omega.{arith}
use Rattle.field.proofs.Remainders.{same_remainder}
use Rattle.lists.specs.Tabulated.{tabulate}
use Rattle.poly.specs.Operations.{value_of, combination_at, combination_of, times_linear_at, times_linear_of}
use Rattle.poly.proofs.Bounds.{zero_remainder}
use Rattle.poly.proofs.Values.{value_zeros}

-- (d a + m b) + y (d s + m t) = d (a + y s) + m (b + y t) modulo p, each part reduced
pub linear-step : (p y d m a b s t : ℕ)
    → ((d * a + m * b) % p + y * ((d * s + m * t) % p)) % p ≡ (d * ((a + y * s) % p) + m * ((b + y * t) % p)) % p
linear-step p y d m a b s t =
    let low = div-add-mod' (d * a + m * b) p in
    let rest = ap (λ n. y * n) (div-add-mod' (d * s + m * t) p) in
    let one = ap (λ n. d * n) (div-add-mod' (a + y * s) p) in
    let two = ap (λ n. m * n) (div-add-mod' (b + y * t) p) in
    same_remainder p _ ((d * a + m * b) / p + y * ((d * s + m * t) / p)) _ (d * ((a + y * s) / p) + m * ((b + y * t) / p)) (omega arith)

-- q a + y (q s) = q (a + y s), the same with one factor
pub factor_step : (p y q a s : ℕ) → (q * a % p + y * (q * s % p)) % p ≡ q * ((a + y * s) % p) % p
factor_step p y q a s = simp (zero-mul, add-zero) at (linear-step p y q 0 a 0 s 0)

-- one coefficient after the other, for coefficients given by functions
value-linear : (p y d m n : ℕ) (f g : ℕ → ℕ)
    → value_of p y (tabulate n (λ k. (d * f k + m * g k) % p)) ≡ (d * value_of p y (tabulate n f) + m * value_of p y (tabulate n g)) % p
unfolding value_of tabulate
value-linear p y d m zero f g = sym (zero_remainder p _ (omega arith))
value-linear p y d m (suc n) f g =
    ap (λ v. ((d * f 0 + m * g 0) % p + y * v) % p) (value-linear p y d m n (λ k. f (suc k)) (λ k. g (suc k)))
    ∙ linear-step p y d m (f 0) (g 0) _ _

-- zeros past the first n coefficients do not count
value_first : (p y n : ℕ) (a : List ℕ) → ((k : ℕ) → n ≤ k → get_or a k 0 ≡ 0) → value_of p y (tabulate n (λ k. get_or a k 0)) ≡ value_of p y a
unfolding value_of tabulate
value_first p y zero a past = sym (value_zeros p y a (λ k. past k (omega arith)))
value_first p y (suc n) [] past = zero_remainder p _ (let rest = value_first p y n [] (λ k h. refl) in rw rest (omega arith))
value_first p y (suc n) (c ∷ cs) past = ap (λ v. (c + y * v) % p) (value_first p y n cs (λ k h. past (suc k) (omega arith)))

-- d a - c b
pub value_combination : (p y d c : ℕ) (a b : List ℕ) → ((k : ℕ) → 32 ≤ k → get_or a k 0 ≡ 0) → ((k : ℕ) → 32 ≤ k → get_or b k 0 ≡ 0)
    → value_of p y (combination_of p d a c b) ≡ (d * value_of p y a + (p - c) * value_of p y b) % p
unfolding combination_of combination_at
value_combination p y d c a b past-a past-b =
    value-linear p y d (p - c) 32 (λ k. get_or a k 0) (λ k. get_or b k 0)
    ∙ ap₂ (λ v w. (d * v + (p - c) * w) % p) (value_first p y 32 a past-a) (value_first p y 32 b past-b)

-- (u - x) a, which is 1 (u a) - x a
pub value-times_linear : (p y x : ℕ) (a : List ℕ) → ((k : ℕ) → 31 ≤ k → get_or a k 0 ≡ 0)
    → value_of p y (times_linear_of p x a) ≡ (y + (p - x)) * value_of p y a % p
unfolding times_linear_of times_linear_at combination_of combination_at value_of
value-times_linear p y x a past =
    (simp (combination_of, combination_at, one-mul) at (value_combination p y 1 x (0 ∷ a) a shifted (λ k h. past k (omega arith))))
    ∙ mod-add-mod (0 + y * value_of p y a) p ((p - x) * value_of p y a)
    ∙ ap (λ n. n % p) (omega arith)
  where
    shifted : (k : ℕ) → 32 ≤ k → get_or (0 ∷ a) k 0 ≡ 0
    shifted zero h = absurd (omega arith)
    shifted (suc k) h = past k (omega arith)
