-- The operations on polynomials modulo p, as definitions over whole lists of 32 coefficients.
use Rattle.std.specs.Prelude.{cond, List, [], ◌∷◌, ℕ, zero, suc, ◌+◌, ◌-◌, ◌*◌, ◌%◌, eqb, get_or, length}
use Rattle.lists.specs.Tabulated.{tabulate}

-- the value at x: c0 + x (c1 + x (c2 + ..))
unfoldable pub value_of : ℕ → ℕ → List ℕ → ℕ
value_of p x [] = 0
value_of p x (c ∷ cs) = (c + x * value_of p x cs) % p

-- d0 a - d1 b
unfoldable pub combination_at : ℕ → ℕ → List ℕ → ℕ → List ℕ → ℕ → ℕ
combination_at p d0 a d1 b k = (d0 * get_or a k 0 + (p - d1) * get_or b k 0) % p

unfoldable pub combination_of : ℕ → ℕ → List ℕ → ℕ → List ℕ → List ℕ
combination_of p d0 a d1 b = tabulate 32 (combination_at p d0 a d1 b)

-- (u - x) a: the coefficient of u^k is a's of u^(k - 1) less x times a's of u^k
unfoldable pub times_linear_at : ℕ → ℕ → List ℕ → ℕ → ℕ
times_linear_at p x a k = (get_or (0 ∷ a) k 0 + (p - x) * get_or a k 0) % p

unfoldable pub times_linear_of : ℕ → ℕ → List ℕ → List ℕ
times_linear_of p x a = tabulate 32 (times_linear_at p x a)

-- c a
unfoldable pub scaled_at : ℕ → ℕ → List ℕ → ℕ → ℕ
scaled_at p c a k = c * get_or a k 0 % p

unfoldable pub scaled_of : ℕ → ℕ → List ℕ → List ℕ
scaled_of p c a = tabulate 32 (scaled_at p c a)

-- The length of a polynomial is its degree plus 1, and 0 for the zero polynomial. Here of the first n coefficients:
-- where the topmost is 0, that of the ones below it.
unfoldable pub length_below : List ℕ → ℕ → ℕ
length_below a zero = 0
length_below a (suc n) = cond (eqb (get_or a n 0) 0) (length_below a n) (suc n)

unfoldable pub length_of : List ℕ → ℕ
length_of a = length_below a (length a)

-- f 0 + .. + f (n - 1)
unfoldable pub sum_below : ℕ → (ℕ → ℕ) → ℕ
sum_below zero f = 0
sum_below (suc n) f = sum_below n f + f n

-- the coefficient of u^k in the product, not reduced: the sum over i from 0 to k of a's at i times b's at k - i
unfoldable pub product_at : List ℕ → List ℕ → ℕ → ℕ
product_at a b k = sum_below (suc k) (λ i. get_or a i 0 * get_or b (k - i) 0)

-- a b, cut to 32 coefficients
unfoldable pub product_of : ℕ → List ℕ → List ℕ → List ℕ
product_of p a b = tabulate 32 (λ k. product_at a b k % p)
