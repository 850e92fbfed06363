-- Long division of polynomials modulo p, as definitions over whole lists of 32 coefficients. The divisor b has degree m, and
-- i is the reciprocal of its leading coefficient.
use Rattle.std.specs.Prelude.{List, ◌∷◌, ℕ, zero, suc, ◌+◌, ◌-◌, ◌*◌, ◌%◌, get_or, set, replicate, Option, Some, None}
use Rattle.reciprocal.specs.Reciprocals.{reciprocal_of}
use Rattle.lists.specs.Tabulated.{tabulate}
use Rattle.poly.specs.Operations.{length_of}

-- u^n b
unfoldable pub shifted : ℕ → List ℕ → List ℕ
shifted zero b = b
shifted (suc n) b = 0 ∷ shifted n b

-- a - k u^n b
unfoldable pub cancelled_at : ℕ → ℕ → ℕ → List ℕ → List ℕ → ℕ → ℕ
cancelled_at p k n b a j = (get_or a j 0 + (p - k) * get_or (shifted n b) j 0) % p

unfoldable pub cancelled_of : ℕ → ℕ → ℕ → List ℕ → List ℕ → List ℕ
cancelled_of p k n b a = tabulate 32 (cancelled_at p k n b a)

-- the factor k for which a - k u^n b has no coefficient of u^(n + m)
unfoldable pub cancel_factor : ℕ → ℕ → ℕ → ℕ → List ℕ → ℕ
cancel_factor p m i n a = get_or a (n + m) 0 * i % p

-- one step of long division, at place n: the factor there is the quotient's coefficient of u^n
unfoldable pub division_step : ℕ → List ℕ → ℕ → ℕ → ℕ → List ℕ → List ℕ
division_step p b m i n a = cancelled_of p (cancel_factor p m i n a) n b a

-- what is left of a after the steps at places n - 1, .., 0
unfoldable pub remainder_from : ℕ → List ℕ → ℕ → ℕ → ℕ → List ℕ → List ℕ
remainder_from p b m i zero a = a
remainder_from p b m i (suc n) a = remainder_from p b m i n (division_step p b m i n a)

-- c with the factors of these steps as its coefficients
unfoldable pub quotient_from : ℕ → List ℕ → ℕ → ℕ → ℕ → List ℕ → List ℕ → List ℕ
quotient_from p b m i zero a c = c
quotient_from p b m i (suc n) a c = quotient_from p b m i n (division_step p b m i n a) (set c n (cancel_factor p m i n a))

-- the degree of b, if b is not zero
unfoldable pub degree_of : List ℕ → ℕ
degree_of b = length_of b - 1

-- the reciprocal of its leading coefficient; there is none where b is zero
unfoldable pub leading_reciprocal : ℕ → List ℕ → Option ℕ
leading_reciprocal p b = reciprocal_of p (get_or b (degree_of b) 0)

-- Remainder and quotient of a by b, given that reciprocal. An a of length l leaves l - m places for the steps. Without a reciprocal no step
-- can be taken: all of a is left.
abbrev pub remainder_by : ℕ → List ℕ → List ℕ → Option ℕ → List ℕ
remainder_by p a b (Some i) = remainder_from p b (degree_of b) i (length_of a - degree_of b) a
remainder_by p a b None = a

abbrev pub quotient_by : ℕ → List ℕ → List ℕ → Option ℕ → List ℕ
quotient_by p a b (Some i) = quotient_from p b (degree_of b) i (length_of a - degree_of b) a (replicate 32 0)
quotient_by p a b None = replicate 32 0

unfoldable pub remainder_of : ℕ → List ℕ → List ℕ → List ℕ
remainder_of p a b = remainder_by p a b (leading_reciprocal p b)

unfoldable pub quotient_of : ℕ → List ℕ → List ℕ → List ℕ
quotient_of p a b = quotient_by p a b (leading_reciprocal p b)
