-- Polynomials modulo p as lists of coefficients, from the constant term upward: the coefficient of u^k in a is get_or a k 0, and 0 past the list's end.
use Rattle.std.specs.Prelude.{◌≡◌, List, ℕ, ◌≤◌, ◌<◌, get_or, length}

-- coefficients below p, and zero from n on: a polynomial modulo p of degree below n
pub record Bounded (p n : ℕ) (a : List ℕ) : Type 0 where
  pub residues : (k : ℕ) → get_or a k 0 < p
  pub within : (k : ℕ) → n ≤ k → get_or a k 0 ≡ 0

-- an array of 32 coefficients below p
pub record Stored (p : ℕ) (a : List ℕ) : Type 0 where
  pub size : length a ≡ 32
  pub below : (k : ℕ) → get_or a k 0 < p
