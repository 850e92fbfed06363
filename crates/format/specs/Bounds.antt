-- What the bounds of a job say of its answer.
use Rattle.std.specs.Prelude.{ℕ, zero, suc, ◌+◌, ◌*◌, ◌≤◌, ◌<◌, max, get_or}
use Rattle.field.specs.Primes.{modulus_of}
use Rattle.format.specs.declared.Bounds.{Bounds}

-- the prime as a number
abbrev pub prime_of : Bounds → ℕ
prime_of b = modulus_of b.prime

-- the degree bound of output i, counted from 0
abbrev pub numerator_bound_of : Bounds → ℕ → ℕ
numerator_bound_of b i = get_or b.numerators i 0

-- the largest of the first n outputs' bounds, 0 where n is 0
unfoldable pub largest_bound : Bounds → ℕ → ℕ
largest_bound b zero = 0
largest_bound b (suc i) = max (largest_bound b i) (numerator_bound_of b i)

-- how many coefficients the first n outputs have: "each fi takes its own bound plus 1 coefficients"
unfoldable pub numerator_count : Bounds → ℕ → ℕ
numerator_count b zero = 0
numerator_count b (suc i) = numerator_count b i + (numerator_bound_of b i + 1)

-- the bytes of an answer, paper 01's "recovered sheet": a word, the dg + 1 coefficients of g and those of all outputs, 16 bits each
abbrev pub answer_length_of : Bounds → ℕ
answer_length_of b = 4 + 2 * ((b.dg + 1) + numerator_count b b.outputs)

-- the bounds of an answer that a polynomial of 32 coefficients for g and 4 of them for the f's can hold
pub record FitsPolynomials (b : Bounds) : Type 0 where
  pub few : b.outputs ≤ 4
  pub denominator-low : b.dg ≤ 31
  pub numerators-low : (i : ℕ) → i < b.outputs → numerator_bound_of b i ≤ 31

-- bounds of a job with enough rows, for which every array is long enough
pub record EnoughRows (b : Bounds) : Type 0 where
  pub outputs : b.outputs ≤ 4
  pub rows : b.rows ≤ 31
  pub enough : (i : ℕ) → numerator_bound_of b i + b.dg + 2 * b.errors + 1 ≤ b.rows
