-- Paper 02, item 1: "the coefficients of g and f as a recovered sheet lists them after its word". s holds the bytes of all coefficients, and no word.
use Rattle.std.specs.Prelude.{ℕ, ◌+◌, ◌-◌, ◌*◌, ◌/◌, Bool, cond, List, ltb, leb, length, Result, Ok, Err}
use Rattle.lists.specs.Tabulated.{tabulate}
use Rattle.format.specs.declared.Bounds.{Bounds}
use Rattle.format.specs.Bounds.{prime_of, numerator_bound_of, answer_length_of}
use Rattle.format.specs.Numbers.{number_from}
use Rattle.lists.specs.Search.{any_below}
use Rattle.poly.specs.declared.Vector.{Vector}
use Rattle.answer.specs.Bytes.{numerator_start}

-- how many bytes they take: an answer's less the word's four, so 2 ((dg + 1) + the sum of each output's bound plus 1)
abbrev pub coefficient_length_of : Bounds → ℕ
coefficient_length_of b = answer_length_of b - 4

-- the polynomial of the count coefficients that stand from byte `from` on, "each from the constant term upward, 16 bits each"
unfoldable pub polynomial_from : List ℕ → (from count : ℕ) → List ℕ
polynomial_from s from count = tabulate 32 (λ k. cond (ltb k count) (number_from s (from + 2 * k)) 0)

-- g: its dg + 1 coefficients come first
abbrev pub denominator_of : Bounds → List ℕ → List ℕ
denominator_of b s = polynomial_from s 0 (b.dg + 1)

-- the numerator of output i, counted from 0: its own bound plus 1 coefficients, where an answer has them but for the word
abbrev pub numerator_of : Bounds → List ℕ → ℕ → List ℕ
numerator_of b s i = polynomial_from s (numerator_start b i - 4) (numerator_bound_of b i + 1)

-- one of the coefficients is p or more
abbrev pub any_too_large : Bounds → List ℕ → Bool
any_too_large b s = any_below (length s / 2) (λ k. leb (prime_of b) (number_from s (2 * k)))

-- the vector that is read, in either case
abbrev pub vector_in : Result Vector Vector → Vector
vector_in (Ok v) = v
vector_in (Err v) = v
