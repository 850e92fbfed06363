-- Paper 01, "The recovered sheet": an answer's bytes.
use Rattle.std.specs.Prelude.{ℕ, zero, suc, ◌+◌, ◌*◌, ◌/◌, ◌%◌, List, [], ◌∷◌, ◌++◌, get_or}
use Rattle.format.specs.declared.Bounds.{Bounds}
use Rattle.format.specs.Bounds.{numerator_bound_of, numerator_count}

-- a number of "16 bits", its high byte first
abbrev pub two_bytes : ℕ → List ℕ
two_bytes v = v / 256 % 256 ∷ v % 256 ∷ []

-- "a 32-bit word", its highest byte first
abbrev pub four_bytes : ℕ → List ℕ
four_bytes w = w / 16777216 % 256 ∷ w / 65536 % 256 ∷ w / 256 % 256 ∷ w % 256 ∷ []

-- the first count coefficients of a, "from the constant term upward, 16 bits each"
unfoldable pub coefficient_bytes : List ℕ → ℕ → List ℕ
coefficient_bytes a zero = []
coefficient_bytes a (suc count) = coefficient_bytes a count ++ two_bytes (get_or a count 0)

-- the numerators of the first n outputs: "each fi takes its own bound plus 1 coefficients". f i has the coefficients of output i, counted from 0.
unfoldable pub output_bytes : Bounds → (ℕ → List ℕ) → ℕ → List ℕ
output_bytes b f zero = []
output_bytes b f (suc i) = output_bytes b f i ++ coefficient_bytes (f i) (numerator_bound_of b i + 1)

-- "A 32-bit word comes first .. Then come dg + 1 coefficients of g", and those of f1 to fn
abbrev pub answer_bytes : Bounds → ℕ → List ℕ → (ℕ → List ℕ) → List ℕ
answer_bytes b word g f =
    four_bytes word ++ coefficient_bytes g (b.dg + 1) ++ output_bytes b f b.outputs

-- the byte at which the coefficients of output i begin
abbrev pub numerator_start : Bounds → ℕ → ℕ
numerator_start b i = 4 + 2 * ((b.dg + 1) + numerator_count b i)
