-- Paper 01, "The printing program": the lines of an answer's text, from the bytes of the recovered sheet. Bytes are ASCII; past the
-- end of the list they are read as 0.
use Rattle.std.specs.Prelude.{ℕ, zero, suc, ◌+◌, ◌*◌, Bool, cond, List, [], ◌∷◌, ◌++◌, eqb}
use Rattle.format.specs.Numbers.{number_from}
use Rattle.format.specs.declared.Bounds.{Bounds}
use Rattle.format.specs.Bounds.{numerator_bound_of}
use Rattle.answer.specs.Bytes.{numerator_start}
use Rattle.text.specs.Decimal.{decimal_of, item_of}

-- the bytes of the longest answer: the word, and 32 coefficients of g and of each of four numerators
abbrev pub longest_answer : ℕ
longest_answer = 4 + 2 * 32 + 2 * (4 * 32)

-- "a line feed after each line"
abbrev pub line_feed : List ℕ
line_feed = 10 ∷ []

-- "f"
abbrev pub output_label : List ℕ
output_label = 102 ∷ []

-- "margin"
abbrev pub margin_label : List ℕ
margin_label = 109 ∷ 97 ∷ 114 ∷ 103 ∷ 105 ∷ 110 ∷ []

-- the wrong ones of the n rows from row r on, rising, a space before each
unfoldable pub row_items : ℕ → ℕ → (ℕ → Bool) → List ℕ
row_items zero r wrong = []
row_items (suc n) r wrong = cond (wrong r) (item_of r ++ row_items n (suc r) wrong) (row_items n (suc r) wrong)

-- the coefficient of u^k of the polynomial that begins at a byte
abbrev pub coefficient_from : List ℕ → ℕ → ℕ → ℕ
coefficient_from s start k = number_from s (start + 2 * k)

-- the true degree of a polynomial whose degree is at most the bound: the place of its topmost coefficient that is not 0, and 0 for
-- the zero polynomial
unfoldable pub degree_within : (ℕ → ℕ) → ℕ → ℕ
degree_within c zero = 0
degree_within c (suc d) = cond (eqb (c (suc d)) 0) (degree_within c d) (suc d)

-- the first count coefficients, from the constant upward, a space before each
unfoldable pub items_below : (ℕ → ℕ) → ℕ → List ℕ
items_below c zero = []
items_below c (suc count) = items_below c count ++ item_of (c count)

-- "coefficients from the constant up to the true degree; a zero polynomial prints 0", which is its constant
abbrev pub coefficients_line : (ℕ → ℕ) → ℕ → List ℕ
coefficients_line c bound = items_below c (degree_within c bound + 1) ++ line_feed

-- the line of output i, counted from 0, whose coefficients begin at a byte
abbrev pub output_line_from : List ℕ → ℕ → ℕ → ℕ → List ℕ
output_line_from s i start bound = output_label ++ decimal_of (i + 1) ++ coefficients_line (coefficient_from s start) bound

-- the lines of the first n outputs
unfoldable pub output_lines : Bounds → List ℕ → ℕ → List ℕ
output_lines b s zero = []
output_lines b s (suc i) = output_lines b s i ++ output_line_from s i (numerator_start b i) (numerator_bound_of b i)

-- paper 02, item 7: "a last line margin with" the number
abbrev pub margin_line : ℕ → List ℕ
margin_line margin = margin_label ++ item_of margin ++ line_feed
