-- What the tests find out about an offered answer, on the rows by their conditions, as the code holds them. a holds the offered bytes.
use Rattle.std.specs.Prelude.{◌≡◌, false, List, ℕ, ◌≤◌, drop}
use Rattle.format.specs.declared.Bounds.{Bounds}
use Rattle.format.specs.Bounds.{prime_of}
use Rattle.format.specs.Numbers.{word_from}
use Rattle.row_mask.specs.Word.{word_of, wrong_count_of}
use Rattle.answer.specs.Coefficients.{denominator_of, numerator_of, any_too_large}
use Rattle.wrong_rows.specs.Rows.{wrong_row_at}
use Rattle.problem.specs.Reduced.{Reduced}

-- the polynomials that the offered bytes list behind their word
abbrev pub offered_denominator : Bounds → List ℕ → List ℕ
offered_denominator b a = denominator_of b (drop 4 a)

abbrev pub offered_numerator : Bounds → List ℕ → ℕ → List ℕ
offered_numerator b a = numerator_of b (drop 4 a)

-- exactly the rows that a word names are wrong for f and g, and they are E at most
pub record RowsAgree (b : Bounds) (points weights values : List ℕ) (word : ℕ) (f : ℕ → List ℕ) (g : List ℕ) : Type 0 where
  pub named : word ≡ word_of b.rows (wrong_row_at b points weights values f g)
  pub few : wrong_count_of word ≤ b.errors

-- all tests: "degrees, reducedness and the rows". The bytes leave no room for coefficients above the degree bounds.
pub record Passes (b : Bounds) (points weights values a : List ℕ) : Type 0 where
  pub below : any_too_large b (drop 4 a) ≡ false
  pub reduced : Reduced (prime_of b) b.outputs (offered_numerator b a) (offered_denominator b a)
  pub rows : RowsAgree b points weights values (word_from a) (offered_numerator b a) (offered_denominator b a)
