-- What the solver returns for a table of rows,
-- as the code makes it.
use Rattle.std.specs.Prelude.{cond, List, ℕ, ltb, Option, Some, None, Result, Ok}
use Rattle.format.specs.declared.Bounds.{Bounds}
use Rattle.format.specs.declared.Refusal.{Refusal}
use Rattle.format.specs.declared.Reason.TheVariants.{NoAnswer}
use Rattle.format.specs.Outcomes.{refused}
use Rattle.poly.specs.declared.Vector.{Vector}
use Rattle.poly.specs.Vectors.{coefficients_at}
use Rattle.candidate.specs.Candidates.{candidate_after}
use Rattle.row_mask.specs.Word.{word_of, wrong_count_of}
use Rattle.wrong_rows.specs.Rows.{wrong_row_at}
use Rattle.solver.specs.declared.Solution.{Solution}

-- the word of the rows that are wrong for a candidate
unfoldable pub word_by : Bounds → (points weights values : List ℕ) → Vector → ℕ
word_by b points weights values v = word_of b.rows (wrong_row_at b points weights values (coefficients_at v.f) v.g.c)

-- the candidate, if at most E rows are wrong for it
unfoldable pub counted_solution : Bounds → (points weights values : List ℕ) → Vector → Result Solution Refusal
counted_solution b points weights values v =
    cond (ltb b.errors (wrong_count_of (word_by b points weights values v))) (refused NoAnswer 0)
    (Ok (record { word = word_by b points weights values v; wrong = wrong_count_of (word_by b points weights values v); vector = v }))

abbrev pub judged_solution : Bounds → (points weights values : List ℕ) → Option Vector → Result Solution Refusal
judged_solution b points weights values (Some v) = counted_solution b points weights values v
judged_solution b points weights values None = refused NoAnswer 0

-- of a table of which S rows speak
abbrev pub solution_for : Bounds → (S : ℕ) (points weights values : List ℕ) → Result Solution Refusal
solution_for b S points weights values = judged_solution b points weights values (candidate_after b S points weights values b.outputs)
