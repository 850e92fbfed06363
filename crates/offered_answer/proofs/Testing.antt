-- Rows agree with a word for vectors with the same coefficients alike.
use mathlib.Core.Path.{◌∙◌}
use mathlib.Core.List.{List}
use Prim.Native.Nat.{ℕ}
use Rattle.format.specs.declared.Bounds.{Bounds}
use Rattle.row_mask.proofs.Words.{word_same}
use Rattle.problem.specs.Reduced.{Same}
use Rattle.wrong_rows.proofs.JobRows.{wrong_row-same}
use Rattle.offered_answer.specs.Tests.{RowsAgree}

pub agree_same : {b : Bounds} {points weights values : List ℕ} {word : ℕ} {f f' : ℕ → List ℕ} {g g' : List ℕ} → Same b.outputs f g f' g'
    → RowsAgree b points weights values word f g → RowsAgree b points weights values word f' g'
agree_same {b} {points} {weights} {values} h agree = record {
  named = agree.named ∙ word_same b.rows _ _ (λ r l. wrong_row-same b points weights values h r);
  few = agree.few;
}
