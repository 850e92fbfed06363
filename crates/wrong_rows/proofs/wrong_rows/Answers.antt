use mathlib.Core.Path.{sym}
use Rattle.row_mask.proofs.Words.{word_none}
use Rattle.wrong_rows.specs.Rows.{fails_row}
use Rattle.wrong_rows.proofs.Words.{next_word}
use Rattle.wrong_rows.proofs.wrong_rows.Goals as goal

pub loop-i-init : goal.loop-i-init
unfolding fails_row
loop-i-init c = λ points g ex eg. sym (word_none _)

pub loop-i-preserved : goal.loop-i-preserved
loop-i-preserved c =
    let few = c.requires.0 in
    λ points g ex eg. next_word _ _ _ _ _ _ _ g few (c.loop-i.invariant points g ex eg) (c.wrong_values-word.ensures points g ex eg)
