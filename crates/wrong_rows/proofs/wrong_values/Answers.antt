use mathlib.Core.Path.{◌≡◌, refl, sym, ap₂, ◌∙◌}
use native.Mathlib.Omega.{arith}
use Rattle.evaluation.proofs.Steps.{at_row}
use Rattle.row_mask.specs.Word.{word_of, with_row}
use Rattle.row_mask.proofs.Words.{next_row, row_room, word_same}
use Rattle.wrong_rows.proofs.wrong_values.Goals as goal

pub loop-r-init : goal.loop-r-init
unfolding word_of
loop-r-init c = refl

pub with_row-word-requires : goal.with_row-word-requires
with_row-word-requires c =
    (omega arith, rw c.loop-r.invariant (row_room c.loop-r.r _ (omega arith)))

pub loop-r-preserved : goal.loop-r-preserved
loop-r-preserved c =
    let r = c.loop-r.r in
    let added = c.with_row-word.ensures ∙ ap₂ (λ word wrong. with_row word r wrong) c.loop-r.invariant c.output_is_wrong-wrong.ensures in
    added ∙ sym (next_row r _)

pub returns : goal.returns
returns c =
    let few = c.requires.0 in
    let all : c.loop-r.r ≡ c.args.b.rows = omega arith in
    let judged = rw all at c.loop-r.invariant in
    λ points g ex eg. judged
    ∙ word_same _ _ _ (λ r l. rw (at_row _ points _ (c.values-numerators.ensures points ex) few r l, at_row _ points _ eg few r l))
