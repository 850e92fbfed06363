use Rattle.std.proofs.Common.{lt_of_lt_of_le, arith, lit<}
use borrow.Author.Rules.{scaled_Fits}
use Rattle.spoiling.proofs.Added.{chosen_row_below}
use Rattle.spoiling.proofs.Storing.{spoiled_none, spoiled_more}
use Rattle.spoiling.proofs.spoilings.Goals as goal

pub bounds-by-row : goal.bounds-by-row
bounds-by-row c =
    let pre = c.requires in
    rw c.chosen_row-row.ensures (lt_of_lt_of_le (chosen_row_below _ _ _ pre.0) pre.1)

pub offset_bounds-by-row : goal.offset_bounds-by-row
offset_bounds-by-row c = scaled_Fits _ 32 4 (bounds-by-row c) (lit< tt)

pub loop-preserved : goal.loop-preserved
loop-preserved c =
    let pre = c.requires in (
      omega arith,
      spoiled_more c.loop.invariant.1 pre.0 pre.1 c.next_word-word.ensures
          c.chosen_row-row.ensures c.next_word-last.ensures c.amount.ensures,
    )

pub loop-init : goal.loop-init
loop-init c = (omega arith, spoiled_none _ _ _)
