-- What is put already and the rows of the bits that are left make the rows of the whole word; taking away the first set bit takes away its row (`next-rows`).
use Rattle.std.proofs.Common.{◌≡◌, ◌^◌, ◌<◌}
use Rattle.row_mask.specs.Word.{is_set}
use Rattle.text.specs.Drafts.{extended}
use Rattle.text.specs.Lines.{row_items}
use Rattle.text.proofs.lines.put_rows.Given as goal

abbrev pub invariant-loop-rest : goal.invariant-loop-rest
invariant-loop-rest l = (l.rest < 2 ^ 32) × (extended l.draft (row_items 32 0 (is_set l.rest)) ≡ extended l.initial.draft (row_items 32 0 (is_set l.word)))

abbrev pub decreases-loop-rest : goal.decreases-loop-rest
decreases-loop-rest l = l.rest
