-- The count is that of the numbers before the one at hand that are x, so it is at most its place; a test's truth value is what it adds.
use mathlib.Core.Path.{◌≡◌}
use lib.Dec.{eqb}
use lib.ListN.{get_or}
use Rattle.lists.specs.Counting.{count_below}
use Rattle.row_search.proofs.count_of.Given as goal

abbrev pub invariant-loop-number : goal.invariant-loop-number
invariant-loop-number l = (l.count ≡ count_below l.number-index (λ j. eqb (get_or l.numbers j 0) l.x))
