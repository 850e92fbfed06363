-- After k turns the first k coefficients are put, each behind a blank.
use Rattle.std.proofs.Common.{◌≡◌}
use Rattle.text.specs.Drafts.{extended}
use Rattle.text.specs.Lines.{coefficient_from, items_below}
use Rattle.text.proofs.lines.put_polynomial.Given as goal

abbrev pub invariant-loop-k : goal.invariant-loop-k
invariant-loop-k l = l.draft ≡ extended l.initial.draft (items_below (coefficient_from l.polynomial.area.now l.polynomial.start) l.k)
