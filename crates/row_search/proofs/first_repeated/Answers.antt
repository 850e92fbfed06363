-- Where the points rise, or each stands once, none is repeated (`none_repeated`); else the search by pairs decides.
use mathlib.Core.Path.{sym}
use Rattle.lists.proofs.Distinct.{none_repeated}
use Rattle.row_search.proofs.first_repeated.Goals as goal

pub returns-then-rise : goal.returns-then-rise
returns-then-rise c = sym (none_repeated c.args.points.now (c.rise.ensures c.if-rise.true))

pub returns-then-single : goal.returns-then-single
returns-then-single c = sym (none_repeated c.args.points.now (c.single.ensures c.if-single.true))
