use mathlib.Core.Path.{sym}
use native.Mathlib.Omega.{arith}
use Rattle.lists.proofs.Truth.{clash}
use Rattle.lists.proofs.Distinct.{rising_one, rising_more, rising_distinct}
use Rattle.row_search.proofs.rise.Goals as goal

pub loop-r-init : goal.loop-r-init
loop-r-init c = (omega arith, rising_one c.args.points.now)

pub returns-then-points-r : goal.returns-then-points-r
returns-then-points-r c e = clash (sym e)

pub loop-r-preserved : goal.loop-r-preserved
loop-r-preserved c =
    (omega arith, rising_more c.args.points.now c.loop-r.r c.loop-r.invariant.0 c.loop-r.invariant.1 c.if-points-r.false)

pub returns : goal.returns
returns c e = rising_distinct c.args.points.now c.loop-r.invariant.1 (omega arith)
