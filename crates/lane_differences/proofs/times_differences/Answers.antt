use mathlib.Core.Path.{refl}
use Rattle.lanes.proofs.Changes.{changing_next, changing_end, lane_below, splat_below, difference_is}
use native.Mathlib.Omega.{arith}
use Rattle.lane_differences.proofs.times_differences.Goals as goal

pub difference-d-requires : goal.difference-d-requires
difference-d-requires c =
    let x = splat_below c.loop-k.invariant (omega arith) c.requires.3 in
    (lane_below c.loop-k.invariant (omega arith) (c.requires.2.below _), omega arith)

pub loop-k-preserved : goal.loop-k-preserved
loop-k-preserved c =
    let inv = c.loop-k.invariant in
    let value = difference_is inv (omega arith) _ _ _ c.difference-d.ensures c.low.ensures c.product.ensures in
    changing_next inv (omega arith) value

pub returns : goal.returns
returns c = (refl, changing_end c.loop-k.invariant (omega arith))
