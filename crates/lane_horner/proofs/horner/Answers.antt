use Rattle.lanes.proofs.Changes.{changing_next, changing_end, splat_most, reduced_below, horner_is}
use native.Mathlib.Omega.{arith}
use Rattle.lane_horner.proofs.horner.Goals as goal

pub difference-requires : goal.difference-requires
difference-requires c =
    let inv = c.loop-k.invariant in
    (reduced_below inv (omega arith) _ _ _ c.product.ensures, splat_most inv (omega arith) (omega arith))

pub loop-k-preserved : goal.loop-k-preserved
loop-k-preserved c =
    let inv = c.loop-k.invariant in
    let value = horner_is inv (omega arith) _ _ _ c.low.ensures c.product.ensures c.difference.ensures in
    changing_next inv (omega arith) value

pub returns : goal.returns
returns c = (omega arith, changing_end c.loop-k.invariant (omega arith))
