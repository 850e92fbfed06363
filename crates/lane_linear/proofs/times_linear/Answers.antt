use native.Mathlib.Numerals.{add-one}
use Rattle.lanes.proofs.Changes.{changing_same, changing_next, changing_end, lane_below, splat_below, next_below, reduced_below, linear_is}
use native.Mathlib.Omega.{arith}
use Rattle.lane_linear.proofs.times_linear.Goals as goal

pub product-requires : goal.product-requires
product-requires c =
    (splat_below c.loop-k.invariant.0 (omega arith) c.requires.2, next_below c.loop-k.invariant.0 (omega arith))

pub difference-requires : goal.difference-requires
difference-requires c =
    let inv = c.loop-k.invariant in
    let taken = reduced_below inv.0 (omega arith) _ _ _ c.product.ensures in
    (lane_below inv.0 (omega arith) inv.2, omega arith)

pub loop-k-preserved : goal.loop-k-preserved
loop-k-preserved c =
    let inv = c.loop-k.invariant in
    let same = changing_same inv.0 in
    let value = linear_is inv.0 (omega arith) _ inv.1 c.product.ensures c.difference.ensures in
    (changing_next inv.0 (omega arith) value, rw add-one same, rw same (inv.0.residues.below _))

pub returns : goal.returns
returns c = (omega arith, changing_end c.loop-k.invariant.0 (omega arith))
