use mathlib.Core.Path.{refl}
use Rattle.lanes.proofs.Changes.{changing_next, changing_end, lane_below, splat_below, next_below, reduced_below, combined_is}
use native.Mathlib.Omega.{arith}
use Rattle.lane_combination.proofs.combine.Goals as goal

pub product-requires : goal.product-requires
product-requires c =
    (splat_below c.loop-k.invariant (omega arith) c.requires.4, next_below c.loop-k.invariant (omega arith))

pub product-requires-in-loop-k : goal.product-requires-in-loop-k
product-requires-in-loop-k c =
    (splat_below c.loop-k.invariant (omega arith) c.requires.5, lane_below c.loop-k.invariant (omega arith) (c.requires.3.below _))

pub difference-requires : goal.difference-requires
difference-requires c =
    let inv = c.loop-k.invariant in
    let taken = reduced_below inv (omega arith) _ _ _ c.product-in-loop-k.ensures in
    (reduced_below inv (omega arith) _ _ _ c.product.ensures, omega arith)

pub loop-k-preserved : goal.loop-k-preserved
loop-k-preserved c =
    let inv = c.loop-k.invariant in
    let value = combined_is inv (omega arith) _ _ _ c.product.ensures c.product-in-loop-k.ensures c.difference.ensures in
    changing_next inv (omega arith) value

pub returns : goal.returns
returns c = (refl, changing_end c.loop-k.invariant (omega arith))
