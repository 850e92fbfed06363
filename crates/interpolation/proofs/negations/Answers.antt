use mathlib.Core.Path.{refl}
use Prim.Native.Nat.{◌<◌}
use native.Mathlib.Nat.{mod-lt}
use Rattle.lists.proofs.Filling.{filled_none, filled_more, filled_below}
use native.Mathlib.Omega.{arith}
use Rattle.interpolation.proofs.negations.Goals as goal

pub overflow_cast-z : goal.overflow_cast-z
overflow_cast-z c =
    omega (arith, c.requires.1 c.loop-k.k)

pub difference-requires : goal.difference-requires
difference-requires c =
    let low = c.requires.1 c.loop-k.k in
    (omega arith, omega arith)

pub loop-k-preserved : goal.loop-k-preserved
loop-k-preserved c =
    filled_more c.loop-k.invariant c.difference.result (omega arith) c.difference.ensures

pub returns : goal.returns
returns c =
    let positive : 0 < c.args.p = (let low = c.requires.1 0 in omega arith) in
    let inv = c.loop-k.invariant in
    (λ k l. inv.done k (omega arith), record { size = inv.size; below = filled_below inv (λ j. mod-lt _ positive) (λ j. positive) })

pub loop-k-init : goal.loop-k-init
loop-k-init c = filled_none 32 _ _ refl
