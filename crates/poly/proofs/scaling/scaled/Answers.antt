use mathlib.Core.Path.{◌≡◌}
use native.Mathlib.Omega.{arith}
use Rattle.field.proofs.Moduli.{modulus_positive}
use Rattle.poly.specs.Operations.{scaled_at, scaled_of}
use Rattle.lists.proofs.Filling.{filled_none, filled_more, filled_all}
use Rattle.poly.proofs.Bounds.{scaled_past, bounded_scaled}
use Rattle.poly.proofs.scaling.scaled.Goals as goal

pub loop-k-preserved : goal.loop-k-preserved
unfolding scaled_at
loop-k-preserved c =
    (omega arith, filled_more c.loop-k.invariant.1 c.product.result (omega arith) c.product.ensures)

pub returns : goal.returns
unfolding scaled_of
returns c =
    let pre = c.requires in
    let n : c.loop-k.k ≡ c.args.n = omega arith in
    let e = filled_all c.loop-k.invariant.1 (λ j l. scaled_past pre.1 _ j (omega arith)) in
    (e, rw e (bounded_scaled pre.1 _ (modulus_positive c.args.q)))

pub loop-k-init : goal.loop-k-init
loop-k-init c = (omega arith, filled_none 32 _ _ c.zero-r.ensures)
