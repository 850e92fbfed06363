use native.Mathlib.Omega.{arith}
use Rattle.field.proofs.Moduli.{modulus_positive}
use Rattle.poly.specs.Operations.{product_of}
use Rattle.lists.proofs.Filling.{filled_none, filled_all}
use Rattle.poly.proofs.Products.{product-reduced_past, bounded_product}
use Rattle.poly.proofs.multiplication.product.Goals as goal

pub loop-k-init : goal.loop-k-init
loop-k-init c = filled_none 32 _ _ c.zero-r.ensures

pub returns : goal.returns
unfolding product_of
returns c =
    let e = filled_all c.loop-k.invariant (λ j l. product-reduced_past c.requires.1 c.requires.2 j (omega arith)) in
    (e, rw e (bounded_product c.requires.1 c.requires.2 (modulus_positive c.args.q)))
