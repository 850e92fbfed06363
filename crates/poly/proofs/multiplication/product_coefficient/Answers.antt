use mathlib.Core.Path.{sym, ap, ◌∙◌}
use Prim.Native.Nat.{ℕ, ◌-◌, ◌%◌}
use native.Mathlib.Nat.{le_of_lt}
use native.Mathlib.Omega.{arith}
use Rattle.field.specs.Primes.{modulus_of}
use Rattle.poly.proofs.Bounds.{small_product}
use Rattle.poly.proofs.Products.{terms, sum_more, product-start, product_end}
use Rattle.poly.proofs.multiplication.product_coefficient.Goals as goal

pub loop-i-init : goal.loop-i-init
loop-i-init c =
    let e = c.saturating_sub-i.ensures in
    (omega arith, sym (rw e (product-start c.requires.1 c.requires.2 _)), omega arith)

pub loop-i-preserved : goal.loop-i-preserved
loop-i-preserved c =
    let h = small_product c.args.q (le_of_lt (c.requires.1.residues c.loop-i.i)) (le_of_lt (c.requires.2.residues (c.args.k - c.loop-i.i))) in
    let s = sum_more c.loop-i.i (terms c.args.a.c c.args.b.c c.args.k) in
    let m = c.min-i-end.ensures in
    (omega arith, omega arith, omega arith)

pub returns : goal.returns
returns c =
    let m = c.min-i-end.ensures in
    let s = product_end c.requires.1 c.requires.2 c.args.k c.loop-i.i (omega arith) (omega arith) in
    c.reduce.ensures ∙ ap (λ (t : ℕ). t % modulus_of c.args.q) (c.loop-i.invariant.1 ∙ sym s)
