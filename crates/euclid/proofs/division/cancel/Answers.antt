use lib.ListN.{get_or}
use mathlib.Core.Path.{◌≡◌, refl, sym, ap₂, ◌∙◌}
use Prim.Native.Nat.{ℕ, ◌+◌, ◌-◌, ◌*◌, ◌%◌}
use native.Mathlib.Omega.{arith}
use Rattle.lists.proofs.Filling.{filled_from, filled_more, filled_all}
use Rattle.field.specs.Primes.{modulus_of}
use Rattle.euclid.specs.Division.{cancelled_of}
use Rattle.euclid.proofs.Cancellation.{cancelled_below, cancelled_above, cancelled_there}
use Rattle.euclid.proofs.division.cancel.Goals as goal

pub loop-j-init : goal.loop-j-init
loop-j-init c =
    let pre = c.requires in
    filled_from 32 _ _ _ pre.4 (λ i l. cancelled_below _ _ _ _ _ i (pre.2.residues i) (omega arith))

pub loop-j-preserved : goal.loop-j-preserved
loop-j-preserved c =
    let place = c.args.n + c.loop-j.j in
    let same : get_or c.loop-j.a place 0 ≡ get_or c.args.a.now place 0 = c.loop-j.invariant.rest place (omega arith) in
    let value = c.plus_product.ensures
    ∙ ap₂ (λ (x t : ℕ). (x + (t - c.args.k) * get_or c.args.b.c c.loop-j.j 0) % modulus_of c.args.q) same c.modulus.ensures
    ∙ sym (cancelled_there (modulus_of c.args.q) c.args.k c.args.n c.args.a.now c.args.b.c c.loop-j.j) in
    let next : c.args.n + (c.loop-j.j + 1) ≡ place + 1 = omega arith in
    rw next (filled_more c.loop-j.invariant c.plus_product.result (omega arith) value)

pub returns : goal.returns
unfolding cancelled_of
returns c =
    let pre = c.requires in
    (refl, filled_all c.loop-j.invariant (λ i l. cancelled_above _ _ _ _ _ pre.3 i (pre.2.residues i) (omega arith)), c.loop-j.invariant.size)
