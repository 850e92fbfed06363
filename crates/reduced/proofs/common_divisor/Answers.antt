use mathlib.Core.Path.{refl, sym, ap, ◌∙◌}
use native.Mathlib.Omega.{arith}
use Rattle.field.specs.Primes.{modulus_of}
use Rattle.field.proofs.Moduli.{modulus_prime}
use Rattle.poly.specs.Coefficients.{Stored}
use Rattle.poly.specs.Vectors.{coefficients_at}
use Rattle.euclid.proofs.Leading.{stored_bounded}
use Rattle.euclid.specs.Euclid.{gcd_of}
use Rattle.reduced.specs.CommonDivisor.{common_divisor_of}
use Rattle.reduced.proofs.CommonDivisors.{stored_full, common_next, common_stored}
use Rattle.reduced.proofs.common_divisor.Goals as goal
use Rattle.reduced.proofs.common_divisor.Goals.{In-loop-i}

pub loop-i-init : goal.loop-i-init
unfolding common_divisor_of
loop-i-init c = refl

-- the coefficients of the divisor found so far are below the modulus
stored : (c : In-loop-i) → Stored (modulus_of c.args.q) c.loop-i.c.c
stored c =
    rw c.loop-i.invariant
    (common_stored _ (modulus_prime c.args.q) (coefficients_at c.args.v.now.f) c.requires.1 c.loop-i.i (λ i l. c.requires.2 i (omega arith)))

pub length-lc-requires : goal.length-lc-requires
length-lc-requires c = (omega arith, (stored_full (stored c)).within)

pub gcd-c-requires : goal.gcd-c-requires
gcd-c-requires c =
    let e = c.length-lc.ensures.0 in
    (omega arith, stored_full (c.requires.2 c.loop-i.i (omega arith)), e, rw e (stored_bounded (stored (goal.at.gcd-c-requires c).In-loop-i)))

pub loop-i-preserved : goal.loop-i-preserved
loop-i-preserved c =
    let p = modulus_of c.args.q in
    let f = coefficients_at c.args.v.now.f in
    c.gcd-c.ensures.0 ∙ ap (gcd_of p (f c.loop-i.i)) c.loop-i.invariant ∙ sym (common_next p f c.args.v.now.g.c c.loop-i.i)
