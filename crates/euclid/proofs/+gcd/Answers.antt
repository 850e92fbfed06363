-- `gcd_more` is the step of Euclid's rule.
use mathlib.Core.Path.{◌≡◌, sym, ◌∙◌}
use lib.ListN.{length}
use Rattle.field.proofs.Moduli.{modulus_prime}
use Rattle.poly.specs.Operations.{length_of}
use Rattle.poly.proofs.Lists.{bounded_mono}
use Rattle.poly.proofs.Lengths.{bounded_length}
use Rattle.euclid.proofs.Leading.{length_array, bounded_stored}
use Rattle.euclid.proofs.Euclid.{gcd_stop, gcd_more}
use borrow.Author.Rules.{rules}
use native.Mathlib.Omega.{arith}
use Rattle.euclid.proofs.+gcd.Goals as goal

-- the second polynomial is zero
pub returns-then-lb-eq0 : goal.returns-then-lb-eq0
returns-then-lb-eq0 t c = (sym (gcd_stop _ _ _ (sym c.requires.2 ∙ c.if-lb-eq0.true)), bounded_mono c.requires.1 (omega arith))

-- the remainder's length
pub length-lr-requires : goal.length-lr-requires
length-lr-requires t c =
    let size : length c.args.b.c ≡ 32 = search rules in
    let l = length_array c.args.b.c size in
    (omega arith, c.divide-d.ensures.3.within)

-- the call
pub gcd-requires : goal.gcd-requires
gcd-requires t c =
    let size : length c.args.b.c ≡ 32 = search rules in
    let l = length_array c.args.b.c size in
    let e = c.length-lr.ensures.0 in
    (omega arith, (omega arith, c.requires.3, e, rw e (bounded_length c.divide-d.ensures.3)))

-- its result
pub returns : goal.returns
returns t c =
    let size-a : length c.args.a.c ≡ 32 = search rules in
    let size-b : length c.args.b.c ≡ 32 = search rules in
    let nonzero : length_of c.args.b.c ≡ 0 → ⊥ = (λ z. c.if-lb-eq0.false (c.requires.2 ∙ z)) in
    let more = gcd_more (modulus_prime c.args.q) (bounded_stored c.requires.1 size-a) (bounded_stored c.requires.3 size-b) nonzero in
    (rw c.divide-d.ensures.2 at c.gcd.ensures.0 ∙ sym more, bounded_mono c.gcd.ensures.1 (omega (arith, c.length-lr.ensures.1)))
