-- The tests are those of `raised_at`; past them the product keeps to the bound (`bounded_raised`), also where the numerator is zero.
use native.Mathlib.Omega.{arith}
use Rattle.field.proofs.Moduli.{modulus_positive}
use Rattle.poly.proofs.Lengths.{bounded_length}
use Rattle.format.proofs.Sizes.{numerator_low}
use Rattle.candidate.proofs.Fittings.{bounded_raised, fitting_set}
use Rattle.candidate.proofs.ExtensionLaws.{raised_too_long, raised-fits}
use Rattle.candidate.proofs.extension.raised_at.Goals as goal

pub returns-then-bound-l-clause-value : goal.returns-then-bound-l-clause-value
returns-then-bound-l-clause-value c =
    let l = c.length-l.ensures.0 in
    raised_too_long c.args.b c.args.h.now.c c.args.j c.args.v.now (omega arith) (omega arith)

pub product-requires : goal.product-requires
product-requires c = (
  omega (arith, numerator_low c.requires.0 c.args.j),
  rw c.length-l.ensures.0 (bounded_length (c.requires.1.numerators c.args.j)),
  c.requires.5,
)

pub returns-clause-value : goal.returns-clause-value
returns-clause-value c =
    let l = c.length-l.ensures.0 in
    raised-fits c.args.b c.args.h.now.c c.args.j c.args.v.now c.product.result (λ p. omega arith) c.product.ensures.0

pub returns-clause-fitting : goal.returns-clause-fitting
returns-clause-fitting c =
    let l = c.length-l.ensures.0 in
    fitting_set c.args.b c.requires.1 c.args.v.now.g c.product.result c.args.j (omega arith) c.requires.1.denominator
    (rw c.product.ensures.0 (bounded_raised (modulus_positive c.args.b.prime)
    (bounded_length (c.requires.1.numerators c.args.j)) c.requires.5 (λ p. omega arith)))
