-- What leaves 0 has none (`zero_has_none`); anything else has the reciprocal of its residue.
use mathlib.Core.Path.{ap, ◌∙◌}
use native.Mathlib.Omega.{arith}
use Rattle.field.specs.Primes.{modulus_of}
use Rattle.field.proofs.Moduli.{modulus_prime}
use Rattle.reciprocal.specs.Reciprocals.{reciprocal_of}
use Rattle.reciprocal.proofs.Reciprocals.{reciprocal_of_residue, zero_has_none}
use Rattle.reciprocal.proofs.reciprocal.Goals as goal

pub returns-then-x-eq0 : goal.returns-then-x-eq0
returns-then-x-eq0 c =
    let g = c.args in
    let two = (modulus_prime g.q).two in
    zero_has_none (modulus_of g.q) g.a (omega arith) (omega (arith, c.reduce-x.ensures, c.if-x-eq0.true))

pub returns : goal.returns
returns c =
    let g = c.args in
    c.residue_reciprocal.ensures ∙ ap (reciprocal_of (modulus_of g.q)) c.reduce-x.ensures
    ∙ reciprocal_of_residue (modulus_of g.q) g.a
