use mathlib.Core.Path.{ap, ◌∙◌}
use Rattle.field.specs.Primes.{modulus_of}
use Rattle.reciprocal.specs.Reciprocals.{reciprocal_of}
use Rattle.reciprocal.proofs.Reciprocals.{reciprocal_of_residue}
use Rattle.reciprocal.proofs.nonzero_reciprocal.Goals as goal

pub returns : goal.returns
returns c =
    let g = c.args in
    c.residue_reciprocal.ensures ∙ ap (reciprocal_of (modulus_of g.q)) c.reduce.ensures ∙ reciprocal_of_residue (modulus_of g.q) g.a
