-- At a pole 0; else the product with the reciprocal is what the search of the definition finds (`quotient_found`).
use mathlib.Core.Path.{sym, ap, ◌∙◌}
use borrow.Author.Tests.{ne_eqb}
use native.Mathlib.Omega.{arith}
use Rattle.field.proofs.Moduli.{modulus_prime}
use Rattle.spoiling.specs.Spoiling.{number_in}
use Rattle.trial.proofs.Values.{quotient_found}
use Rattle.trial.proofs.job_rows.quotient.Goals as goal

pub returns : goal.returns
returns c =
    let nonzero = c.if-denominator-eq0.false in
    let found =
    quotient_found (modulus_prime c.args.q) c.args.numerator c.args.denominator c.requires.0 c.requires.1 (omega arith) c.nonzero_reciprocal.ensures in
    c.product.ensures ∙ sym (simp (ne_eqb _ _ nonzero) (ap number_in found))
