-- The entry at an index that is not 0 modulo 257 is its reciprocal.
use mathlib.Core.Path.{sym, ap, ◌∙◌}
use native.Mathlib.Omega.{arith}
use Rattle.field.specs.declared.Prime.TheVariants.{P257}
use Rattle.field.proofs.Moduli.{modulus_prime}
use Rattle.std.specs.Prelude.{Some, unwrap_or}
use Rattle.reciprocal.proofs.Reciprocals.{nonzero_has_one}
use Rattle.reciprocal.proofs.table257.reciprocal_of.Goals as goal

pub returns : goal.returns
returns c =
    let one = nonzero_has_one 257 (modulus_prime P257) c.args.a (omega arith) in
    ap Some (c.entry_at.ensures ∙ ap (λ o. unwrap_or o 0) (sym one.1)) ∙ one.1
