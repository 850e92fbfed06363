use mathlib.Core.Path.{◌∙◌}
use Rattle.lanes.proofs.Changes.{splat}
use Rattle.lanes.proofs.Modulus.new.Goals as goal

pub invariant_of-result : goal.invariant_of-result
invariant_of-result c = record { alike = record { each = splat c.modulus-p.result } }

pub returns : goal.returns
returns c = record {
  constants = record { moduli = record { each = splat c.modulus-p.result }; number = c.modulus-p.ensures };
  inverses = record { each = λ k l. splat c.inverse-inverse.result k l ∙ c.inverse-inverse.ensures };
}
