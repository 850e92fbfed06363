use Rattle.std.proofs.Common.{◌≡◌, arith}
use Rattle.text.specs.Lines.{degree_within}
use Rattle.text.proofs.lines.StoredPolynomial.degree.Goals as goal

pub returns-clause-value : goal.returns-clause-value
unfolding degree_within
returns-clause-value c = let none : c.loop-k.k ≡ 0 = omega arith in rw none at c.loop-k.invariant
