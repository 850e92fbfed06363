use native.Mathlib.Omega.{arith}
use Rattle.lists.proofs.Filling.{filled_none, filled_more, filled_up_to}
use Rattle.answer.specs.Coefficients.{polynomial_from}
use Rattle.answer.proofs.coefficients.polynomial.Goals as goal

pub loop-k-preserved : goal.loop-k-preserved
loop-k-preserved c = (omega arith, filled_more c.loop-k.invariant.1 _ (omega arith) c.number_from.ensures)

pub returns : goal.returns
unfolding polynomial_from
returns c = filled_up_to c.loop-k.invariant.1 _ (omega arith)

pub loop-k-init : goal.loop-k-init
loop-k-init c = (omega arith, filled_none 32 _ _ c.zero-a.ensures)
