use mathlib.Core.Path.{refl, ap}
use Rattle.montgomery.specs.declared.Factor.{Factor}
use Rattle.lists.proofs.Filling.{filled_none, filled_more, filled_up_to}
use Rattle.evaluation.specs.Values.{each_point}
use native.Mathlib.Omega.{arith}
use Rattle.evaluation.proofs.forms.Goals as goal

pub loop-l-preserved : goal.loop-l-preserved
loop-l-preserved c =
    filled_more c.loop-l.invariant c.as_factor-x.result.form (omega arith) (ap (λ (f : Factor). f.form) c.as_factor-x.ensures)

pub returns : goal.returns
unfolding each_point
returns c = filled_up_to c.loop-l.invariant _ (omega arith)

pub loop-l-init : goal.loop-l-init
loop-l-init c = filled_none 32 _ _ refl
