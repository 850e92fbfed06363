-- All 32 points are x, so the value wanted is that of the first row.
use mathlib.Core.Path.{ap, ◌∙◌}
use native.Mathlib.Omega.{arith}
use lib.ListN.{get_or, replicate}
use Rattle.evaluation.specs.Values.{each_point}
use Rattle.lists.proofs.Tabulated.{at_tabulate}
use Rattle.trial.proofs.job_rows.value_at.Goals as goal

pub returns : goal.returns
unfolding each_point
returns c =
    ap (λ v. get_or v 0 0) (c.values-values.ensures (replicate 32 c.args.x) c.forms-forms.ensures)
    ∙ at_tabulate 32 _ 0 (omega arith)
