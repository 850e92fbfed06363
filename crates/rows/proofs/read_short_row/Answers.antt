use native.Mathlib.Omega.{arith}
use Rattle.rows.specs.Steps.{row_of}
use Rattle.lists.proofs.Filling.{filled_up_to}
use Rattle.rows.proofs.read_short_row.Goals as goal

pub returns : goal.returns
unfolding row_of
returns c =
    let values = filled_up_to c.loop-i.invariant c.args.outputs (omega arith) in
    λ i. record { point = c.number_from-point.ensures i; values = values i }
