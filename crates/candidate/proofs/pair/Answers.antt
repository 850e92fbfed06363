-- The rows that speak, and those that ask something, are at most all rows: so the bounds are low enough for `solution`.
use native.Mathlib.Omega.{arith}
use Rattle.lists.proofs.Counting.{count_most}
use Rattle.pairs.specs.Pairs.{active_at}
use Rattle.candidate.proofs.pair.Goals as goal

pub solution-requires : goal.solution-requires
solution-requires c =
    let table = c.requires.1 in
    let column = c.column-right.ensures in
    let active = count_most c.args.b.rows (active_at c.args.table.now.weights c.column-right.result.z) in (
      record {
        few = c.requires.0.rows;
        low_a = omega (arith, table.speaking_most, c.requires.0.rows);
        low-b = omega (arith, column.2, active, c.requires.0.rows);
        points_below = table.points_below;
        weights_below = table.weights_below;
        z_below = column.1;
      },
      c.requires.2,
    )
