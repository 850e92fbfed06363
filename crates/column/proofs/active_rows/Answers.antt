-- The chain gives the pairs of the first rows, of which it counts those that ask something.
use Rattle.std.proofs.Common.{arith, not, ◌&&◌, eqb, take, ℕ, ◌∙◌, rules, tests}
use Rattle.std.proofs.lemmas.Iterator.{YieldsList-from_slice, YieldsList-from_zip}
use Rattle.std.proofs.lemmas.Iterator.Consumers.{YieldsList-at, YieldsList-from_filter, count_from_yields_List}
use Rattle.column.proofs.Columns.{active_pairs}
use Rattle.column.proofs.active_rows.Goals as goal

pub returns : goal.returns
returns c =
    let g = c.args in
    count_from_yields_List c.filter.result _ c.count.ensures.ran
    (YieldsList-from_filter _ (λ (row : ℕ × ℕ). not (eqb row.0 0 && eqb row.1 0))
    (YieldsList-at c.filter.ensures.source (YieldsList-from_zip (YieldsList-from_slice (take g.rows g.weights.now) cc) (YieldsList-from_slice (take g.rows g.z.now) cc)))
    c.filter.ensures.closure (λ x b q k. search (rules, tests)))
    ∙ active_pairs g.weights.now g.z.now g.rows (omega arith) (omega arith)
