-- The word and the count that were computed are those of the candidate; the two branches are those of `counted_solution`.
use mathlib.Core.Path.{◌≡◌, sym, ap, ◌∙◌}
use native.Mathlib.Omega.{arith}
use Rattle.std.specs.Prelude.{Some, Err}
use Rattle.row_mask.specs.Word.{wrong_count_of}
use Rattle.solver.specs.Solutions.{word_by, judged_solution}
use Rattle.solver.proofs.SolutionLaws.{counted_many, counted_few}
use Rattle.solver.proofs.solve.Goals as goal

pub returns-then-b-wrong : goal.returns-then-b-wrong
unfolding word_by
returns-then-b-wrong c =
    let b = c.args.b in
    let t = c.args.table.now in
    let v = c.in_ok-vector.vector in
    let candidate : c.after_outputs.result ≡ Some c.in_ok-vector.vector = grind arith in
    let count : c.wrong_count-wrong.result ≡ wrong_count_of (word_by c.args.b c.args.table.now.points c.args.table.now.weights c.args.table.now.values c.in_ok-vector.vector) = c.wrong_count-wrong.ensures ∙ ap wrong_count_of c.wrong_rows-word.ensures in
    ap Err c.from-no_answer.ensures ∙ counted_many b t.points t.weights t.values v (omega arith)
    ∙ ap (judged_solution b t.points t.weights t.values) (sym candidate ∙ c.after_outputs.ensures.value)

pub returns : goal.returns
unfolding word_by
returns c =
    let b = c.args.b in
    let t = c.args.table.now in
    let candidate : c.after_outputs.result ≡ Some c.in_ok-vector.vector = grind arith in
    counted_few b t.points t.weights t.values c.in_ok-vector.vector c.wrong_rows-word.ensures c.wrong_count-wrong.ensures (omega arith)
    ∙ ap (judged_solution b t.points t.weights t.values) (sym candidate ∙ c.after_outputs.ensures.value)
