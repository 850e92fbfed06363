-- Where a number is p or more the row is settled by its mark, as the definition has it; where none is, the row has no mark.
use mathlib.Core.Bool.{not}
use mathlib.Core.Path.{sym, ap, ◌∙◌}
use borrow.Author.Tests.{ne_eqb}
use Rattle.form_check.proofs.RangeTests.{unmarked_form, refused_form, marked_form}
use Rattle.form_check.proofs.row_form.Goals as goal

pub returns-then-not-is_out_of_range : goal.returns-then-not-is_out_of_range
returns-then-not-is_out_of_range g c =
    let a = c.args in
    unmarked_form a.row a.outputs a.p _ c.requires.0 c.requires.2 (sym c.is_out_of_range.ensures ∙ c.if-not-is_out_of_range.true)

pub returns-then-not-this : goal.returns-then-not-this
returns-then-not-this g c =
    let a = c.args in
    rw c.if-not-this.true (refused_form a.row a.outputs a.p (sym c.is_out_of_range.ensures ∙ c.if-not-is_out_of_range.false))

pub returns : goal.returns
returns g c =
    let a = c.args in
    marked_form a.row a.outputs a.p (ap not (ne_eqb g.row.MARKS 0 c.if-not-this.false)) c.row_conditions-marked.ensures c.is_out_of_range-refused.ensures c.if-refused.false
