use Rattle.std.proofs.Common.{◌≡◌, [], ◌++◌, refl, sym, ap, ◌∙◌, arith}
use Rattle.row_mask.specs.Word.{is_set}
use Rattle.text.specs.Drafts.{extended}
use Rattle.text.specs.Decimal.{item_of}
use Rattle.text.specs.Lines.{row_items}
use Rattle.text.proofs.Puts.{extended-nil, put_both}
use Rattle.text.proofs.WrongRows.{no_rows, first_exists, bit_within, next-rows}
use Rattle.text.proofs.lines.put_rows.Goals as goal

pub loop-rest-init : goal.loop-rest-init
loop-rest-init c = (c.ranges.word.fits, refl)

pub without_row-rest-requires : goal.without_row-rest-requires
without_row-rest-requires c =
    let rest = c.loop-rest.rest in
    let row = c.first_wrong-row.result in
    (first_exists rest row c.loop-rest.invariant.0 c.loop-rest-test.true c.first_wrong-row.ensures, bit_within rest row c.loop-rest.invariant.0 c.loop-rest-test.true c.first_wrong-row.ensures)

pub loop-rest-preserved : goal.loop-rest-preserved
loop-rest-preserved c =
    let draft = c.loop-rest.draft in
    let row = c.first_wrong-row.result in
    let rest = c.loop-rest.rest in
    let left = c.without_row-rest.result in
    let rows = next-rows rest row c.loop-rest.invariant.0 c.loop-rest-test.true c.first_wrong-row.ensures ∙ ap (λ w. item_of row ++ row_items 32 0 (is_set w)) (sym c.without_row-rest.ensures) in (
      omega (arith, c.without_row-rest.ensures),
      put_both draft (item_of row) (row_items 32 0 (is_set left)) c.put_item.ensures refl ∙ ap (extended draft) (sym rows) ∙ c.loop-rest.invariant.1,
    )

pub returns : goal.returns
returns c =
    let none : row_items 32 0 (is_set c.loop-rest.rest) ≡ [] = ap (λ w. row_items 32 0 (is_set w)) c.loop-rest-test.false ∙ no_rows in
    sym (extended-nil c.loop-rest.draft) ∙ ap (extended c.loop-rest.draft) (sym none) ∙ c.loop-rest.invariant.1
