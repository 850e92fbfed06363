-- The coefficients up to the degree, and the line feed, are put one behind the other (`put_both`).
use Rattle.std.proofs.Common.{◌≡◌, ◌+◌, sym, ap, ◌∙◌, arith}
use Rattle.text.specs.Drafts.{extended}
use Rattle.text.specs.Decimal.{item_of}
use Rattle.text.specs.Lines.{line_feed, coefficient_from, degree_within, items_below}
use Rattle.text.proofs.Polynomials.{next_item}
use Rattle.text.proofs.Puts.{extended-nil, put_both}
use Rattle.text.proofs.lines.put_polynomial.Goals as goal

pub loop-k-init : goal.loop-k-init
unfolding items_below
loop-k-init c = sym (extended-nil c.args.draft.now)

pub loop-k-preserved : goal.loop-k-preserved
loop-k-preserved c =
    let draft = c.args.draft.now in
    let p = c.args.polynomial.now in
    let coefficient = coefficient_from p.area.now p.start in
    let k = c.loop-k.k in
    put_both draft (items_below coefficient k) (item_of (coefficient k)) c.loop-k.invariant (c.put_item.ensures ∙ ap (λ n. extended c.loop-k.draft (item_of n)) c.coefficient.ensures)
    ∙ ap (extended draft) (sym (next_item coefficient k))

pub returns : goal.returns
returns c =
    let draft = c.args.draft.now in
    let p = c.args.polynomial.now in
    let coefficient = coefficient_from p.area.now p.start in
    let all : c.loop-k.k ≡ degree_within coefficient p.bound + 1 = omega arith in
    put_both draft (items_below coefficient (degree_within coefficient p.bound + 1)) line_feed (c.loop-k.invariant ∙ ap (λ k. extended draft (items_below coefficient k)) all) c.put_byte.ensures
