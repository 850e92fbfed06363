use mathlib.Core.Path.{◌≡◌, sym, ap, ◌∙◌}
use native.Mathlib.Omega.{arith}
use borrow.Author.Rules.{rules}
use lib.ListN.{length}
use Rattle.poly.specs.Operations.{length_below}
use Rattle.poly.proofs.Lengths.{length_of_lem, length_before, length_found, length_none}
use Rattle.poly.proofs.length.Goals as goal

pub loop-i-init : goal.loop-i-init
loop-i-init c =
    let size : length c.args.a.c ≡ 32 = search rules in
    length_of_lem c.args.a.c c.args.n c.requires.1 (omega arith)

pub returns-then-a-i-ne0 : goal.returns-then-a-i-ne0
returns-then-a-i-ne0 c =
    let found = length_found c.args.a.c c.loop-i.i (omega arith) c.if-a-i-ne0.true in
    (omega arith, omega arith)

pub loop-i-preserved : goal.loop-i-preserved
loop-i-preserved c = c.loop-i.invariant ∙ length_before c.args.a.c c.loop-i.i (omega arith) c.if-a-i-ne0.false

pub returns : goal.returns
returns c =
    let zero : c.loop-i.i ≡ 0 = omega arith in
    (sym (c.loop-i.invariant ∙ ap (length_below c.args.a.c) zero ∙ length_none _), omega arith)
