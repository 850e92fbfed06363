-- A header of 3 bytes breaks no rule; for the longer one the three tests are those of `breaks_rule`.
use borrow.Author.Tests.{eq-eqb, ne_eqb}
use mathlib.Core.Bool.{true, false}
use mathlib.Core.Path.{◌≡◌, refl}
use lib.Dec.{eqb}
use Rattle.header_rules.proofs.breaks_rule.Goals as goal

pub returns-then-h-ne7 : goal.returns-then-h-ne7
returns-then-h-ne7 c =
    let short : eqb c.args.h.length 7 ≡ false = ne_eqb _ _ c.if-h-ne7.true in
    rw short refl

pub returns : goal.returns
returns c =
    let longer : eqb c.args.h.length 7 ≡ true = eq-eqb _ _ c.if-h-ne7.false in
    rw (longer, c.bounds_absent.ensures, c.largest_bound.ensures) refl
