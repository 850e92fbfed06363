use borrow.Author.Tests.{tests}
use mathlib.Core.Path.{◌∙◌}
use native.Mathlib.Omega.{arith}
use Prim.Native.Nat.{ℕ}
use lib.Dec.{eqb}
use lib.ListN.{get_or, take}
use Rattle.std.proofs.Common.{rules}
use Rattle.std.proofs.lemmas.Iterator.{YieldsList-from_slice}
use Rattle.std.proofs.lemmas.Iterator.Search.{any_from_yields_List}
use Rattle.lists.proofs.Chains.{list_any-take}
use Rattle.row_search.proofs.stands_earlier.Goals as goal

pub returns : goal.returns
returns c =
    let points = c.args.points.now in
    let r : ℕ = c.args.r in
    any_from_yields_List (λ (y : ℕ). eqb y (get_or points r 0)) _ _ c.any.result c.any.ensures.ran (YieldsList-from_slice (take r points) c.iter.ensures.rest) (λ x b q k. search (rules, tests))
    ∙ list_any-take (λ y. eqb y (get_or points r 0)) points 0 r (omega arith)
