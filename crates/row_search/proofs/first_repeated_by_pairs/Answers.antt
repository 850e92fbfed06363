use borrow.Author.Tests.{tests}
use mathlib.Core.Bool.{Bool, true, false}
use mathlib.Core.Path.{◌≡◌, ◌∙◌}
use Prim.Native.Nat.{ℕ}
use lib.Dec.{eqb}
use lib.ListN.{get_or}
use Rattle.std.proofs.Common.{rules}
use Rattle.std.proofs.lemmas.Iterator.{first_from_Range}
use Rattle.lists.specs.Search.{first_below, any_below}
use Rattle.lists.proofs.FirstBelow.{first_found}
use Rattle.row_search.proofs.first_repeated_by_pairs.Goals as goal

pub returns : goal.returns
returns c =
    let points = c.args.points.now in
    let repeated : ℕ → Bool = λ (r : ℕ). any_below r (λ q. eqb (get_or points q 0) (get_or points r 0)) in
    let first : c.find.result ≡ first_below c.args.rows repeated =
    first_found repeated c.args.rows c.find.result
    (first_from_Range _ _ _ c.find.result (λ r. repeated r ≡ true) (λ r. repeated r ≡ false) c.find.ensures.ran (λ x q k. search (rules, tests)) (λ x q k. search (rules, tests))) in
    let same : c.map.result ≡ c.find.result = search (rules, tests) in
    same ∙ first
