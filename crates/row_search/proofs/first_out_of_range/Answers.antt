use borrow.Author.Tests.{tests}
use mathlib.Core.Bool.{Bool, true, false, ◌||◌}
use mathlib.Core.Path.{◌≡◌, ◌∙◌}
use Prim.Native.Nat.{ℕ, ◌+◌, ◌*◌}
use lib.Dec.{leb}
use lib.ListN.{get_or}
use Rattle.std.proofs.Common.{rules}
use Rattle.std.proofs.lemmas.Iterator.{first_from_Range}
use Rattle.lists.specs.Search.{first_below, any_below}
use Rattle.lists.proofs.FirstBelow.{first_found}
use Rattle.row_search.proofs.first_out_of_range.Goals as goal

pub returns : goal.returns
returns c =
    let points = c.args.points.now in
    let values = c.args.values.now in
    let too_large : ℕ → Bool = λ (r : ℕ). leb c.args.p (get_or points r 0) || any_below c.args.outputs (λ i. leb c.args.p (get_or values (r * 4 + i) 0)) in
    let first : c.find.result ≡ first_below c.args.rows too_large =
    first_found too_large c.args.rows c.find.result
    (first_from_Range _ _ _ c.find.result (λ r. too_large r ≡ true) (λ r. too_large r ≡ false) c.find.ensures.ran (λ x q k. search (rules, tests)) (λ x q k. search (rules, tests))) in
    let same : c.map.result ≡ c.find.result = search (rules, tests) in
    same ∙ first
