-- What the library tests of the first values is what `all_are` says of them (`all_taken`).
use mathlib.Core.Path.{◌≡◌, ◌∙◌}
use borrow.Author.Rules.{rules}
use borrow.Author.Tests.{tests}
use lib.Dec.{eqb}
use lib.ListN.{length, take}
use Prim.Native.Nat.{◌≤◌}
use Rattle.std.specs.List.{list_all}
use Rattle.std.proofs.lemmas.Iterator.{YieldsList-from_slice}
use Rattle.std.proofs.lemmas.Iterator.Search.{all_from_yields_List}
use Rattle.marked_rows.proofs.Marks.{all_taken}
use Rattle.marked_rows.proofs.all_are.Goals as goal

pub returns : goal.returns
returns c =
    let g = c.args in
    let tested : c.all.result ≡ list_all (λ v. eqb v g.m) (take g.outputs g.values) =
    all_from_yields_List (λ v. eqb v g.m) _ _ c.all.result c.all.ensures.ran (YieldsList-from_slice _ cc) (λ x b q k. search (rules, tests)) in
    let few : g.outputs ≤ length g.values = search rules in
    tested ∙ all_taken g.values g.m g.outputs few
