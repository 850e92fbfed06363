use borrow.Author.Tests.{tests, eqb-true}
use mathlib.Core.Bool.{Bool, true}
use mathlib.Core.Path.{◌≡◌, sym, ◌∙◌}
use native.Mathlib.Omega.{arith}
use Prim.Native.Nat.{ℕ, ◌<◌}
use lib.Dec.{eqb}
use lib.ListN.{get_or, take}
use Rattle.std.specs.List.{list_all}
use Rattle.std.proofs.Common.{rules}
use Rattle.std.proofs.lemmas.Iterator.{YieldsList-from_slice}
use Rattle.std.proofs.lemmas.Iterator.Search.{all_from_yields_List}
use Rattle.std.proofs.lemmas.List.{get_or-take, length-take-le}
use Rattle.std.proofs.lemmas.List.Elements.{All-get_or}
use Rattle.std.proofs.lemmas.List.Sums.{AllPass-from_list_all}
use Rattle.lists.specs.Counting.{count_below}
use Rattle.lists.proofs.Distinct.{once_distinct}
use Rattle.row_search.proofs.single.Goals as goal

pub returns : goal.returns
returns c e =
    let numbers = c.args.numbers.now in
    let rows : ℕ = c.args.rows in
    let once : ℕ → Bool = λ (x : ℕ). eqb (count_below 32 (λ j. eqb (get_or numbers j 0) x)) 1 in
    let each : c.all.result ≡ list_all once (take rows numbers) = all_from_yields_List once _ _ c.all.result c.all.ensures.ran (YieldsList-from_slice (take rows numbers) c.iter.ensures.rest) (λ x b q k. search (rules, tests)) in
    let passed = AllPass-from_list_all once (take rows numbers) (sym each ∙ e) in
    let one : (k : ℕ) → k < rows → count_below 32 (λ j. eqb (get_or numbers j 0) (get_or numbers k 0)) ≡ 1 =
    λ k l. (let x = get_or-take rows numbers k 0 l in
    eqb-true _ _ (rw x at (All-get_or (λ (x : ℕ). once x ≡ true) (take rows numbers) k 0 (omega (arith, length-take-le rows numbers (omega arith))) passed))) in
    once_distinct numbers rows (omega arith) one
