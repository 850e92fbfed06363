use borrow.Author.Tests.{tests}
use mathlib.Core.Bool.{Bool, not, ◌&&◌}
use mathlib.Core.Path.{◌≡◌, ap, ◌∙◌}
use native.Mathlib.Omega.{arith}
use Prim.Native.Nat.{ℕ, ◌-◌}
use lib.Dec.{leb, eqb}
use lib.ListN.{length, drop, get_or}
use Rattle.std.proofs.Common.{rules}
use Rattle.std.proofs.lemmas.Iterator.{YieldsList-from_slice}
use Rattle.std.proofs.lemmas.Iterator.Search.{any_from_yields_List}
use Rattle.std.proofs.lemmas.List.{take_all, length-drop}
use Rattle.lists.specs.Search.{any_below}
use Rattle.lists.proofs.Chains.{list_any-drop}
use Rattle.header_rules.proofs.bounds_absent.Goals as goal

pub returns : goal.returns
returns c =
    let b = c.args.b in
    let bounded : ℕ → Bool = λ (bound : ℕ). not (eqb bound 0) in
    let four : length b.numerators ≡ 4 = omega arith in
    let rest = take_all (length b.numerators - b.outputs) (drop b.outputs b.numerators) (omega (arith, length-drop b.outputs b.numerators)) in
    any_from_yields_List bounded _ _ c.any.result c.any.ensures.ran (YieldsList-from_slice (drop b.outputs b.numerators) (c.iter.ensures.rest ∙ rest)) (λ x r q k. search (rules, tests))
    ∙ list_any-drop bounded b.numerators 0 b.outputs (omega arith)
    ∙ ap (λ n. any_below n (λ i. leb b.outputs i && bounded (get_or b.numerators i 0))) four
