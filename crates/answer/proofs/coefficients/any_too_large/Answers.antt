-- The library tests all numbers of the bytes (`any_listed`); p is the prime, by what `modulus` promises.
use mathlib.Core.Path.{◌≡◌, refl, ap, ◌∙◌}
use Prim.Native.Nat.{◌*◌, ◌/◌}
use borrow.Author.Rules.{rules}
use borrow.Author.Tests.{tests}
use lib.Dec.{leb}
use lib.ListN.{length}
use native.Mathlib.Omega.{arith}
use Rattle.std.specs.List.{list_any, range_with_len}
use Rattle.std.proofs.lemmas.Iterator.{YieldsList-from_range}
use Rattle.std.proofs.lemmas.Iterator.Search.{any_from_yields_List}
use Rattle.format.specs.Numbers.{number_from}
use Rattle.lists.specs.Search.{any_below}
use Rattle.answer.proofs.Searches.{any_listed}
use Rattle.answer.proofs.coefficients.any_too_large.Goals as goal

pub returns : goal.returns
returns c =
    let s = c.args.bytes.now in
    let tested : c.any.result ≡ list_any (λ k. leb c.modulus-p.result (number_from s (2 * k))) (range_with_len 0 (length s / 2)) =
    any_from_yields_List (λ k. leb c.modulus-p.result (number_from s (2 * k))) _ _ c.any.result c.any.ensures.ran (YieldsList-from_range 0 (length s / 2) (length s / 2) refl (omega arith)) (λ x b q k. search (rules, tests)) in
    tested ∙ any_listed _ _ ∙ ap (λ p. any_below (length s / 2) (λ k. leb p (number_from s (2 * k)))) c.modulus-p.ensures
