use borrow.Author.Tests.{tests, lt-leb}
use mathlib.Core.Bool.{Bool}
use mathlib.Core.Path.{◌≡◌, ◌∙◌}
use native.Mathlib.Omega.{arith}
use Prim.Native.Nat.{ℕ, ◌+◌, ◌-◌, ◌*◌}
use lib.Dec.{leb}
use lib.ListN.{take, drop, get_or}
use Rattle.lists.specs.Search.{any_below}
use Rattle.std.specs.List.{list_any}
use Rattle.std.proofs.Common.{rules}
use Rattle.std.proofs.lemmas.Iterator.{YieldsList-from_slice}
use Rattle.std.proofs.lemmas.Iterator.Search.{any_from_yields_List}
use Rattle.lists.proofs.Chains.{list_any-slice}
use Rattle.row_search.proofs.row_out_of_range.Goals as goal

pub returns-else-p-points : goal.returns-else-p-points
returns-else-p-points c =
    let values = c.args.values.now in
    let r : ℕ = c.args.r in
    let outputs : ℕ = c.args.outputs in
    let large : ℕ → Bool = leb c.args.p in
    let found : c.any.result ≡ list_any large (take (r * 4 + outputs - r * 4) (drop (r * 4) values)) =
    any_from_yields_List large _ _ c.any.result c.any.ensures.ran (YieldsList-from_slice _ c.iter.ensures.rest) (λ x b q k. search (rules, tests)) in
    let n : r * 4 + outputs - r * 4 ≡ outputs = omega arith in
    let below : c.any.result ≡ any_below outputs (λ i. large (get_or values (r * 4 + i) 0)) = (rw n at found) ∙ list_any-slice large values 0 (r * 4) outputs (omega arith) in
    rw (lt-leb _ _ c.if-p-points.false) below
