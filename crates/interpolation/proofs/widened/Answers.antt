use lib.ListN.{get_or}
use mathlib.Core.Path.{refl, sym, ◌∙◌}
use native.Mathlib.Omega.{arith}
use Rattle.lists.proofs.Tabulated.{is_tabulate, at_past}
use Rattle.lists.proofs.Filling.{filled_none, filled_more, filled_all}
use Rattle.interpolation.proofs.widened.Goals as goal

pub loop-k-preserved : goal.loop-k-preserved
loop-k-preserved c = filled_more c.loop-k.invariant _ (omega arith) refl

pub returns : goal.returns
returns c =
    let all = filled_all c.loop-k.invariant (λ j l. at_past c.args.a.now j (let s = c.told-a in omega arith)) in
    all ∙ sym (is_tabulate 32 (λ k. get_or c.args.a.now k 0) c.args.a.now c.told-a (λ k l. refl))

pub loop-k-init : goal.loop-k-init
loop-k-init c = filled_none 32 _ _ c.zero-r.ensures
