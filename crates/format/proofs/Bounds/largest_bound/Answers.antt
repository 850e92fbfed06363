use Prim.Native.Nat.{suc, ◌+◌, ◌<◌}
use mathlib.Core.Path.{◌≡◌, refl, ap, ◌∙◌}
use native.Mathlib.Omega.{arith}
use Rattle.std.proofs.lemmas.List.{get_or-take, length-take}
use Rattle.format.specs.Bounds.{largest_bound}
use Rattle.format.proofs.Bounds.largest_bound.Goals as goal

pub loop-bound-init : goal.loop-bound-init
unfolding largest_bound
loop-bound-init c = refl

pub loop-bound-preserved : goal.loop-bound-preserved
unfolding largest_bound
loop-bound-preserved c =
    let i = c.loop-bound.bound-index in
    let below : i < c.args.n = omega (arith, length-take c.args.n c.args.self.numerators) in
    let item = get_or-take c.args.n c.args.self.numerators i 0 below in
    let next : i + 1 ≡ suc i = omega arith in
    rw next cc

pub returns : goal.returns
returns c =
    let all : c.loop-bound.bound-index ≡ c.args.n = omega (arith, length-take c.args.n c.args.self.numerators) in
    c.loop-bound.invariant ∙ ap (largest_bound c.args.self) all
