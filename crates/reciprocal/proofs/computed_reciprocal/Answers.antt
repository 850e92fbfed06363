use Prim.Native.Nat.{◌*◌, ◌-◌, ◌/◌, ◌%◌, ◌<◌}
use mathlib.Core.Path.{◌≡◌, sym, ap, subst, ◌∙◌}
use native.Mathlib.Nat.{mod-lt}
use native.Mathlib.Omega.{arith}
use Rattle.field.proofs.Moduli.{modulus_prime}
use Rattle.field.proofs.Primality.{IsPrime}
use Rattle.reciprocal.proofs.Reciprocals.{reciprocal_is, reciprocal-step}
use Rattle.reciprocal.proofs.computed_reciprocal.Goals as goal

pub loop-b-preserved : goal.loop-b-preserved
loop-b-preserved c =
    let p = c.modulus-p.result in
    let e = c.loop-b.invariant.0 in
    let P : IsPrime p = subst IsPrime (sym e) (modulus_prime c.args.q) in
    let falls = mod-lt p {m = c.loop-b.b} (omega arith) in
    let r : c.product-acc.result ≡ c.loop-b.acc * (p - p / c.loop-b.b) % p = c.product-acc.ensures ∙ ap (λ x. c.loop-b.acc * (p - p / c.loop-b.b) % x) (sym e) in (
      e,
      P.free c.loop-b.b (omega arith) (omega arith),
      omega arith,
      subst (λ x. x < p) (sym r) (mod-lt _ (let t = P.two in omega arith)),
      ap (λ x. x * c.args.a % p) r
          ∙ reciprocal-step p c.args.a c.loop-b.acc c.loop-b.b (omega arith) (omega arith) c.loop-b.invariant.4,
    )

pub returns : goal.returns
returns c =
    let e = c.loop-b.invariant.0 in
    let one : c.loop-b.b ≡ 1 = omega arith in
    reciprocal_is _ _ c.loop-b.acc (subst (λ x. c.loop-b.acc < x) e c.loop-b.invariant.3)
    (ap (λ x. c.loop-b.acc * c.args.a % x) (sym e) ∙ c.loop-b.invariant.4 ∙ one)
