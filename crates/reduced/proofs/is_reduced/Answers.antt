-- The length of g, its leading coefficient and the length of the greatest common divisor decide.
use mathlib.Core.Path.{◌≡◌, sym, ap, ◌∙◌}
use Prim.Native.Nat.{ℕ, ◌-◌}
use lib.ListN.{get_or}
use borrow.Author.Tests.{eqb-true, eq-eqb}
use Rattle.field.specs.Primes.{modulus_of}
use Rattle.field.proofs.Moduli.{modulus_prime}
use Rattle.lists.proofs.Truth.{refuted}
use Rattle.poly.specs.Vectors.{coefficients_at}
use Rattle.poly.specs.Operations.{length_of}
use Rattle.reduced.specs.CommonDivisor.{common_divisor_of}
use Rattle.reduced.proofs.Decision.{leading_nonzero, leading_top, reduced_constant, constant_reduced}
use Rattle.reduced.proofs.is_reduced.Goals as goal

pub returns-then-lg-eq0 : goal.returns-then-lg-eq0
returns-then-lg-eq0 c = refuted (λ r. leading_nonzero r.monic (sym c.length-lg.ensures.0 ∙ c.if-lg-eq0.true))

pub returns-then-v-lg-ne1 : goal.returns-then-v-lg-ne1
returns-then-v-lg-ne1 c =
    let g = c.args.v.now.g.c in
    refuted (λ r. c.if-v-lg-ne1.true (ap (λ (n : ℕ). get_or g (n - 1) 0) c.length-lg.ensures.0 ∙ leading_top r.monic))

pub returns : goal.returns
returns c =
    let P = modulus_prime c.args.q in
    let f = coefficients_at c.args.v.now.f in
    let g = c.args.v.now.g.c in
    let nonzero : length_of g ≡ 0 → ⊥ = (λ z. c.if-lg-eq0.false (c.length-lg.ensures.0 ∙ z)) in
    let top : get_or g (length_of g - 1) 0 ≡ 1 = cc (c.length-lg.ensures.0) in
    let d = common_divisor_of (modulus_of c.args.q) f g c.args.outputs in
    let e : c.length.result ≡ length_of d = c.length.ensures.0 ∙ ap length_of c.common_divisor-c.ensures in (
      λ t. constant_reduced _ P _ f c.requires.1 c.requires.2 nonzero top (sym e ∙ eqb-true _ _ t),
      λ r. eq-eqb _ _ (e ∙ reduced_constant _ P _ f c.requires.1 c.requires.2 r),
    )
