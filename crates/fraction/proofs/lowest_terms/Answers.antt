-- psi is not zero, so neither are the greatest common divisor and psi's quotient by it: the one can be divided by, the other has a leading coefficient with a reciprocal.
use mathlib.Core.Path.{◌≡◌, sym, ap, ◌∙◌}
use Prim.Native.Nat.{◌<◌}
use native.Mathlib.Omega.{arith}
use Rattle.field.specs.Primes.{modulus_of}
use Rattle.field.proofs.Moduli.{modulus_prime}
use Rattle.poly.specs.Coefficients.{Stored}
use Rattle.poly.specs.Operations.{scaled_of, length_of}
use Rattle.poly.proofs.Lists.{bounded_mono}
use Rattle.poly.proofs.Lengths.{bounded_length}
use Rattle.euclid.specs.Division.{quotient_of}
use Rattle.euclid.specs.Euclid.{gcd_of}
use Rattle.euclid.proofs.Leading.{bounded_stored}
use Rattle.fraction.proofs.Denominators.{unit_is, numerator_scaled, denominator-scaled, divisor_nonzero, quotient_nonzero, quotient-leading, denominator_nonzero}
use borrow.Author.Rules.{rules}
use Rattle.fraction.proofs.lowest_terms.Goals as goal
use Rattle.fraction.proofs.lowest_terms.Goals.{Start, After-length-lc, After-divide-h, After-length-lh}

-- what the function began with
stored-phi : (c : Start) → Stored (modulus_of c.args.q) c.args.phi.c
stored-phi c = bounded_stored c.requires.1 (search rules)

stored-psi : (c : Start) → Stored (modulus_of c.args.q) c.args.psi.c
stored-psi c = bounded_stored c.requires.2 (search rules)

psi-nonzero : (c : Start) → length_of c.args.psi.c ≡ 0 → ⊥
psi-nonzero c z = omega (arith, c.requires.3)

-- the divisor is not zero
common-length : (c : After-length-lc) → 0 < c.length-lc.result
common-length c =
    let s = (goal.at.After-length-lc c).Start in
    let nz = divisor_nonzero (modulus_prime c.args.q) (stored-phi s) (stored-psi s) (psi-nonzero s) in
    let e = c.length-lc.ensures.0 ∙ ap length_of c.gcd-c.ensures.0 in
    omega arith

-- psi divided by it, as the code has it ..
quotient_is : (c : After-divide-h) → c.divide-h.result.quotient.c ≡ quotient_of (modulus_of c.args.q) c.args.psi.c (gcd_of (modulus_of c.args.q) c.args.phi.c c.args.psi.c)
quotient_is c = c.divide-h.ensures.0 ∙ ap (quotient_of (modulus_of c.args.q) c.args.psi.c) c.gcd-c.ensures.0

-- .. is not zero
quotient-length : (c : After-length-lh) → 0 < c.length-lh.result
quotient-length c =
    let s = (goal.at.After-length-lh c).Start in
    let nz = quotient_nonzero (modulus_prime c.args.q) (stored-phi s) (stored-psi s) (psi-nonzero s) in
    let e = c.length-lh.ensures.0 ∙ ap length_of (quotient_is (goal.at.After-length-lh c).After-divide-h) in
    omega arith

pub gcd-c-requires : goal.gcd-c-requires
gcd-c-requires c =
    (omega arith, rw c.length-la.ensures.0 (bounded_length c.requires.1), c.length-lb.ensures.0, rw c.length-lb.ensures.0 (bounded_length c.requires.2))

pub divide-a-requires : goal.divide-a-requires
divide-a-requires c = (
  omega arith,
  rw c.length-la.ensures.0 (bounded_length c.requires.1),
  c.length-lc.ensures.0,
  common-length (goal.at.divide-a-requires c).After-length-lc,
  rw c.length-lc.ensures.0 (bounded_length c.gcd-c.ensures.1),
)

pub divide-h-requires : goal.divide-h-requires
divide-h-requires c = (
  omega arith,
  rw c.length-lb.ensures.0 (bounded_length c.requires.2),
  c.length-lc.ensures.0,
  common-length (goal.at.divide-h-requires c).After-length-lc,
  rw c.length-lc.ensures.0 (bounded_length c.gcd-c.ensures.1),
)

pub length-lh-requires : goal.length-lh-requires
length-lh-requires c =
    let positive = common-length (goal.at.length-lh-requires c).After-length-lc in
    (omega arith, λ k l. c.divide-h.ensures.1.within k (omega (arith, positive)))

pub overflow_sub-lh : goal.overflow_sub-lh
overflow_sub-lh c = quotient-length (goal.at.overflow_sub-lh c).After-length-lh

pub nonzero_reciprocal-k-requires : goal.nonzero_reciprocal-k-requires
nonzero_reciprocal-k-requires c =
    let s = (goal.at.nonzero_reciprocal-k-requires c).Start in
    quotient-leading (modulus_prime c.args.q) (stored-phi s) (stored-psi s) (psi-nonzero s) (quotient_is (goal.at.nonzero_reciprocal-k-requires c).After-divide-h) c.length-lh.ensures.0

pub scaled-requires : goal.scaled-requires
scaled-requires c =
    let positive = common-length (goal.at.scaled-requires c).After-length-lc in
    (omega arith, bounded_mono c.divide-a.ensures.1 (omega (arith, positive)))

pub scaled-requires-2 : goal.scaled-requires-2
scaled-requires-2 c =
    let positive = common-length (goal.at.scaled-requires-2 c).After-length-lc in
    (omega arith, bounded_mono c.divide-h.ensures.1 (omega (arith, positive)))

pub returns : goal.returns
returns c =
    let s = (goal.at.returns c).Start in
    let p = modulus_of c.args.q in
    let quotient = quotient_is (goal.at.returns c).After-divide-h in
    let unit = unit_is p c.args.phi.c c.args.psi.c quotient c.length-lh.ensures.0 c.nonzero_reciprocal-k.ensures in
    let top = c.divide-a.ensures.0 ∙ ap (quotient_of p c.args.phi.c) c.gcd-c.ensures.0 in
    let denominator = c.scaled-2.ensures.0 ∙ ap (scaled_of p _) quotient ∙ sym (denominator-scaled p _ _ unit) in (
      c.scaled.ensures.0 ∙ ap (scaled_of p _) top ∙ sym (numerator_scaled p _ _ unit),
      c.scaled.ensures.1,
      denominator,
      c.scaled-2.ensures.1,
      rw denominator (denominator_nonzero (modulus_prime c.args.q) (stored-phi s) (stored-psi s) (psi-nonzero s)),
    )
