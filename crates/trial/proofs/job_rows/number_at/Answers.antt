-- By the column: the point, the first value with what is added to it, another value. The sum fits since both are below p.
use Prim.Native.Nat.{◌+◌, ◌-◌, ◌%◌}
use mathlib.Core.Path.{ap₂}
use native.Mathlib.Omega.{arith}
use lib.ListN.{get_or}
use Rattle.field.specs.Primes.{modulus_of}
use Rattle.field.proofs.Moduli.{modulus_prime, modulus_positive, modulus_small}
use Rattle.poly.specs.Vectors.{coefficients_at}
use Rattle.poly.proofs.Values.{value_below}
use Rattle.trial.proofs.Values.{value_before_below}
use Rattle.trial.proofs.Numbers.{value-computed, number_point, number_first, number_other}
use Rattle.trial.proofs.job_rows.number_at.Goals as goal

pub returns-then-column-eq0 : goal.returns-then-column-eq0
returns-then-column-eq0 c = number_point _ _ _ _ _ _ c.if-column-eq0.true

pub quotient-y-requires : goal.quotient-y-requires
quotient-y-requires c =
    let q = c.args.q in
    let positive = modulus_positive q in
    (rw c.value_at.ensures (value_below (modulus_of q) _ _ positive), rw c.value_at-2.ensures (value_below (modulus_of q) _ _ positive))

pub overflow_add-result : goal.overflow_add-result
overflow_add-result c =
    let g = c.args in
    let before = value_before_below (modulus_prime g.q) (coefficients_at g.v.now.f) g.v.now.g.c g.r (g.column - 1) in
    let value = value-computed (modulus_of g.q) (coefficients_at g.v.now.f) g.v.now.g.c g.r (g.column - 1) c.value_at.ensures c.value_at-2.ensures c.quotient-y.ensures in
    omega (arith, c.requires.4, modulus_small g.q)

pub returns-then-column-eq1 : goal.returns-then-column-eq1
returns-then-column-eq1 c =
    let g = c.args in
    let value = value-computed (modulus_of g.q) (coefficients_at g.v.now.f) g.v.now.g.c g.r (g.column - 1) c.value_at.ensures c.value_at-2.ensures c.quotient-y.ensures in
    number_first _ _ _ _ _ g.column c.if-column-eq1.true (ap₂ (λ y p. (y + get_or g.by.now g.r 0) % p) value c.modulus.ensures)

pub returns : goal.returns
returns c =
    let g = c.args in
    let value = value-computed (modulus_of g.q) (coefficients_at g.v.now.f) g.v.now.g.c g.r (g.column - 1) c.value_at.ensures c.value_at-2.ensures c.quotient-y.ensures in
    number_other _ _ _ _ _ g.column c.if-column-eq0.false c.if-column-eq1.false value
