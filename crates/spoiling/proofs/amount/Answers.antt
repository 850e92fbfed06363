-- p is at least 2, so that p - 1 is no zero divisor; the sum fits since the top bits are below 2^16.
use Rattle.std.proofs.Common.{◌<◌, arith, lit<}
use Rattle.field.proofs.Moduli.{modulus_prime}
use Rattle.spoiling.proofs.Added.{amount-fits}
use Rattle.spoiling.proofs.amount.Goals as goal

pub overflow_sub-result : goal.overflow_sub-result
overflow_sub-result c = omega (arith, (modulus_prime c.args.q).two)

pub nonzero_rem-result : goal.nonzero_rem-result
nonzero_rem-result c = omega (arith, (modulus_prime c.args.q).two)

pub overflow_add-result : goal.overflow_add-result
overflow_add-result c =
    let high : c.top_bits.result < 65536 = omega arith in
    record { fits = amount-fits _ _ _ high (lit< tt) }
