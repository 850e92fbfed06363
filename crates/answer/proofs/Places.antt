-- Where the coefficients of an output stand.
use Prim.Native.Nat.{ℕ, suc, ◌+◌, ◌-◌, ◌*◌, ◌≤◌, ◌<◌}
use mathlib.Core.Path.{◌≡◌}
use native.Mathlib.Omega.{arith}
use Rattle.format.specs.declared.Bounds.{Bounds}
use Rattle.format.specs.Bounds.{numerator_bound_of, numerator_count}
use Rattle.format.proofs.Sizes.{counts_rise}
use Rattle.answer.specs.Bytes.{numerator_start}
use Rattle.answer.specs.Coefficients.{coefficient_length_of}

pub start_first : (b : Bounds) → numerator_start b 0 ≡ 4 + 2 * (b.dg + 1)
unfolding numerator_count
start_first b = omega arith

pub start-next : (b : Bounds) (i : ℕ) → numerator_start b (suc i) ≡ numerator_start b i + 2 * (numerator_bound_of b i + 1)
unfolding numerator_count
start-next b i = omega arith

pub ends_within : (b : Bounds) (i : ℕ) → i < b.outputs → numerator_start b i - 4 + 2 * (numerator_bound_of b i + 1) ≤ coefficient_length_of b
ends_within b i l = omega (arith, start-next b i, counts_rise b (suc i) b.outputs l)
