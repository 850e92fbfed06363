-- High halves of multiples of a 16-bit number.
use Prim.Native.Nat.{ℕ, ◌*◌, ◌/◌, ◌%◌, ◌≤◌, ◌<◌}
use native.Mathlib.Nat.{mul-le-mul}
use native.Mathlib.Omega.{arith}

-- the high half of a multiple of p by fewer than 2^16
pub high_below : (m p : ℕ) → 0 < p → m % 65536 * p / 65536 < p
high_below m p h =
    let l : m % 65536 * p ≤ 65535 * p = mul-le-mul {n₂ = 65535} {m₂ = p} (omega arith) (omega arith) in
    omega arith
