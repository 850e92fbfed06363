-- Cases on the order of two numbers.
use mathlib.Core.Logic.{◌⊎◌, inl, inr, ⊎_elim}
use Prim.Native.Nat.{ℕ, zero, suc, ◌<◌, ◌≤◌}
use native.Mathlib.Omega.{arith}

pub lt_or_ge : (i k : ℕ) → (i < k) ⊎ (k ≤ i)
lt_or_ge i zero = inr (omega arith)
lt_or_ge zero (suc k) = inl (omega arith)
lt_or_ge (suc i) (suc k) = ⊎_elim (λ l. inl (omega arith)) (λ l. inr (omega arith)) (lt_or_ge i k)
