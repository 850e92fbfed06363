-- The operations keep their coefficients below p, and are zero where the operands are.
use mathlib.Core.Path.{◌≡◌, ap, ◌∙◌}
use mathlib.Core.List.{List}
use Prim.Native.Nat.{ℕ, zero, suc, ◌+◌, ◌*◌, ◌%◌, ◌≤◌, ◌<◌}
use native.Mathlib.Nat.{mod-lt, zero-mod, mul-le-mul}
use native.Mathlib.Omega.{arith}
use Rattle.field.specs.declared.Prime.{Prime}
use Rattle.field.specs.Primes.{modulus_of}
use Rattle.field.proofs.Moduli.{modulus_small}
use Rattle.poly.specs.Coefficients.{Bounded}
use Rattle.poly.specs.Operations.{combination_at, combination_of, times_linear_at, times_linear_of, scaled_at, scaled_of}
use Rattle.poly.proofs.Lists.{bounded_tabulate}

-- a product of two numbers up to the modulus
pub small_product : (q : Prime) {x y : ℕ} → x ≤ modulus_of q → y ≤ modulus_of q → x * y ≤ 4293001441
small_product q {x} {y} hx hy =
    let top = modulus_small q in
    let h : x * y ≤ 65521 * 65521 = mul-le-mul {n₂ = 65521} {m₂ = 65521} (omega arith) (omega arith) in
    omega arith

pub zero_remainder : (p x : ℕ) → x ≡ 0 → x % p ≡ 0
zero_remainder p x e = ap (λ (t : ℕ). t % p) e ∙ zero-mod p

module _ {p n : ℕ} {a : List ℕ} (ba : Bounded p n a) where
  pub scaled_past : (c k : ℕ) → n ≤ k → scaled_at p c a k ≡ 0
  unfolding scaled_at
  scaled_past c k h = zero_remainder p _ (let e = ba.within k h in rw e (omega arith))

  pub bounded_scaled : (c : ℕ) → 0 < p → Bounded p n (scaled_of p c a)
  unfolding scaled_of scaled_at
  bounded_scaled c h = bounded_tabulate p n 32 (scaled_at p c a) (λ k. mod-lt _ h) (scaled_past c)

  pub times_linear_past : (x k : ℕ) → n + 1 ≤ k → times_linear_at p x a k ≡ 0
  unfolding times_linear_at
  times_linear_past x zero h = absurd (omega arith)
  times_linear_past x (suc k) h =
      zero_remainder p _ (let e = ba.within k (omega arith) in let f = ba.within (suc k) (omega arith) in rw (e, f) (omega arith))

  pub bounded_times_linear : (x : ℕ) → 0 < p → Bounded p (n + 1) (times_linear_of p x a)
  unfolding times_linear_of times_linear_at
  bounded_times_linear x h = bounded_tabulate p (n + 1) 32 (times_linear_at p x a) (λ k. mod-lt _ h) (times_linear_past x)

  module _ {b : List ℕ} (bb : Bounded p n b) where
    pub combination_past : (d0 d1 k : ℕ) → n ≤ k → combination_at p d0 a d1 b k ≡ 0
    unfolding combination_at
    combination_past d0 d1 k h = zero_remainder p _ (let e = ba.within k h in let f = bb.within k h in rw (e, f) (omega arith))

    pub bounded_combination : (d0 d1 : ℕ) → 0 < p → Bounded p n (combination_of p d0 a d1 b)
    unfolding combination_of combination_at
    bounded_combination d0 d1 h = bounded_tabulate p n 32 (combination_at p d0 a d1 b) (λ k. mod-lt _ h) (combination_past d0 d1)
