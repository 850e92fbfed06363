-- Primes, and primality by trial division up to the root.
use Prim.Native.Nat.{ℕ, zero, suc, ◌+◌, ◌*◌, ◌/◌, ◌%◌, ◌≤◌, ◌<◌}
use mathlib.Core.Path.{◌≡◌, refl, sym, ap, ◌∙◌}
use mathlib.Core.Bool.{Bool, true, false}
use native.Mathlib.Nat.{div-add-mod', mul-le-mul_left, mul-le-mul_right, mul-mod_left, mul-mod_right}
use native.Mathlib.Decide.{dec_le, ℕ_discrete}
use native.Mathlib.Omega.{arith}
use lib.Dec.{T, ltb, ltb→lt}

-- at least 2, and no number between 1 and p divides it
pub record IsPrime (p : ℕ) : Type 0 where
  pub two : 2 ≤ p
  pub free : (d : ℕ) → 1 < d → d < p → 0 < p % d

-- no d from 2 to n + 1 divides p
unfoldable pub undivided : ℕ → ℕ → Bool
undivided p zero = true
undivided p (suc n) = elim (ltb 0 (p % suc (suc n))) [ true ↦ undivided p n | false ↦ false ]

undivided_by : (p n : ℕ) → T (undivided p n) → (d : ℕ) → 1 < d → d ≤ suc n → 0 < p % d
unfolding undivided
undivided_by p zero t d l u = absurd (omega arith)
undivided_by p (suc n) t d l u = go (ltb 0 (p % suc (suc n))) refl (ℕ_discrete d (suc (suc n))) t (undivided_by p n)
  where
    go : (b : Bool) → ltb 0 (p % suc (suc n)) ≡ b → Dec (d ≡ suc (suc n))
        → T (elim b as (λ _. Bool) [ true ↦ undivided p n | false ↦ false ])
        → (T (undivided p n) → (d : ℕ) → 1 < d → d ≤ suc n → 0 < p % d) → 0 < p % d
    go true e (yes same) t lower = rw same (ltb→lt _ _ (rw e tt))
    go true e (no other) t lower = lower t d l (omega arith)
    go false e c t lower = absurd t

-- trial division up to the root is enough: a divisor above the root has a cofactor below it
pub prime_by_trial : (p n : ℕ) → 2 ≤ p → p < (n + 2) * (n + 2) → T (undivided p n) → IsPrime p
prime_by_trial p n two root t = record { two = two; free = λ d l u. positive d l u (p % d) refl }
  where
    -- c d = p with c and d above the root
    too_large : (c d : ℕ) → suc n < c → suc n < d → c * d ≡ p → ⊥
    too_large c d lc ld e =
        let left : (n + 2) * (n + 2) ≤ c * (n + 2) = mul-le-mul_right _ (omega arith) in
        let right : c * (n + 2) ≤ c * d = mul-le-mul_left _ (omega arith) in
        omega arith

    no_divisor : (d : ℕ) → 1 < d → d ≤ suc n → (c : ℕ) → c * d ≡ p → ⊥
    no_divisor d l u c e =
        let z : p % d ≡ 0 = ap (λ x. x % d) (sym e) ∙ mul-mod_left c d in
        let s = undivided_by p n t d l u in
        omega arith

    no_cofactor : (c d : ℕ) → 1 < c → c ≤ suc n → c * d ≡ p → ⊥
    no_cofactor c d l u e =
        let z : p % c ≡ 0 = ap (λ x. x % c) (sym e) ∙ mul-mod_right c d in
        let s = undivided_by p n t c l u in
        omega arith

    no_factors : (c d : ℕ) → 1 < d → d < p → c * d ≡ p → Dec (d ≤ suc n) → Dec (c ≤ suc n) → ⊥
    no_factors c d l u e (yes small) k = no_divisor d l small c e
    no_factors zero d l u e (no large) k = omega arith
    no_factors (suc zero) d l u e (no large) k = omega arith
    no_factors (suc (suc c)) d l u e (no large) (yes small) = no_cofactor (suc (suc c)) d (omega arith) small e
    no_factors (suc (suc c)) d l u e (no large) (no large') = too_large (suc (suc c)) d (omega arith) (omega arith) e

    positive : (d : ℕ) → 1 < d → d < p → (r : ℕ) → p % d ≡ r → 0 < r
    positive d l u (suc r) e = omega arith
    positive d l u zero e =
        let whole : p / d * d ≡ p = (let f = div-add-mod' p d in omega arith) in
        absurd (no_factors (p / d) d l u whole (dec_le d (suc n)) (dec_le (p / d) (suc n)))
