-- Laws of reduced vectors.
use lib.ListN.{get_or}
use mathlib.Core.Path.{◌≡◌, sym, ◌∙◌, ap}
use mathlib.Core.List.{List, [], ◌∷◌}
use Prim.Native.Nat.{ℕ, suc, ◌-◌, ◌*◌, ◌%◌, ◌<◌}
use native.Mathlib.Nat.{mod-eq_of_lt}
use native.Mathlib.Decide.{ℕ_discrete}
use native.Mathlib.Omega.{arith}
use Rattle.poly.specs.Operations.{sum_below, product_at}
use Rattle.poly.proofs.Products.{sum_zeros}
use Rattle.problem.specs.Reduced.{Divides, LeadingOne, Reduced}

-- the polynomial 1
pub record IsOne (d : List ℕ) : Type 0 where
  pub constant : get_or d 0 0 ≡ 1
  pub above : (k : ℕ) → 0 < k → get_or d k 0 ≡ 0

-- every polynomial divides itself, and 0
divides_itself : (p : ℕ) (d : List ℕ) → Divides p d d
unfolding product_at sum_below
divides_itself p d = (1 ∷ [], λ k. ap (λ t. t % p) (whole k))
  where
    single : (k i : ℕ) → i < k → get_or d i 0 * get_or (1 ∷ []) (k - i) 0 ≡ 0
    single k i l = let e : k - i ≡ suc (k - suc i) = omega arith in rw e (omega arith)

    whole : (k : ℕ) → product_at d (1 ∷ []) k ≡ get_or d k 0
    whole k =
        let lower = sum_zeros k (λ i. get_or d i 0 * get_or (1 ∷ []) (k - i) 0) (single k) in
        let e : k - k ≡ 0 = omega arith in
        let top : get_or d k 0 * get_or (1 ∷ []) (k - k) 0 ≡ get_or d k 0 = rw e (omega arith) in
        omega arith

divides_zero : (p : ℕ) (d a : List ℕ) → ((k : ℕ) → get_or a k 0 ≡ 0) → Divides p d a
unfolding product_at
divides_zero p d a z =
    ([], λ k. ap (λ t. t % p) (sum_zeros (suc k) (λ i. get_or d i 0 * get_or [] (k - i) 0) (λ i l. omega arith) ∙ sym (z k)))

module _ {p n : ℕ} {f : ℕ → List ℕ} {g : List ℕ} (two : 1 < p) (R : Reduced p n f g) where
  -- The greatest common divisor of g and all the f's is 1: what divides them all, with leading coefficient 1, is 1. The code divides it
  -- out output by output, each time by the recursive gcd of two polynomials.
  pub common_divisor_one : (d : List ℕ) → LeadingOne d → Divides p d g → ((i : ℕ) → i < n → Divides p d (f i)) → IsOne d
  common_divisor_one d m dg df = by (ℕ_discrete m.degree 0)
    where
      by : Dec (m.degree ≡ 0) → IsOne d
      by (yes e) = record { constant = ap (λ k. get_or d k 0) (sym e) ∙ m.leading; above = λ k l. m.above k (omega arith) }
      by (no ne) =
          let z : 1 % p ≡ 0 = ap (λ t. t % p) (sym m.leading) ∙ R.coprime d dg df m.degree (omega arith) in
          let o : 1 % p ≡ 1 = mod-eq_of_lt two in
          absurd (omega arith)

  -- "If all fi are zero, reduced means g = 1"
  pub zero-numerators : ((i : ℕ) → i < n → (k : ℕ) → get_or (f i) k 0 ≡ 0) → IsOne g
  zero-numerators z = common_divisor_one g R.monic (divides_itself p g) (λ i l. divides_zero p g (f i) (z i l))
