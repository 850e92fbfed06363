-- Euclid's rule on coefficient lists: 32 divisions are enough, since the second length falls.
use mathlib.Core.Path.{◌≡◌, refl, sym, ◌∙◌}
use mathlib.Core.List.{List}
use Prim.Native.Nat.{ℕ, zero, suc, ◌-◌, ◌≤◌, ◌<◌}
use native.Mathlib.Decide.{ℕ_discrete}
use native.Mathlib.Omega.{arith}
use borrow.Author.Tests.{eq-eqb, ne_eqb}
use Rattle.field.proofs.Primality.{IsPrime}
use Rattle.poly.specs.Coefficients.{Bounded, Stored}
use Rattle.poly.specs.Operations.{length_of}
use Rattle.poly.proofs.Lengths.{length_at_most}
use Rattle.euclid.specs.Division.{remainder_of, quotient_of}
use Rattle.euclid.specs.Euclid.{gcd_from, gcd_of}
use Rattle.euclid.proofs.Leading.{stored_bounded, bounded_stored, length_stored, divisor_of}
use Rattle.euclid.proofs.Steps.{bounded_remainder, bounded_quotient, length_remainder, length-quotient}

from_stop : (p n : ℕ) (a b : List ℕ) → length_of b ≡ 0 → gcd_from p n a b ≡ a
unfolding gcd_from
from_stop p zero a b e = refl
from_stop p (suc n) a b e = simp (eq-eqb _ _ e)

from_more : (p n : ℕ) (a b : List ℕ) → (length_of b ≡ 0 → ⊥) → gcd_from p (suc n) a b ≡ gcd_from p n b (remainder_of p a b)
unfolding gcd_from
from_more p n a b h = simp (ne_eqb _ _ h)

-- the first line of Euclid's rule
pub gcd_stop : (p : ℕ) (a b : List ℕ) → length_of b ≡ 0 → gcd_of p a b ≡ a
unfolding gcd_of
gcd_stop p a b = from_stop p 32 a b

module _ {p : ℕ} (P : IsPrime p) where
  module _ {a b : List ℕ} (sa : Stored p a) (sb : Stored p b) (nonzero : length_of b ≡ 0 → ⊥) where
    remainder_bounded : Bounded p (length_of b - 1) (remainder_of p a b)
    remainder_bounded = bounded_remainder (divisor_of P sb nonzero) (length_stored sa) (stored_bounded sa) sa.size

    pub stored_remainder : Stored p (remainder_of p a b)
    stored_remainder = bounded_stored remainder_bounded (length_remainder (divisor_of P sb nonzero) (length_stored sa) (stored_bounded sa) sa.size)

    pub stored_quotient : Stored p (quotient_of p a b)
    stored_quotient =
        let D = divisor_of P sb nonzero in
        bounded_stored (bounded_quotient D (length_stored sa) (stored_bounded sa) sa.size)
        (length-quotient D (length_stored sa) (stored_bounded sa) sa.size)

    -- the second length falls
    pub remainder_shorter : length_of (remainder_of p a b) < length_of b
    remainder_shorter =
        let l = length_at_most (remainder_of p a b) (length_of b - 1) remainder_bounded.within in
        let nz = nonzero in
        omega arith

  -- a count of divisions that is as large as the second length is large enough
  from_enough : (n : ℕ) (a b : List ℕ) → Stored p a → Stored p b → length_of b ≤ n → gcd_from p (suc n) a b ≡ gcd_from p n a b
  from_enough zero a b sa sb l =
      let z : length_of b ≡ 0 = omega arith in
      from_stop p 1 a b z ∙ sym (from_stop p 0 a b z)
  from_enough (suc n) a b sa sb l = go (ℕ_discrete (length_of b) 0) (from_enough n)
    where
      go : Dec (length_of b ≡ 0) → ((a b : List ℕ) → Stored p a → Stored p b → length_of b ≤ n → gcd_from p (suc n) a b ≡ gcd_from p n a b)
          → gcd_from p (suc (suc n)) a b ≡ gcd_from p (suc n) a b
      go (yes z) lower = from_stop p (suc (suc n)) a b z ∙ sym (from_stop p (suc n) a b z)
      go (no nz) lower =
          let falls = remainder_shorter sa sb nz in
          from_more p (suc n) a b nz ∙ lower b (remainder_of p a b) sb (stored_remainder sa sb nz) (omega arith) ∙ sym (from_more p n a b nz)

  -- its second line
  pub gcd_more : {a b : List ℕ} → Stored p a → Stored p b → (length_of b ≡ 0 → ⊥) → gcd_of p a b ≡ gcd_of p b (remainder_of p a b)
  unfolding gcd_of
  gcd_more {a} {b} sa sb nz =
      let falls = remainder_shorter sa sb nz in
      let l = length_stored sb in
      from_more p 31 a b nz ∙ sym (from_enough 31 b (remainder_of p a b) sb (stored_remainder sa sb nz) (omega arith))

  -- what holds where the rule stops, and of a and b if of b and the remainder, holds always
  pub euclid_induction : (Q : List ℕ → List ℕ → Type 0)
      → ((a b : List ℕ) → Stored p a → Stored p b → length_of b ≡ 0 → Q a b)
      → ((a b : List ℕ) → Stored p a → Stored p b → (length_of b ≡ 0 → ⊥) → Q b (remainder_of p a b) → Q a b)
      → (a b : List ℕ) → Stored p a → Stored p b → Q a b
  euclid_induction Q stop more a b sa sb = upto (length_of b) a b sa sb (omega arith)
    where
      upto : (n : ℕ) (a b : List ℕ) → Stored p a → Stored p b → length_of b ≤ n → Q a b
      upto zero a b sa sb l = stop a b sa sb (omega arith)
      upto (suc n) a b sa sb l = by_length (ℕ_discrete (length_of b) 0) (upto n)
        where
          by_length : Dec (length_of b ≡ 0) → ((a b : List ℕ) → Stored p a → Stored p b → length_of b ≤ n → Q a b) → Q a b
          by_length (yes z) lower = stop a b sa sb z
          by_length (no nz) lower =
              let falls = remainder_shorter sa sb nz in
              more a b sa sb nz (lower b (remainder_of p a b) sb (stored_remainder sa sb nz) (omega arith))

  pub gcd_stored : {a b : List ℕ} → Stored p a → Stored p b → Stored p (gcd_of p a b)
  gcd_stored {a} {b} sa sb =
      euclid_induction (λ a b. Stored p (gcd_of p a b))
      (λ a b sa sb z. rw (gcd_stop p a b z) sa)
      (λ a b sa sb nz h. rw (gcd_more sa sb nz) h) a b sa sb

  -- only two zero polynomials have the divisor zero
  pub gcd-zero : {a b : List ℕ} → Stored p a → Stored p b → length_of (gcd_of p a b) ≡ 0 → (length_of a ≡ 0) × (length_of b ≡ 0)
  gcd-zero {a} {b} sa sb =
      euclid_induction (λ a b. length_of (gcd_of p a b) ≡ 0 → (length_of a ≡ 0) × (length_of b ≡ 0))
      (λ a b sa sb z e. (rw (gcd_stop p a b z) at e, z))
      (λ a b sa sb nz h e. absurd (nz (h (rw (gcd_more sa sb nz) at e)).0)) a b sa sb
