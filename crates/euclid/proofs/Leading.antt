-- Lists that an array holds, and divisors: the leading coefficient of one that is not zero has a reciprocal.
use mathlib.Core.Path.{◌≡◌, refl, sym, ap, ◌∙◌}
use mathlib.Core.List.{List}
use Prim.Native.Nat.{ℕ, suc, ◌-◌, ◌*◌, ◌%◌, ◌≤◌, ◌<◌}
use native.Mathlib.Nat.{mod-eq_of_lt}
use native.Mathlib.Omega.{arith}
use lib.ListN.{get_or, length}
use Rattle.std.specs.Prelude.{Some}
use Rattle.reciprocal.specs.Reciprocals.{reciprocal_of}
use Rattle.field.specs.declared.Prime.{Prime}
use Rattle.field.specs.Primes.{modulus_of}
use Rattle.field.proofs.Primality.{IsPrime}
use Rattle.field.proofs.Moduli.{modulus_prime}
use Rattle.reciprocal.proofs.Reciprocals.{reciprocal_inverts, nonzero_has_one}
use Rattle.poly.specs.Coefficients.{Bounded, Stored}
use Rattle.poly.specs.Operations.{length_of}
use Rattle.lists.proofs.Tabulated.{at_past}
use Rattle.poly.proofs.Lengths.{length_at_most, length_past, length_top}
use Rattle.euclid.specs.Division.{degree_of, leading_reciprocal}

pub stored_bounded : {p : ℕ} {a : List ℕ} → Stored p a → Bounded p (length_of a) a
stored_bounded {p} {a} s = record { residues = s.below; within = length_past a }

pub length_array : (a : List ℕ) → length a ≡ 32 → length_of a ≤ 32
length_array a e = length_at_most a 32 (λ k l. at_past a k (omega arith))

pub bounded_stored : {p n : ℕ} {a : List ℕ} → Bounded p n a → length a ≡ 32 → Stored p a
bounded_stored b size = record { size = size; below = b.residues }

pub length_stored : {p : ℕ} {a : List ℕ} → Stored p a → length_of a ≤ 32
length_stored {p} {a} s = length_array a s.size

-- a divisor of length lb that is not zero, modulo a prime
pub record Divisor (p : ℕ) (b : List ℕ) (lb : ℕ) : Type 0 where
  pub prime : IsPrime p
  pub is_length : lb ≡ length_of b
  pub positive : 0 < lb
  pub fits : lb ≤ 32
  pub bounded : Bounded p lb b

module _ {p : ℕ} {b : List ℕ} {lb : ℕ} (D : Divisor p b lb) where
  pub degree_is : degree_of b ≡ lb - 1
  unfolding degree_of
  degree_is = ap (λ (t : ℕ). t - 1) (sym D.is_length)

  pub leading_nonzero : get_or b (lb - 1) 0 ≡ 0 → ⊥
  leading_nonzero = length_top b (lb - 1) (sym D.is_length ∙ (let l = D.positive in let e : lb ≡ suc (lb - 1) = omega arith in e))

  pub leading-residue : 0 < get_or b (lb - 1) 0 % p
  leading-residue = let nonzero = leading_nonzero in let e = mod-eq_of_lt (D.bounded.residues (lb - 1)) in omega arith

  pub leading_is : reciprocal_of p (get_or b (lb - 1) 0) ≡ leading_reciprocal p b
  unfolding leading_reciprocal
  leading_is = rw degree_is

  -- so it has a reciprocal
  pub leading_number : (i : ℕ) × (Some i ≡ leading_reciprocal p b)
  leading_number = let i = nonzero_has_one p D.prime (get_or b (lb - 1) 0) leading-residue in (i.0, i.1 ∙ leading_is)

  pub leading_inverts : {i : ℕ} → Some i ≡ leading_reciprocal p b → i * get_or b (lb - 1) 0 % p ≡ 1
  leading_inverts {i} u = reciprocal_inverts p (get_or b (lb - 1) 0) i (u ∙ sym leading_is)

-- one that an array holds, modulo one of the four primes
pub divisor_array : (q : Prime) {b : List ℕ} {lb : ℕ} → length b ≡ 32 → lb ≡ length_of b → 0 < lb → Bounded (modulus_of q) lb b → Divisor (modulus_of q) b lb
divisor_array q {b} size is positive bounded = record { prime = modulus_prime q; is_length = is; positive = positive; fits = (let l = length_array b size in omega arith); bounded = bounded }

pub divisor_of : {p : ℕ} {b : List ℕ} → IsPrime p → Stored p b → (length_of b ≡ 0 → ⊥) → Divisor p b (length_of b)
divisor_of P s nonzero = record { prime = P; is_length = refl; positive = (let nz = nonzero in omega arith); fits = length_stored s; bounded = stored_bounded s }
