-- The four primes are prime, and their numbers are small.
use Prim.Native.Nat.{ℕ, zero, suc, ◌%◌, ◌≤◌, ◌<◌}
use mathlib.Core.Path.{◌≡◌, refl}
use native.Mathlib.Nat.{mod-lt}
use native.Mathlib.Omega.{arith}
use lib.Dec.{lit<, lit≤}
use Rattle.field.specs.declared.Prime.{Prime}
use Rattle.field.specs.declared.Prime.TheVariants.{P7, P97, P257, P65521}
use Rattle.field.specs.Primes.{modulus_of, prime_of_code}
use Rattle.field.proofs.Primality.{IsPrime, undivided, prime_by_trial}

pub modulus_prime : (q : Prime) → IsPrime (modulus_of q)
unfolding undivided
modulus_prime P7 = prime_by_trial 7 1 (lit≤ tt) (lit< tt) tt
modulus_prime P97 = prime_by_trial 97 8 (lit≤ tt) (lit< tt) tt
modulus_prime P257 = prime_by_trial 257 15 (lit≤ tt) (lit< tt) tt
modulus_prime P65521 = prime_by_trial 65521 254 (lit≤ tt) (lit< tt) tt

pub modulus_small : (q : Prime) → modulus_of q ≤ 65521
modulus_small P7 = lit≤ tt
modulus_small P97 = lit≤ tt
modulus_small P257 = lit≤ tt
modulus_small P65521 = lit≤ tt

pub modulus_positive : (q : Prime) → 0 < modulus_of q
modulus_positive q = let t = (modulus_prime q).two in omega arith

pub residue_below : (q : Prime) (x : ℕ) → x % modulus_of q < modulus_of q
residue_below q x = mod-lt x (modulus_positive q)

-- what is not coded 0, 1 or 2
pub last_code : (code : ℕ) → (code ≡ 0 → ⊥) → (code ≡ 1 → ⊥) → (code ≡ 2 → ⊥) → P65521 ≡ prime_of_code code
last_code zero a b c = absurd (a refl)
last_code (suc zero) a b c = absurd (b refl)
last_code (suc (suc zero)) a b c = absurd (c refl)
last_code (suc (suc (suc n))) a b c = refl
