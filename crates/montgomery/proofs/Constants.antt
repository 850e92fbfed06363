-- The constants of the four primes.
use mathlib.Core.Path.{◌≡◌, refl}
use Prim.Native.Nat.{ℕ, ◌*◌, ◌%◌}
use Rattle.field.specs.declared.Prime.{Prime}
use Rattle.field.specs.declared.Prime.TheVariants.{P7, P97, P257, P65521}
use Rattle.field.specs.Primes.{modulus_of}
use Rattle.montgomery.specs.declared.Factor.{Factor}
use Rattle.montgomery.specs.Factors.{inverse_of, montgomery_form, factor_of}

-- the reciprocals of the four primes
pub reciprocal_is : (q : Prime) → modulus_of q * inverse_of q % 65536 ≡ 1
reciprocal_is P7 = refl
reciprocal_is P97 = refl
reciprocal_is P257 = refl
reciprocal_is P65521 = refl

-- a factor by its form, and by the low half of that times the reciprocal v of the prime
pub factor_at : (q : Prime) (e : ℕ) {form v low : ℕ} → form ≡ montgomery_form (modulus_of q) e → v ≡ inverse_of q → low ≡ form * v % 65536
    → ◌≡◌ {A = Factor} (record { form = form; low = low }) (factor_of q e)
factor_at q e ef ev el = rw (el, ef, ev)
