-- The constants and factors of Montgomery's reduction with 2^16.
use Rattle.std.specs.Prelude.{ℕ, ◌*◌, ◌%◌}
use Rattle.field.specs.declared.Prime.{Prime}
use Rattle.field.specs.declared.Prime.TheVariants.{P7, P97, P257, P65521}
use Rattle.field.specs.Primes.{modulus_of}
use Rattle.montgomery.specs.declared.Factor.{Factor}

-- the reciprocals of the four primes modulo 2^16
abbrev pub inverse_of : Prime → ℕ
inverse_of P7 = 28087
inverse_of P97 = 41889
inverse_of P257 = 65281
inverse_of P65521 = 4369

-- Montgomery's form of e
abbrev pub montgomery_form : (p e : ℕ) → ℕ
montgomery_form p e = e * 65536 % p

-- the number e as a factor
abbrev pub factor_of : Prime → ℕ → Factor
factor_of q e = record { form = montgomery_form (modulus_of q) e; low = montgomery_form (modulus_of q) e * inverse_of q % 65536 }
