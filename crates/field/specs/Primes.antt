-- Paper 01, "Primes by code": 0 is 7, 1 is 97, 2 is 257, 3 is 65521.
use Rattle.std.specs.Prelude.{ℕ, zero, suc, List, ◌++◌, codes, Result, Ok, Err, if◌then◌else◌, nat_le}
use Rattle.std.specs.Fmt.{decimal}
use Rattle.field.specs.declared.Prime.{Prime}
use Rattle.field.specs.declared.UnknownPrime.{UnknownPrime}
use Rattle.field.specs.declared.Prime.TheVariants.{P7, P97, P257, P65521}

-- the prime as a number
abbrev pub modulus_of : Prime → ℕ
modulus_of P7 = 7
modulus_of P97 = 97
modulus_of P257 = 257
modulus_of P65521 = 65521

-- a code has two bits, so 3 is the last one; larger numbers are read as 3
abbrev pub prime_of_code : ℕ → Prime
prime_of_code zero = P7
prime_of_code (suc zero) = P97
prime_of_code (suc (suc zero)) = P257
prime_of_code (suc (suc (suc n))) = P65521

-- the prime that any number names as a code: one above 3 names none
abbrev pub prime_named : ℕ → Result Prime UnknownPrime
prime_named code = if nat_le code 3 then Ok (prime_of_code code) else Err (record { 0 = code })

-- the words for a code that names no prime
abbrev pub message_of : UnknownPrime → List ℕ
message_of e = codes "no prime has code " ++ decimal e.0
