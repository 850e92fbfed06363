-- Reciprocals for callers that have numbers alone: primes by code, answers as two numbers.
use Rattle.std.specs.Prelude.{ℕ, cond, leb, Option, Some, None}
use Rattle.field.specs.Primes.{modulus_of, prime_of_code}
use Rattle.reciprocal.specs.declared.ReciprocalReport.{ReciprocalReport}
use Rattle.reciprocal.specs.Reciprocals.{reciprocal_of}

-- the reciprocal of a modulo the prime that the code names; a code above 3 names none, and no number has a reciprocal there
unfoldable pub coded_reciprocal : (code a : ℕ) → Option ℕ
coded_reciprocal code a = cond (leb code 3) (reciprocal_of (modulus_of (prime_of_code code)) a) None

-- the largest number of 32 bits: no residue of any of the four primes, so that it is never a reciprocal
abbrev pub no_reciprocal : ℕ
no_reciprocal = 4294967295

-- whether there is a reciprocal, 1 or 0, and which number it is
abbrev pub reciprocal_report_of : Option ℕ → ReciprocalReport
reciprocal_report_of (Some r) = record { exists = 1; value = r }
reciprocal_report_of None = record { exists = 0; value = no_reciprocal }
