-- What paper 02, item 2 names, and the definition on a few numbers.
use Prim.Native.Nat.{ℕ, ◌*◌, ◌<◌}
use mathlib.Core.Bool.{Bool, true, false, cond}
use mathlib.Core.Logic.{◌↔◌}
use mathlib.Core.Path.{◌≡◌, refl, sym, ap}
use native.Mathlib.Nat.{mul-mod_left}
use native.Mathlib.Omega.{arith}
use lib.Dec.{leb}
use borrow.Author.Tests.{lt-leb}
use Rattle.lists.specs.Search.{first_below}
use Rattle.lists.proofs.FirstBelow.{at_not_nothing}
use Rattle.field.specs.declared.Prime.{Prime}
use Rattle.field.specs.Primes.{modulus_of, prime_of_code}
use Rattle.field.proofs.Moduli.{modulus_prime, modulus_small}
use Rattle.std.specs.Prelude.{Option, Some, None}
use Rattle.reciprocal.specs.Reciprocals.{reciprocal_of, table_entry}
use Rattle.reciprocal.specs.Reports.{coded_reciprocal, no_reciprocal, reciprocal_report_of}
use Rattle.reciprocal.proofs.Reciprocals.{none_exactly, reciprocal_below}

-- 0, p, 2 p, .. for all four primes
pub multiples_have_none : (q : Prime) (k : ℕ) → reciprocal_of (modulus_of q) (k * modulus_of q) ≡ None
multiples_have_none q k = (none_exactly (modulus_of q) (modulus_prime q) (k * modulus_of q)).1 (mul-mod_left k (modulus_of q))

-- a code above 3
pub no_prime : (code a : ℕ) → 3 < code → coded_reciprocal code a ≡ None
unfolding coded_reciprocal
no_prime code a above = simp (lt-leb code 3 above)

-- The number beside "none" is above every residue, so a report has it exactly where there is no reciprocal.
pub no_residue : (q : Prime) → modulus_of q < no_reciprocal
no_residue q = omega (arith, modulus_small q)

module _ (code a : ℕ) where
  coded_below : (r : ℕ) → coded_reciprocal code a ≡ Some r → r < no_reciprocal
  unfolding coded_reciprocal
  coded_below r e = by (leb code 3) e
    where
      by : (b : Bool) → cond b (reciprocal_of (modulus_of (prime_of_code code)) a) None ≡ Some r → r < no_reciprocal
      by true found = let q = prime_of_code code in omega (arith, reciprocal_below (modulus_of q) (modulus_prime q) a r (sym found), no_residue q)
      by false none = absurd (at_not_nothing (sym none))

  pub value_tells : ((reciprocal_report_of (coded_reciprocal code a)).value ≡ no_reciprocal) ↔ (coded_reciprocal code a ≡ None)
  value_tells = (by (coded_reciprocal code a) refl, λ none. ap (λ o. (reciprocal_report_of o).value) none)
    where
      by : (o : Option ℕ) → coded_reciprocal code a ≡ o → (reciprocal_report_of o).value ≡ no_reciprocal → o ≡ None
      by (Some r) found is = absurd (omega (arith, coded_below r found, is))
      by None found is = refl

-- entry 0 of the table
pub entry_of_zero : table_entry 0 ≡ 0
unfolding reciprocal_of first_below
entry_of_zero = refl

zero_modulo_7 : reciprocal_of 7 0 ≡ None
unfolding reciprocal_of first_below
zero_modulo_7 = refl

three_modulo_7 : reciprocal_of 7 3 ≡ Some 5
unfolding reciprocal_of first_below
three_modulo_7 = refl

half_modulo_257 : reciprocal_of 257 2 ≡ Some 129
unfolding reciprocal_of first_below
half_modulo_257 = refl
