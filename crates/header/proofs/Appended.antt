-- A header is read from its own bytes, whatever stands behind them.
use Prim.Native.Nat.{ℕ, ◌+◌, ◌*◌, ◌≤◌}
use mathlib.Core.Bool.{Bool, true, false, cond}
use mathlib.Core.List.{List, ◌++◌}
use mathlib.Core.Path.{◌≡◌, refl, ap}
use native.Mathlib.Omega.{arith}
use borrow.Author.Tests.{eqb-true}
use lib.Dec.{ltb, eqb}
use lib.ListN.{length}
use Rattle.field.specs.Primes.{prime_of_code}
use Rattle.lists.proofs.Tabulated.{tabulate_cong}
use Rattle.cursor.specs.Bits.{field_of}
use Rattle.cursor.proofs.Fields.{field_append}
use Rattle.header.specs.Header.{outputs_of, df_of, spare_bit_of, header_length_of, numerator_bounds_of, flags_of, bounds_of, header_of}

module _ (h t : List ℕ) (whole : header_length_of h ≤ length h) where
  pub spare_append : spare_bit_of (h ++ t) ≡ spare_bit_of h
  unfolding spare_bit_of
  spare_append = field_append h t 23 1 (omega arith)

  outputs_append : outputs_of (h ++ t) ≡ outputs_of h
  unfolding outputs_of
  outputs_append = ap (λ (x : ℕ). x + 1) (field_append h t 2 2 (omega arith))

  df_append : df_of (h ++ t) ≡ df_of h
  unfolding df_of
  df_append = field_append h t 9 5 (omega arith)

  -- what the longer header alone has
  added_append : (at bits other : ℕ) → at + bits ≤ 56 → cond (eqb (spare_bit_of h) 1) (field_of (h ++ t) at bits) other ≡ cond (eqb (spare_bit_of h) 1) (field_of h at bits) other
  added_append at bits other inside = by (eqb (spare_bit_of h) 1) refl
    where
      by : (longer : Bool) → eqb (spare_bit_of h) 1 ≡ longer → cond longer (field_of (h ++ t) at bits) other ≡ cond longer (field_of h at bits) other
      by true e = field_append h t at bits (omega (arith, eqb-true (spare_bit_of h) 1 e))
      by false e = refl

  numerators-append : numerator_bounds_of (h ++ t) ≡ numerator_bounds_of h
  unfolding numerator_bounds_of
  numerators-append = rw (spare_append, outputs_append, df_append) (tabulate_cong 4 _ _ (λ i l. added_append (24 + 5 * i) 5 (cond (ltb i (outputs_of h)) (df_of h) 0) (omega arith)))

  pub bounds_append : bounds_of (h ++ t) ≡ bounds_of h
  unfolding bounds_of
  bounds_append = λ i. record {
    prime = prime_of_code (field_append h t 0 2 (omega arith) i);
    outputs = outputs_append i;
    rows = field_append h t 4 5 (omega arith) i;
    numerators = numerators-append i;
    dg = field_append h t 14 5 (omega arith) i;
    errors = field_append h t 19 4 (omega arith) i;
  }

  flags_append : flags_of (h ++ t) ≡ flags_of h
  unfolding flags_of
  flags_append = rw spare_append (added_append 44 12 0 (omega arith))

  pub header-append : header_of (h ++ t) ≡ header_of h
  header-append = λ i. record { bounds = bounds_append i; df = df_append i; flags = flags_append i; length = 3 + 4 * spare_append i }
