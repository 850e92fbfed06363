-- Bounds on what a header can say, and what it says where its fields are known.
use Prim.Native.Nat.{ℕ, ◌+◌, ◌*◌, ◌≤◌, ◌<◌}
use mathlib.Core.Bool.{Bool, true, false, cond}
use mathlib.Core.List.{List}
use mathlib.Core.Path.{◌≡◌, refl, ap}
use native.Mathlib.Nat.{mul-le-mul}
use native.Mathlib.Omega.{arith}
use Rattle.lists.proofs.Tabulated.{at_tabulate, at_tabulate_past}
use lib.Dec.{ltb, eqb}
use Rattle.field.specs.Primes.{prime_of_code}
use Rattle.format.specs.declared.Bounds.{Bounds}
use Rattle.format.specs.Bounds.{numerator_bound_of, FitsPolynomials}
use Rattle.cursor.specs.Bits.{field_of}
use Rattle.cursor.proofs.Fields.{field_below}
use Rattle.header.specs.Header.{outputs_of, df_of, spare_bit_of, numerator_bounds_of, bounds_of, header_of, FitsFields, FitsHeader}

pub fits_fields : (s : List ℕ) → FitsFields (bounds_of s)
unfolding bounds_of outputs_of
fits_fields s = record {
  outputs_least = omega arith;
  outputs_most = omega (arith, field_below s 2 2);
  rows_most = omega (arith, field_below s 4 5);
  dg_most = omega (arith, field_below s 14 5);
  errors_most = omega (arith, field_below s 19 4);
}

pub fits-header : (s : List ℕ) → FitsHeader (header_of s)
unfolding df_of spare_bit_of
fits-header s = record { bounds = fits_fields s; df_most = omega (arith, field_below s 9 5); length_most = omega (arith, field_below s 23 1) }

-- where the fields before the spare bit are known, so is what the header fixes
module _ (s : List ℕ) (field : ℕ → ℕ → ℕ) (known : (at bits : ℕ) → at + bits ≤ 23 → field_of s at bits ≡ field at bits) where
  pub outputs_by : outputs_of s ≡ field 2 2 + 1
  unfolding outputs_of
  outputs_by = ap (λ n. n + 1) (known 2 2 (omega arith))

  pub df_by : df_of s ≡ field 9 5
  unfolding df_of
  df_by = known 9 5 (omega arith)

  pub bounds_by : {numerators : List ℕ} → numerator_bounds_of s ≡ numerators
      → bounds_of s ≡ record { prime = prime_of_code (field 0 2); outputs = field 2 2 + 1; rows = field 4 5; numerators = numerators; dg = field 14 5; errors = field 19 4 }
  unfolding bounds_of
  bounds_by e = rw (known 0 2 (omega arith), outputs_by, known 4 5 (omega arith), e, known 14 5 (omega arith), known 19 4 (omega arith)) refl

-- the bound of each output, by the spare bit
pub bound_at : (s : List ℕ) (i : ℕ) → i < 4
    → numerator_bound_of (bounds_of s) i ≡ cond (eqb (spare_bit_of s) 1) (field_of s (24 + 5 * i) 5) (cond (ltb i (outputs_of s)) (df_of s) 0)
unfolding bounds_of numerator_bounds_of
bound_at s i l = at_tabulate 4 _ i l

pub bound_past : (s : List ℕ) (i : ℕ) → 4 ≤ i → numerator_bound_of (bounds_of s) i ≡ 0
unfolding bounds_of numerator_bounds_of
bound_past s i l = at_tabulate_past 4 _ i l

pub fits_polynomials : (s : List ℕ) → FitsPolynomials (bounds_of s)
fits_polynomials s = record {
  few = (fits_fields s).outputs_most;
  denominator-low = (fits_fields s).dg_most;
  numerators-low = λ i l. by i (omega (arith, (fits_fields s).outputs_most));
}
  where
    low : (spare exists : Bool) (own df : ℕ) → own ≤ 31 → df ≤ 31 → cond spare own (cond exists df 0) ≤ 31
    low true exists own df a b = a
    low false true own df a b = b
    low false false own df a b = omega arith

    by : (i : ℕ) → i < 4 → numerator_bound_of (bounds_of s) i ≤ 31
    by i l =
        rw (bound_at s i l) (low (eqb (spare_bit_of s) 1) (ltb i (outputs_of s)) _ (df_of s) (omega (arith, field_below s (24 + 5 * i) 5)) (fits-header s).df_most)

-- the bytes of all rows
pub rows_bytes : (b : Bounds) → FitsFields b → 2 * b.rows * (1 + b.outputs) ≤ 310
rows_bytes b h = mul-le-mul {n₂ = 62} {m₂ = 5} (omega arith) (omega arith)
