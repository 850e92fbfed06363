-- Paper 01, "The job sheet", and paper 02, item 5: a header's fields, one after the other, most significant bit first. A bit that is not there
-- reads as 0.
use Rattle.std.specs.Prelude.{ℕ, ◌+◌, ◌*◌, ◌/◌, ◌≤◌, Bool, cond, List, ltb, eqb}
use Rattle.lists.specs.Tabulated.{tabulate}
use Rattle.field.specs.Primes.{prime_of_code}
use Rattle.format.specs.declared.Bounds.{Bounds}
use Rattle.cursor.specs.Bits.{field_of}
use Rattle.header.specs.declared.Header.{Header}

-- "prime code 2, n − 1 in 2, L in 5, df in 5, dg in 5, E in 4, one spare bit": the number of outputs n, df, and the spare bit
unfoldable pub outputs_of : List ℕ → ℕ
outputs_of s = field_of s 2 2 + 1

unfoldable pub df_of : List ℕ → ℕ
df_of s = field_of s 9 5

unfoldable pub spare_bit_of : List ℕ → ℕ
spare_bit_of s = field_of s 23 1

-- "If the spare bit is 1, four more header bytes follow": a header has 3 bytes, or 7
abbrev pub header_length_of : List ℕ → ℕ
header_length_of s = 3 + 4 * spare_bit_of s

-- "four 5-bit bounds for f1 to f4" in the longer header; else df for every output, and 0 for "outputs that don't exist"
unfoldable pub numerator_bounds_of : List ℕ → List ℕ
numerator_bounds_of s = tabulate 4 (λ i. cond (eqb (spare_bit_of s) 1) (field_of s (24 + 5 * i) 5) (cond (ltb i (outputs_of s)) (df_of s) 0))

-- "then 12 flag bits"; a short header sets none
unfoldable pub flags_of : List ℕ → ℕ
flags_of s = cond (eqb (spare_bit_of s) 1) (field_of s 44 12) 0

-- paper 02, item 6: "the first flag bit" of the twelve; with it rows may carry marks
abbrev pub marks_allowed : (flags : ℕ) → Bool
marks_allowed flags = eqb (flags / 2048) 1

-- what the header fixes
unfoldable pub bounds_of : List ℕ → Bounds
bounds_of s =
    record {
      prime = prime_of_code (field_of s 0 2);
      outputs = outputs_of s;
      rows = field_of s 4 5;
      numerators = numerator_bounds_of s;
      dg = field_of s 14 5;
      errors = field_of s 19 4;
    }

-- all that it says
abbrev pub header_of : List ℕ → Header
header_of s = record { bounds = bounds_of s; df = df_of s; flags = flags_of s; length = header_length_of s }

-- "A job has 3 + 2 × L × (1 + n) bytes", with the longer header "7 + 2 × L × (1 + n)"
abbrev pub job_length_of : Header → ℕ
job_length_of h = h.length + 2 * h.bounds.rows * (1 + h.bounds.outputs)

-- the rows that refusal 4 asks for: df + dg + 2 × E + 1
abbrev pub rows_needed_of : Header → ℕ
rows_needed_of h = h.df + h.bounds.dg + 2 * h.bounds.errors + 1

-- what fits the header's fields
pub record FitsFields (b : Bounds) : Type 0 where
  pub outputs_least : 1 ≤ b.outputs
  pub outputs_most : b.outputs ≤ 4
  pub rows_most : b.rows ≤ 31
  pub dg_most : b.dg ≤ 31
  pub errors_most : b.errors ≤ 15

pub record FitsHeader (h : Header) : Type 0 where
  pub bounds : FitsFields h.bounds
  pub df_most : h.df ≤ 31
  pub length_most : h.length ≤ 7
