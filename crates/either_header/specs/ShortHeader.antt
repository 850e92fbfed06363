-- Paper 01's header by itself, where "one spare bit that is 0" ends it: its "24 bits" as one number, most significant bit first, and what a job with
-- that header says by it.
use Rattle.std.specs.Prelude.{◌≡◌, cond, not, List, ℕ, ◌+◌, ◌*◌, ◌/◌, ◌%◌, ◌^◌, ltb, eqb, length, get_or, Result}
use Rattle.lists.specs.Tabulated.{tabulate}
use Rattle.field.specs.Primes.{prime_of_code}
use Rattle.format.specs.declared.Bounds.{Bounds}
use Rattle.format.specs.declared.Reason.TheVariants.{TooShort, ByteCount, TooFewRows}
use Rattle.format.specs.declared.Refusal.{Refusal}
use Rattle.format.specs.Numbers.{number_from}
use Rattle.lists.specs.Search.{if_holds}
use Rattle.header.specs.Header.{bounds_of}
use Rattle.rows.specs.Rows.{number_at}
use Rattle.job.specs.Refusals.{refuse, outcome_of}
use Rattle.problem.specs.Answers.{wrong_at}
use Rattle.either_header.specs.Unflagged.{plain_row_tests, plain_wrong}

abbrev pub header_number : List ℕ → ℕ
header_number s = get_or s 0 0 * 65536 + get_or s 1 0 * 256 + get_or s 2 0

-- "prime code 2, n − 1 in 2, L in 5, df in 5, dg in 5, E in 4": n and df
abbrev pub short_outputs : List ℕ → ℕ
short_outputs s = header_number s / 2 ^ 20 % 4 + 1

abbrev pub short_df : List ℕ → ℕ
short_df s = header_number s / 2 ^ 10 % 32

-- "df bounds the degree of every fi"
abbrev pub short_bounds : List ℕ → Bounds
short_bounds s =
    record {
      prime = prime_of_code (header_number s / 2 ^ 22 % 4);
      outputs = short_outputs s;
      rows = header_number s / 2 ^ 15 % 32;
      numerators = tabulate 4 (λ i. cond (ltb i (short_outputs s)) (short_df s) 0);
      dg = header_number s / 2 ^ 5 % 32;
      errors = header_number s / 2 % 16;
    }

-- the number in row r and column c, where column 0 is the point
abbrev pub short_number : List ℕ → ℕ → ℕ → ℕ
short_number s r c = number_from s (3 + 2 * (r * (1 + short_outputs s) + c))

-- tests 1 and 3 to 7 of paper 01's table
abbrev pub short_outcome : (s : List ℕ) (b : Bounds) (area : ℕ) → Result (Unit {0}) Refusal
short_outcome s b area =
    refuse TooShort (if_holds (ltb (length s) 3) 0)
    (refuse ByteCount (if_holds (not (eqb (length s) (3 + 2 * b.rows * (1 + b.outputs)))) 0)
    (refuse TooFewRows (if_holds (ltb b.rows (short_df s + b.dg + 2 * b.errors + 1)) 0) (plain_row_tests b (short_number s) area)))

-- a job is read by these alone, as paper 01 has it
pub record ShortHeader (s : List ℕ) : Type 0 where
  pub bounds : bounds_of s ≡ short_bounds s
  pub numbers : (r c : ℕ) → number_at s r c ≡ short_number s r c
  pub tests : (area : ℕ) → outcome_of s area ≡ short_outcome s (short_bounds s) area
  pub wrong : (f : ℕ → List ℕ) (g : List ℕ) (r : ℕ) → wrong_at s f g r ≡ plain_wrong (short_bounds s) (short_number s) f g r
