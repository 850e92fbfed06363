-- Ways to break the longer header, jobs with marks, and paper 01's refusal table but for its last row, H11 and H12, by the definitions. The job of 2 meets 1 since paper 02,
-- item 5.
use mathlib.Core.List.{List, [], ◌∷◌, ◌++◌, map}
use mathlib.Core.Path.{◌≡◌, refl}
use Prim.Native.Nat.{ℕ, ◌+◌, ◌*◌}
use Rattle.std.specs.Prelude.{Result, Ok}
use Rattle.format.specs.declared.Refusal.{Refusal}
use Rattle.format.specs.declared.Reason.TheVariants.{TooShort, AddedHeader, ByteCount, TooFewRows, OutOfRange, TooFewSpeaking, RepeatedPoint, AreaTooShort}
use Rattle.lists.specs.Tabulated.{tabulate}
use Rattle.format.specs.Bounds.{largest_bound, numerator_count}
use Rattle.cursor.specs.Bits.{field_of}
use Rattle.header.specs.Header.{outputs_of, df_of, spare_bit_of, numerator_bounds_of, flags_of, bounds_of}
use Rattle.lists.specs.Search.{first_below}
use Rattle.rows.specs.Rows.{number_at}
use Rattle.lists.specs.Counting.{count_below}
use Rattle.marked_rows.specs.Marks.{mark_of, speaking_count}
use Rattle.job.specs.Refusals.{outcome_of_rows, outcome_of}
use Rattle.format.specs.Outcomes.{refused}

pub record Example : Type 0 where
  pub job : List ℕ
  pub area : ℕ
  pub outcome : Result (Unit {0}) Refusal

-- H1's job
h1 : List ℕ
h1 = 0x01 ∷ 0x80 ∷ 0x02 ∷ 0x00 ∷ 0x00 ∷ 0x00 ∷ 0x05 ∷ 0x00 ∷ 0x01 ∷ 0x00 ∷ 0x05 ∷ 0x00 ∷ 0x02 ∷ 0x00 ∷ 0x02 ∷ []

-- H1's header with the spare bit 1, another df, and four bytes behind it
longer : (df a b c d : ℕ) → List ℕ
longer df a b c d = 0x01 ∷ (0x80 + 4 * df) ∷ 0x03 ∷ a ∷ b ∷ c ∷ d ∷ []

broken : List ℕ → Example
broken job = record { job = job; area = 8; outcome = refused AddedHeader 0 }

-- the second and the last flag, bounds of f2 and f4, df above and below the largest; the rows are not there, which would be 3
-- a point and a value below 256, a point and a number that is a mark
row : (x y : ℕ) → List ℕ
row x y = 0x00 ∷ x ∷ 0x00 ∷ y ∷ []

pole : ℕ → List ℕ
pole x = 0x00 ∷ x ∷ 0xFF ∷ 0xFF ∷ []

silent : ℕ → List ℕ
silent x = 0x00 ∷ x ∷ 0xFF ∷ 0xFE ∷ []

-- H1's header with the first flag or none, and a header with it for two outputs and one row, where dg and E are 0
flagged : List ℕ → List ℕ
flagged rows = longer 0 0x00 0x00 0x08 0x00 ++ rows

two_outputs : (a b : ℕ) → List ℕ
two_outputs a b = 0x10 ∷ 0x80 ∷ 0x01 ∷ 0x00 ∷ 0x00 ∷ 0x08 ∷ 0x00 ∷ 0x00 ∷ 0x03 ∷ 0xFF ∷ a ∷ 0xFF ∷ b ∷ []

pub examples : List Example
examples =
    broken (longer 0 0x00 0x00 0x04 0x00)
    ∷ broken (longer 0 0x00 0x00 0x00 0x01)
    ∷ broken (longer 0 0x00 0x40 0x00 0x00)
    ∷ broken (longer 0 0x00 0x00 0x10 0x00)
    ∷ broken (longer 1 0x00 0x00 0x00 0x00)
    ∷ broken (longer 0 0x08 0x00 0x00 0x00)
    ∷ record { job = longer 0 0x00 0x00 0x00 0x00; area = 8; outcome = refused ByteCount 0 }
    ∷ record { job = 0x01 ∷ 0x80 ∷ 0x03 ∷ 0xFF ∷ 0xFF ∷ 0xFF ∷ []; area = 8; outcome = refused TooShort 0 }
    ∷ record { job = 0x01 ∷ 0x80 ∷ []; area = 8; outcome = refused TooShort 0 }
    ∷ record { job = 0x01 ∷ 0x80 ∷ 0x03 ∷ []; area = 8; outcome = refused TooShort 0 }
    ∷ record { job = 0x01 ∷ 0x80 ∷ 0x02 ∷ 0x00 ∷ 0x00 ∷ []; area = 8; outcome = refused ByteCount 0 }
    ∷ record { job = 0x01 ∷ 0x00 ∷ 0x02 ∷ 0x00 ∷ 0x00 ∷ 0x00 ∷ 0x05 ∷ 0x00 ∷ 0x01 ∷ 0x00 ∷ 0x05 ∷ []; area = 8; outcome = refused TooFewRows 0 }
    ∷ record {
      job = 0x01 ∷ 0x80 ∷ 0x02 ∷ 0x00 ∷ 0x00 ∷ 0x00 ∷ 0x05 ∷ 0x00 ∷ 0x01 ∷ 0x00 ∷ 0x05 ∷ 0x00 ∷ 0x02 ∷ 0x00 ∷ 0x07 ∷ [];
      area = 8;
      outcome = refused OutOfRange 2;
    }
    ∷ record {
      job = 0x01 ∷ 0x80 ∷ 0x02 ∷ 0x00 ∷ 0x00 ∷ 0x00 ∷ 0x05 ∷ 0x00 ∷ 0x01 ∷ 0x00 ∷ 0x05 ∷ 0x00 ∷ 0x00 ∷ 0x00 ∷ 0x02 ∷ [];
      area = 8;
      outcome = refused RepeatedPoint 2;
    }
    ∷ record { job = 0xC0 ∷ 0x80 ∷ 0x00 ∷ 0x00 ∷ 0x00 ∷ 0xFF ∷ 0xF1 ∷ []; area = 8; outcome = refused OutOfRange 0 }
    ∷ record { job = h1; area = 7; outcome = refused AreaTooShort 0 }
    ∷ record { job = h1; area = 8; outcome = Ok tt }
    ∷ record { job = flagged (row 0 5 ++ pole 1 ++ row 2 5); area = 8; outcome = Ok tt }
    ∷ record { job = longer 0 0x00 0x00 0x00 0x00 ++ row 0 5 ++ pole 1 ++ row 2 5; area = 8; outcome = refused OutOfRange 1 }
    ∷ record { job = flagged (row 0 5 ++ row 1 5 ++ silent 2); area = 8; outcome = refused TooFewSpeaking 0 }
    ∷ record { job = flagged (row 0 5 ++ row 0 5 ++ silent 2); area = 8; outcome = refused TooFewSpeaking 0 }
    ∷ record { job = flagged (row 0 5 ++ row 1 7 ++ silent 2); area = 8; outcome = refused OutOfRange 1 }
    ∷ record { job = flagged (row 0 5 ++ pole 7 ++ row 2 5); area = 8; outcome = refused OutOfRange 1 }
    ∷ record { job = flagged (row 0 5 ++ row 1 5 ++ pole 1); area = 8; outcome = refused RepeatedPoint 2 }
    ∷ record { job = two_outputs 0xFF 0xFF; area = 10; outcome = Ok tt }
    ∷ record { job = two_outputs 0xFE 0xFE; area = 10; outcome = refused TooFewSpeaking 0 }
    ∷ record { job = two_outputs 0xFF 0xFE; area = 10; outcome = refused OutOfRange 0 }
    ∷ []

pub examples_hold : map (λ (e : Example). outcome_of e.job e.area) examples ≡ map (λ (e : Example). e.outcome) examples
unfolding examples h1 longer broken row pole silent flagged two_outputs mark_of count_below speaking_count outcome_of outcome_of_rows tabulate field_of outputs_of df_of spare_bit_of numerator_bounds_of flags_of bounds_of largest_bound numerator_count first_below number_at
examples_hold = refl
