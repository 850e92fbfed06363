-- Pairs of jobs T and T' modulo 7 that meet the conditions of the enlargement rule. Each job has two outputs.
use Rattle.std.specs.Prelude.{cond, List, [], ◌∷◌, ◌++◌, ℕ, eqb}

-- the bytes of a row with a point and two values, all below 256; of a row that reports a pole; of a silent one
abbrev row_of : ℕ → ℕ → ℕ → List ℕ
row_of x y1 y2 = 0 ∷ x ∷ 0 ∷ y1 ∷ 0 ∷ y2 ∷ []

abbrev pole_of : ℕ → List ℕ
pole_of x = 0 ∷ x ∷ 0xFF ∷ 0xFF ∷ 0xFF ∷ 0xFF ∷ []

abbrev silent_of : ℕ → List ℕ
silent_of x = 0 ∷ x ∷ 0xFF ∷ 0xFE ∷ 0xFF ∷ 0xFE ∷ []

-- T with the short header: df 0, dg 0, E 1. For f and g below row 2 is wrong.
abbrev pub smaller_job : List ℕ
smaller_job = 0x11 ∷ 0x80 ∷ 0x02 ∷ row_of 0 5 3 ++ row_of 1 5 3 ++ row_of 2 2 3

-- T' with the longer header, and with bounds that differ: 0 for f1 and 1 for f2, dg 0, E 2. T's rows stand at 2, 3 and 0; the further rows are
-- (3; 1, 3), which is wrong, (4; 5, 3) and (5; 5, 3).
abbrev pub larger_job : List ℕ
larger_job =
    0x13 ∷ 0x04 ∷ 0x05 ∷ 0x00 ∷ 0x40 ∷ 0x00 ∷ 0x00 ∷ row_of 2 2 3 ++ row_of 3 1 3 ++ row_of 0 5 3 ++ row_of 1 5 3 ++ row_of 4 5 3 ++ row_of 5 5 3

-- 5 / 1 and 3 / 1
abbrev pub pair_numerators : ℕ → List ℕ
pair_numerators i = cond (eqb i 0) 5 3 ∷ []

abbrev pub pair_denominator : List ℕ
pair_denominator = 1 ∷ []

-- T with the flag, and T' = larger_job without it: the rows of smaller_job and a silent one at 3, in whose place T' has a row with values
abbrev pub silent_job : List ℕ
silent_job = 0x12 ∷ 0x00 ∷ 0x03 ∷ 0x00 ∷ 0x00 ∷ 0x08 ∷ 0x00 ∷ row_of 0 5 3 ++ silent_of 3 ++ row_of 1 5 3 ++ row_of 2 2 3

-- T' with the flag, and T = smaller_job without it: df 0, dg 0, E 2. The further rows are a pole, which is wrong, a silent one and (5; 5, 3).
abbrev pub marked_job : List ℕ
marked_job =
    0x13 ∷ 0x00 ∷ 0x05 ∷ 0x00 ∷ 0x00 ∷ 0x08 ∷ 0x00 ∷ pole_of 3 ++ row_of 2 2 3 ++ row_of 0 5 3 ++ silent_of 4 ++ row_of 1 5 3 ++ row_of 5 5 3

-- RecoveryPair with the flag. T: df 0, dg 1, E 1. For f and g below the pole is right and row 4 is wrong.
abbrev pub pole_job : List ℕ
pole_job = 0x12 ∷ 0x80 ∷ 0x23 ∷ 0x00 ∷ 0x00 ∷ 0x08 ∷ 0x00 ∷ pole_of 0 ++ silent_of 4 ++ row_of 1 1 3 ++ row_of 2 4 5 ++ row_of 3 0 0

-- T': df 0, dg 1, E 2. T's speaking rows stand at 2, 4, 6 and 0; the further rows are (4; 2, 6), where T has a silent one, another silent one, and a
-- pole at 6, which is wrong.
abbrev pub pole_larger_job : List ℕ
pole_larger_job =
    0x13 ∷ 0x80 ∷ 0x25 ∷ 0x00 ∷ 0x00 ∷ 0x08 ∷ 0x00 ∷ row_of 3 0 0 ++ row_of 4 2 6 ++ pole_of 0 ++ silent_of 5 ++ row_of 1 1 3 ++ pole_of 6 ++ row_of 2 4 5

-- 1 / u and 3 / u
abbrev pub pole_numerators : ℕ → List ℕ
pole_numerators i = cond (eqb i 0) 1 3 ∷ []

abbrev pub pole_denominator : List ℕ
pole_denominator = 0 ∷ 1 ∷ []
