-- Paper 01, the jobs checked by hand: H1 to H12 as one table, with one claim over it. Numbers are hexadecimal, as they stand there.
use Rattle.std.specs.Prelude.{◌≡◌, List, [], ◌∷◌, ◌++◌, ℕ, length}
use Rattle.format.specs.declared.Report.{Report}
use Rattle.format.specs.Outcomes.{refused_report, recovered_report}
use Rattle.answer.specs.Bytes.{two_bytes}
use Rattle.lists.specs.Overwriting.{overwritten}
use Rattle.recovery.specs.Recovery.{Settled}

-- a job's bytes, the length of the answer area, what is reported in paper 01's numbers, and the bytes that are written
pub record Example : Type 0 where
  pub job : List ℕ
  pub room : ℕ
  pub report : Report
  pub bytes : List ℕ

-- the bytes of numbers of 16 bits
abbrev pub numbers : List ℕ → List ℕ
numbers [] = []
numbers (v ∷ vs) = two_bytes v ++ numbers vs

-- a job with an answer, in an area that is exactly as long as it
abbrev pub answered : List ℕ → (bytes wrong : ℕ) → List ℕ → Example
answered job bytes wrong answer = record { job = job; room = bytes; report = recovered_report bytes wrong; bytes = numbers answer }

-- a job refused with this number and row 0
abbrev pub refused : List ℕ → (room number : ℕ) → Example
refused job room number = record { job = job; room = room; report = refused_report number 0; bytes = [] }

-- H1's header and points, with these three values
abbrev pub three : ℕ → ℕ → ℕ → List ℕ
three y0 y1 y2 = 0x01 ∷ 0x80 ∷ 0x02 ∷ numbers (0x0000 ∷ y0 ∷ 0x0001 ∷ y1 ∷ 0x0002 ∷ y2 ∷ [])

-- H3's: df 0, dg 1, E 1, points 0, 1, 2, 3
abbrev pub four : ℕ → ℕ → ℕ → ℕ → List ℕ
four y0 y1 y2 y3 = 0x02 ∷ 0x00 ∷ 0x22 ∷ numbers (0x0000 ∷ y0 ∷ 0x0001 ∷ y1 ∷ 0x0002 ∷ y2 ∷ 0x0003 ∷ y3 ∷ [])

-- H6's: df 1, dg 1, E 0, points 0, 1, 2
abbrev pub linear : ℕ → ℕ → ℕ → List ℕ
linear y0 y1 y2 = 0x01 ∷ 0x84 ∷ 0x20 ∷ numbers (0x0000 ∷ y0 ∷ 0x0001 ∷ y1 ∷ 0x0002 ∷ y2 ∷ [])

unfoldable pub table : List Example
table =
    -- H1: 5, with row 2 wrong
    answered (three 5 5 2) 8 1 (0x2000 ∷ 0x0000 ∷ 0x0001 ∷ 0x0005 ∷ [])
    -- H2: 1/u
    ∷ answered (0x01 ∷ 0x00 ∷ 0x20 ∷ numbers (0x0001 ∷ 0x0001 ∷ 0x0002 ∷ 0x0004 ∷ [])) 10 0 (0x0000 ∷ 0x0000 ∷ 0x0000 ∷ 0x0001 ∷ 0x0001 ∷ [])
    -- H3 and H4: 1/u again, the row at its pole wrong with either value
    ∷ answered (four 0 1 4 5) 10 1 (0x8000 ∷ 0x0000 ∷ 0x0000 ∷ 0x0001 ∷ 0x0001 ∷ [])
    ∷ answered (four 6 1 4 5) 10 1 (0x8000 ∷ 0x0000 ∷ 0x0000 ∷ 0x0001 ∷ 0x0001 ∷ [])
    -- H5: 0
    ∷ answered (three 0 0 3) 8 1 (0x2000 ∷ 0x0000 ∷ 0x0001 ∷ 0x0000 ∷ [])
    -- H6: 1, and H7: none
    ∷ answered (linear 1 1 1) 12 0 (0x0000 ∷ 0x0000 ∷ 0x0001 ∷ 0x0000 ∷ 0x0001 ∷ 0x0000 ∷ [])
    ∷ refused (linear 1 1 2) 12 8
    -- H8: g = 1 + u, f1 = 1, f2 = u
    ∷ answered
    (0x11 ∷ 0x84 ∷ 0x20 ∷ numbers (0x0000 ∷ 0x0001 ∷ 0x0000 ∷ 0x0001 ∷ 0x0004 ∷ 0x0004 ∷ 0x0002 ∷ 0x0005 ∷ 0x0003 ∷ []))
    16 0 (0x0000 ∷ 0x0000 ∷ 0x0001 ∷ 0x0001 ∷ 0x0001 ∷ 0x0000 ∷ 0x0000 ∷ 0x0001 ∷ [])
    -- H9: none
    ∷ refused (three 5 4 2) 8 8
    -- H10 and H11: the largest value modulo 65521, and one that is too large
    ∷ answered (0xC0 ∷ 0x80 ∷ 0x00 ∷ numbers (0x0000 ∷ 0xFFF0 ∷ [])) 8 0 (0x0000 ∷ 0x0000 ∷ 0x0001 ∷ 0xFFF0 ∷ [])
    ∷ refused (0xC0 ∷ 0x80 ∷ 0x00 ∷ numbers (0x0000 ∷ 0xFFF1 ∷ [])) 8 5
    -- H12: H1's job with an area of 7 bytes, and of 8
    ∷ refused (three 5 5 2) 7 7
    ∷ answered (three 5 5 2) 8 1 (0x2000 ∷ 0x0000 ∷ 0x0001 ∷ 0x0005 ∷ [])
    ∷ []

-- Paper 02, item 6, rows that report a pole, modulo 7 and with E 0. df 0, dg 1, rows (3; 3, 5) and (4; pole): g = u + 3, f1 = 4, f2 = 2. The first output
-- brings the factor u + 3, and the second need bring none.
abbrev pub one_pole : Example
one_pole =
    answered (0x11 ∷ 0x00 ∷ 0x21 ∷ 0x00 ∷ 0x00 ∷ 0x08 ∷ 0x00 ∷ numbers (0x0003 ∷ 0x0003 ∷ 0x0005 ∷ 0x0004 ∷ 0xFFFF ∷ 0xFFFF ∷ []))
    12 0 (0x0000 ∷ 0x0000 ∷ 0x0003 ∷ 0x0001 ∷ 0x0004 ∷ 0x0002 ∷ [])

-- df 0, dg 2, rows (0; pole), (1; pole), (5; silent) and (2; 3): g = u (u - 1), f = 6. With numbers in the place of the marks both poles would be wrong rows.
abbrev pub two_poles : Example
two_poles =
    answered (0x02 ∷ 0x00 ∷ 0x41 ∷ 0x00 ∷ 0x00 ∷ 0x08 ∷ 0x00 ∷ numbers (0x0000 ∷ 0xFFFF ∷ 0x0001 ∷ 0xFFFF ∷ 0x0005 ∷ 0xFFFE ∷ 0x0002 ∷ 0x0003 ∷ []))
    12 0 (0x0000 ∷ 0x0000 ∷ 0x0000 ∷ 0x0006 ∷ 0x0001 ∷ 0x0006 ∷ [])

-- what a call reports and leaves in the area, by demands 1 and 2: for every area of that length, whatever it holds
abbrev pub ExampleHolds : Example → Type 0
ExampleHolds e = (area : List ℕ) → length area ≡ e.room → Settled e.job area e.report (overwritten e.bytes area)

-- the claim: so it is at every entry
abbrev pub EveryHolds : List Example → Type 0
EveryHolds [] = Unit
EveryHolds (e ∷ es) = ExampleHolds e × EveryHolds es
