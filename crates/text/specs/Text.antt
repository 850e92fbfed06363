-- Paper 01, "The printing program": the whole text, and what a lent buffer holds after it was written.
use Rattle.std.specs.Prelude.{ℕ, Bool, cond, ◌&&◌, List, [], ◌∷◌, ◌++◌, leb, length, codes, Option, None, Some, Result, Ok, Err}
use Rattle.format.specs.Numbers.{word_from}
use Rattle.format.specs.Bounds.{largest_bound}
use Rattle.format.specs.declared.Bounds.{Bounds}
use Rattle.format.specs.declared.Recovered.{Recovered}
use Rattle.format.specs.declared.Refusal.{Refusal}
use Rattle.format.specs.Outcomes.{refusal_number}
use Rattle.row_mask.specs.Word.{is_set}
use Rattle.lists.specs.Overwriting.{overwritten}
use Rattle.text.specs.declared.TextError.{TextError}
use Rattle.text.specs.declared.TextError.TheVariants.{TooShort, Malformed}
use Rattle.text.specs.Decimal.{decimal_of, item_of}
use Rattle.text.specs.Lines.{line_feed, row_items, coefficient_from, coefficients_line, output_lines, margin_line}

-- "recovered "
abbrev pub recovered_label : List ℕ
recovered_label = 114 ∷ 101 ∷ 99 ∷ 111 ∷ 118 ∷ 101 ∷ 114 ∷ 101 ∷ 100 ∷ 32 ∷ []

-- "wrong"
abbrev pub wrong_label : List ℕ
wrong_label = 119 ∷ 114 ∷ 111 ∷ 110 ∷ 103 ∷ []

-- "g"
abbrev pub denominator_label : List ℕ
denominator_label = 103 ∷ []

-- "refused "
abbrev pub refused_label : List ℕ
refused_label = 114 ∷ 101 ∷ 102 ∷ 117 ∷ 115 ∷ 101 ∷ 100 ∷ 32 ∷ []

-- "Line one has the number of wrong rows; line two lists them rising", then the lines of g and of each f, from the sheet's bytes s, and the margin's
abbrev pub recovered_text : Bounds → (wrong margin : ℕ) → List ℕ → List ℕ
recovered_text b wrong margin s =
    recovered_label ++ decimal_of wrong ++ line_feed ++ wrong_label ++ row_items 32 0 (is_set (word_from s)) ++ line_feed ++ denominator_label
    ++ coefficients_line (coefficient_from s 4) b.dg ++ output_lines b s b.outputs ++ margin_line margin

-- "A refused job prints one line, as refused 5 2: number and row"
abbrev pub refused_text : ℕ → ℕ → List ℕ
refused_text number row = refused_label ++ decimal_of number ++ item_of row ++ line_feed

-- the text of a recovery, with this margin where it succeeds; nothing where there is none yet
abbrev pub text_of : Bounds → Option (Result Recovered Refusal) → (margin : ℕ) → List ℕ → List ℕ
text_of b None margin s = []
text_of b (Some (Ok r)) margin s = recovered_text b r.wrong margin s
text_of b (Some (Err e)) margin s = refused_text (refusal_number e.reason) e.row

-- at most 4 outputs, and degrees of at most 31, as every job has
abbrev pub fits_of : Bounds → Bool
fits_of b = leb b.outputs 4 && leb b.dg 31 && leb (largest_bound b b.outputs) 31

-- what the call answers, where the buffer has so many bytes
abbrev pub written_of : Bounds → Option (Result Recovered Refusal) → (margin : ℕ) → List ℕ → ℕ → Result ℕ TextError
written_of b outcome margin s room =
    cond (fits_of b) (cond (leb (length (text_of b outcome margin s)) room) (Ok (length (text_of b outcome margin s))) (Err TooShort)) (Err Malformed)

-- what the buffer holds then: the text and, behind it, what it held before; all of that where there is no text or no room for it
abbrev pub buffer_after : Bounds → Option (Result Recovered Refusal) → (margin : ℕ) → List ℕ → List ℕ → List ℕ
buffer_after b outcome margin s old =
    cond (fits_of b) (cond (leb (length (text_of b outcome margin s)) (length old)) (overwritten (text_of b outcome margin s) old) old) old

-- what is printed of an error
abbrev pub message_of : TextError → List ℕ
message_of TooShort = codes "the buffer is shorter than the text"
message_of Malformed = codes "no job has such bounds"
