-- A text fits its draft.
use Prim.Native.Nat.{ℕ, zero, suc, ◌+◌, ◌*◌, ◌^◌, ◌≤◌, ◌<◌}
use mathlib.Core.Bool.{Bool, true, false, cond}
use mathlib.Core.List.{List, ◌++◌}
use native.Mathlib.Omega.{arith}
use lib.ListN.{length, get_or, length-append}
use Rattle.format.specs.Numbers.{word_from}
use Rattle.format.specs.declared.Bounds.{Bounds}
use Rattle.format.specs.Bounds.{FitsPolynomials, numerator_bound_of}
use Rattle.answer.specs.Bytes.{numerator_start}
use Rattle.row_mask.specs.Word.{is_set}
use Rattle.text.specs.Drafts.{text_room}
use Rattle.text.specs.Decimal.{item_of}
use Rattle.text.specs.Lines.{row_items, coefficient_from, degree_within, items_below, output_line_from, output_lines}
use Rattle.text.specs.Text.{recovered_text, refused_text}
use Rattle.text.proofs.Digits.{digits_few}
use Rattle.text.proofs.Polynomials.{degree-low}

row_items_lem : (n r : ℕ) (wrong : ℕ → Bool) → r + n ≤ 32 → length (row_items n r wrong) ≤ 3 * n
unfolding row_items
row_items_lem zero r wrong h = omega arith
row_items_lem (suc n) r wrong h = by_flag (wrong r) (row_items_lem n (suc r) wrong (omega arith))
  where
    by_flag : (flag : Bool) → length (row_items n (suc r) wrong) ≤ 3 * n
        → length (cond flag (item_of r ++ row_items n (suc r) wrong) (row_items n (suc r) wrong)) ≤ 3 * suc n
    by_flag true short = omega (arith, length-append (item_of r) (row_items n (suc r) wrong), digits_few 2 r (omega arith) (omega arith) (omega arith))
    by_flag false short = omega arith

coefficient_items : (c : ℕ → ℕ) → ((k : ℕ) → c k < 65536) → (count : ℕ) → length (items_below c count) ≤ 6 * count
unfolding items_below
coefficient_items c low zero = omega arith
coefficient_items c low (suc count) =
    omega (arith, length-append (items_below c count) (item_of (c count)), coefficient_items c low count, digits_few 5 (c count) (omega arith) (omega (arith, low count)) (omega (arith, low count)))

line_items : (c : ℕ → ℕ) → ((k : ℕ) → c k < 65536) → (bound : ℕ) → bound < 32 → length (items_below c (degree_within c bound + 1)) ≤ 192
line_items c low bound h = omega (arith, coefficient_items c low (degree_within c bound + 1), degree-low c bound)

-- bytes below 256 throughout
module _ (s : List ℕ) (bytes : (k : ℕ) → get_or s k 0 < 256) where
  coefficient_low : (start k : ℕ) → coefficient_from s start k < 65536
  coefficient_low start k = omega (arith, bytes (start + 2 * k), bytes (start + 2 * k + 1))

  output_line : (i start bound : ℕ) → i < 4 → bound < 32 → length (output_line_from s i start bound) ≤ 195
  output_line i start bound few h =
      let number = digits_few 1 (i + 1) (omega arith) (omega arith) (omega arith) in
      let line = line_items (coefficient_from s start) (coefficient_low start) bound h in
      simp length-append (omega arith)

  output_lines_lem : (b : Bounds) → FitsPolynomials b → (n : ℕ) → n ≤ b.outputs → length (output_lines b s n) ≤ 195 * n
  unfolding output_lines
  output_lines_lem b fits zero few = omega arith
  output_lines_lem b fits (suc i) few =
      let start = numerator_start b i in
      let bound = numerator_bound_of b i in
      omega (
        arith,
        length-append (output_lines b s i) (output_line_from s i start bound),
        output_lines_lem b fits i (omega arith),
        output_line i start bound (omega (arith, fits.few)) (omega (arith, fits.numerators-low i few)),
      )

  pub recovered-short : (b : Bounds) → FitsPolynomials b → (wrong margin : ℕ) → wrong < 2 ^ 32 → margin < 2 ^ 32 → length (recovered_text b wrong margin s) < text_room
  recovered-short b fits wrong margin low low-margin =
      let count = digits_few 10 wrong (omega arith) (omega arith) (omega arith) in
      let last = digits_few 10 margin (omega arith) (omega arith) (omega arith) in
      let rows = row_items_lem 32 0 (is_set (word_from s)) (omega arith) in
      let line = line_items (coefficient_from s 4) (coefficient_low 4) b.dg (omega (arith, fits.denominator-low)) in
      let outputs = output_lines_lem b fits b.outputs (omega arith) in
      let few = fits.few in
      simp length-append (omega arith)

pub refused-short : (number row : ℕ) → number < 2 ^ 32 → row < 2 ^ 32 → length (refused_text number row) < text_room
refused-short number row low-number low-row =
    let one = digits_few 10 number (omega arith) (omega arith) (omega arith) in
    let two = digits_few 10 row (omega arith) (omega arith) (omega arith) in
    simp length-append (omega arith)
