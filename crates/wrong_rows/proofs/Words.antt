-- The word of the wrong rows, output by output.
use mathlib.Core.Path.{◌≡◌, ◌∙◌}
use mathlib.Core.Bool.{Bool, true, false, cond, not, ◌||◌, or-true, or-false}
use mathlib.Core.List.{List}
use Prim.Native.Nat.{ℕ, ◌+◌, ◌≤◌}
use native.Mathlib.Numerals.{add-one}
use lib.Bits.{bit_or}
use Rattle.row_mask.specs.Word.{word_of}
use Rattle.row_mask.proofs.Words.{word_or, word_same}
use Rattle.wrong_rows.specs.Rows.{meets_output, fails_row}

-- one output more: a row was wrong before, or the output is not right
pub next_word : (p rows n : ℕ) (c x : ℕ → ℕ) (y : ℕ → ℕ → ℕ) (f : ℕ → List ℕ) (g : List ℕ) {before here : ℕ} → rows ≤ 32
    → before ≡ word_of rows (λ r. fails_row p n (c r) (x r) (y r) f g) → here ≡ word_of rows (λ r. not (meets_output p (c r) (x r) g (f n) (y r n)))
    → bit_or before here ≡ word_of rows (λ r. fails_row p (n + 1) (c r) (x r) (y r) f g)
unfolding fails_row
next_word p rows n c x y f g few eb eh =
    rw (eb, eh, add-one) (word_or rows _ _ few ∙ word_same rows _ _ (λ r l. either (meets_output p (c r) (x r) g (f n) (y r n)) (fails_row p n (c r) (x r) (y r) f g)))
  where
    either : (right rest : Bool) → (rest || not right) ≡ cond right rest true
    either true rest = or-false rest
    either false rest = or-true rest
