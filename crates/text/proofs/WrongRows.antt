-- The wrong rows one by one: the first row that a word marks, and the word without it.
use Prim.Native.Nat.{ℕ, zero, suc, ◌+◌, ◌-◌, ◌^◌, ◌≤◌, ◌<◌}
use mathlib.Core.Path.{◌≡◌, refl, sym, ap, ap₂, ◌∙◌}
use mathlib.Core.Bool.{Bool, true, false, cond}
use mathlib.Core.List.{[], ◌++◌}
use mathlib.Core.Logic.{⊎_elim}
use native.Mathlib.Nat.{eq-or-lt_of_le, le_of_suc-le-suc}
use native.Mathlib.Omega.{arith}
use lib.Dec.{eqb, lit≤}
use lib.Count.{leading_top}
use borrow.Author.Tests.{eq-eqb, ne_eqb}
use Rattle.lists.specs.Counting.{one_if}
use Rattle.row_mask.specs.Word.{word_of, first_from, is_set, first_wrong_of}
use Rattle.row_mask.proofs.Words.{word_same, bit_of_row}
use Rattle.row_mask.proofs.SetBits.{word_of_bits, leading-set}
use Rattle.text.specs.Decimal.{item_of}
use Rattle.text.specs.Lines.{row_items}

-- the same rows but for row f, which is right
abbrev without : (ℕ → Bool) → ℕ → ℕ → Bool
without wrong f r = cond (eqb r f) false (wrong r)

module _ (wrong : ℕ → Bool) (f : ℕ) where
  without_it : (r : ℕ) → r ≡ f → without wrong f r ≡ false
  without_it r same = rw (eq-eqb r f same)

  without_others : (r : ℕ) → (r ≡ f → ⊥) → without wrong f r ≡ wrong r
  without_others r other = rw (ne_eqb r f other)

  without-right : (r : ℕ) → wrong r ≡ false → without wrong f r ≡ false
  without-right r right = by_test (eqb r f)
    where
      by_test : (test : Bool) → cond test false (wrong r) ≡ false
      by_test true = refl
      by_test false = right

rows_same : (n r : ℕ) (wrong wrong' : ℕ → Bool) → ((j : ℕ) → r ≤ j → j < r + n → wrong j ≡ wrong' j) → row_items n r wrong ≡ row_items n r wrong'
unfolding row_items
rows_same zero r wrong wrong' same = refl
rows_same (suc n) r wrong wrong' same =
    ap₂ (λ flag rest. cond flag (item_of r ++ rest) rest) (same r (omega arith) (omega arith))
    (rows_same n (suc r) wrong wrong' (λ j low high. same j (omega arith) (omega arith)))

-- the first wrong row, and the others behind it
first_row : (n r f : ℕ) (wrong : ℕ → Bool) → first_from n r wrong ≡ f → f < 32 → row_items n r wrong ≡ item_of f ++ row_items n r (without wrong f)
unfolding row_items first_from
first_row zero r f wrong first low = absurd (omega arith)
first_row (suc n) r f wrong first low = by_flag (wrong r) refl first (λ e. first_row n (suc r) f wrong e low)
  where
    by_flag : (flag : Bool) → wrong r ≡ flag → cond flag r (first_from n (suc r) wrong) ≡ f
        → (first_from n (suc r) wrong ≡ f → row_items n (suc r) wrong ≡ item_of f ++ row_items n (suc r) (without wrong f))
        → cond (wrong r) (item_of r ++ row_items n (suc r) wrong) (row_items n (suc r) wrong)
        ≡ item_of f ++ cond (without wrong f r) (item_of r ++ row_items n (suc r) (without wrong f)) (row_items n (suc r) (without wrong f))
    by_flag true e here later =
        let others = row_items n (suc r) (without wrong f) in
        let behind : row_items n (suc r) wrong ≡ others =
        rows_same n (suc r) wrong (without wrong f) (λ j low high. sym (without_others wrong f j (λ q. omega arith))) in
        ap (λ flag. cond flag (item_of r ++ row_items n (suc r) wrong) (row_items n (suc r) wrong)) e
        ∙ ap₂ (λ k rest. item_of k ++ rest) here behind
        ∙ ap (λ flag. item_of f ++ cond flag (item_of r ++ others) others) (sym (without_it wrong f r here))
    by_flag false e there later =
        let others = row_items n (suc r) (without wrong f) in
        ap (λ flag. cond flag (item_of r ++ row_items n (suc r) wrong) (row_items n (suc r) wrong)) e
        ∙ later there
        ∙ ap (λ flag. item_of f ++ cond flag (item_of r ++ others) others) (sym (without-right wrong f r e))

first_is_wrong : (n r f : ℕ) (wrong : ℕ → Bool) → first_from n r wrong ≡ f → f < 32 → wrong f ≡ true
unfolding first_from
first_is_wrong zero r f wrong first low = absurd (omega arith)
first_is_wrong (suc n) r f wrong first low = by_flag (wrong r) refl first (λ e. first_is_wrong n (suc r) f wrong e low)
  where
    by_flag : (flag : Bool) → wrong r ≡ flag → cond flag r (first_from n (suc r) wrong) ≡ f → (first_from n (suc r) wrong ≡ f → wrong f ≡ true) → wrong f ≡ true
    by_flag true e here later = ap wrong (sym here) ∙ e
    by_flag false e there later = later there

-- the word of the rows without row f
word_without : (n f : ℕ) (wrong : ℕ → Bool) → wrong f ≡ true → f < n → word_of n wrong ≡ word_of n (without wrong f) + 2 ^ (31 - f)
unfolding word_of
word_without zero f wrong is low = absurd (omega arith)
word_without (suc n) f wrong is low =
    ⊎_elim
    (λ same.
    let before : word_of n wrong ≡ word_of n (without wrong f) = word_same n wrong (without wrong f) (λ r h. sym (without_others wrong f r (λ q. omega arith))) in
    let place : 31 - f ≡ 31 - n = omega arith in
    let wrong-n : wrong n ≡ true = ap wrong (sym same) ∙ is in
    rw (place, without_it wrong f n (sym same), wrong-n, before) (omega arith))
    (λ below.
    let earlier = word_without n f wrong is below in
    rw (without_others wrong f n (λ q. omega arith), earlier) (omega arith)) (eq-or-lt_of_le (le_of_suc-le-suc low))

flag_back : (flag : Bool) → eqb (one_if flag) 1 ≡ flag
flag_back true = refl
flag_back false = refl

-- a word marks the rows that it was made of
set_word : (wrong : ℕ → Bool) (r : ℕ) → r < 32 → is_set (word_of 32 wrong) r ≡ wrong r
set_word wrong r low = ap (λ d. eqb d 1) (bit_of_row 32 wrong r (lit≤ tt) low) ∙ flag_back (wrong r)

pub no_rows : row_items 32 0 (is_set 0) ≡ []
unfolding row_items
no_rows = refl

-- f is the first row that the word marks
module _ (word f : ℕ) (small : word < 2 ^ 32) (some : word ≡ 0 → ⊥) (first : f ≡ first_wrong_of word) where
  pub first_exists : f < 32
  first_exists =
      let top = leading_top 32 word (omega arith) small in
      omega (arith, top.1, leading-set word small)

  cleared : word ≡ word_of 32 (without (is_set word) f) + 2 ^ (31 - f)
  cleared =
      sym (word_of_bits word small)
      ∙ word_without 32 f (is_set word) (first_is_wrong 32 0 f (is_set word) (sym first) first_exists) first_exists

  pub bit_within : 2 ^ (31 - f) ≤ word
  bit_within = omega (arith, cleared)

  pub next-rows : row_items 32 0 (is_set word) ≡ item_of f ++ row_items 32 0 (is_set (word - 2 ^ (31 - f)))
  next-rows =
      let others = without (is_set word) f in
      let rest : word - 2 ^ (31 - f) ≡ word_of 32 others = omega (arith, cleared) in
      first_row 32 0 f (is_set word) (sym first) first_exists
      ∙ ap (λ l. item_of f ++ l)
      (rows_same 32 0 others (is_set (word_of 32 others)) (λ j low high. sym (set_word others j (omega arith))) ∙ ap (λ w. row_items 32 0 (is_set w)) (sym rest))
