-- Laws of any number of 32 bits as a word: its bits say all of it.
use Prim.Native.Nat.{ℕ, zero, suc, ◌+◌, ◌-◌, ◌*◌, ◌/◌, ◌^◌, ◌≤◌, ◌<◌}
use mathlib.Core.Path.{◌≡◌, refl, sym, ap, ap₂, ◌∙◌}
use mathlib.Core.Bool.{Bool}
use native.Mathlib.Nat.{mod-lt, div-add-mod', div-eq_of_lt, div-one}
use native.Mathlib.Omega.{arith}
use lib.Dec.{lit<, lit≤, eqb}
use lib.Pow.{shr-shr}
use lib.Count.{ones, count_leading_zeros}
use Rattle.lists.specs.Counting.{one_if, count_below}
use Rattle.row_mask.specs.Word.{bit_at, word_of, is_set, wrong_count_of, first_wrong_of}
use Rattle.row_mask.proofs.Words.{prefix_of, word_lt, word_top, ones_word, leading_word}

-- the word's top k + 1 bits are its top k and the bit of row k
next_bit : (word k : ℕ) → k < 32 → word / 2 ^ (32 - suc k) ≡ word / 2 ^ (32 - k) * 2 + bit_at word k
next_bit word k h =
    let here : 32 - suc k ≡ 31 - k = omega arith in
    let above : 32 - k ≡ (31 - k) + 1 = omega arith in
    rw (here, above) (sym (ap (λ x. x * 2 + bit_at word k) (sym (shr-shr word (31 - k) 1)) ∙ div-add-mod' (word / 2 ^ (31 - k)) 2))

one_if_digit : (d : ℕ) → d < 2 → one_if (eqb d 1) ≡ d
one_if_digit zero h = refl
one_if_digit (suc zero) h = refl
one_if_digit (suc (suc d)) h = absurd (omega arith)

prefix_of_bits : (word k : ℕ) → word < 2 ^ 32 → k ≤ 32 → prefix_of (is_set word) k ≡ word / 2 ^ (32 - k)
unfolding prefix_of
prefix_of_bits word zero small h = sym (div-eq_of_lt small)
prefix_of_bits word (suc k) small h =
    ap₂ (λ x flag. x * 2 + flag) (prefix_of_bits word k small (omega arith)) (one_if_digit (bit_at word k) (mod-lt (word / 2 ^ (31 - k)) (lit< tt)))
    ∙ sym (next_bit word k h)

-- a number of 32 bits is the word of the rows that it marks
pub word_of_bits : (word : ℕ) → word < 2 ^ 32 → word_of 32 (is_set word) ≡ word
word_of_bits word small =
    sym (div-one (word_of 32 (is_set word))) ∙ word_top 32 (is_set word) 32 (lit≤ tt) (lit≤ tt)
    ∙ prefix_of_bits word 32 small (lit≤ tt) ∙ div-one word

pub ones_set : (word : ℕ) → word < 2 ^ 32 → ones word ≡ wrong_count_of word
ones_set word small = ap ones (sym (word_of_bits word small)) ∙ ones_word 32 (is_set word) (lit≤ tt)

pub leading-set : (word : ℕ) → word < 2 ^ 32 → count_leading_zeros 32 word ≡ first_wrong_of word
leading-set word small = ap (count_leading_zeros 32) (sym (word_of_bits word small)) ∙ leading_word 32 (is_set word) (lit≤ tt)

-- what `wrong_count` answers for the word of n rows
pub count_of_word : (n : ℕ) (wrong : ℕ → Bool) → n ≤ 32 → wrong_count_of (word_of n wrong) ≡ count_below n wrong
count_of_word n wrong h = sym (ones_set (word_of n wrong) (word_lt n wrong h)) ∙ ones_word n wrong h
