-- Laws of the word of n rows: its bits, its ones, its leading zeros.
use Prim.Native.Nat.{ℕ, zero, suc, ◌+◌, ◌-◌, ◌*◌, ◌/◌, ◌%◌, ◌^◌, ◌≤◌, ◌<◌}
use mathlib.Core.Path.{◌≡◌, refl, sym, ap, ap₂, ◌∙◌}
use mathlib.Core.Bool.{Bool, true, false, cond, ◌||◌}
use mathlib.Core.Logic.{◌↔◌}
use native.Mathlib.Nat.{pow-suc, add-zero, add-suc, zero-add, zero-mul, mul_assoc, mul-mod_left, mul-le-mul_right, mod-lt, div-add-mod', div-one, lt_of_not-le, lt-suc_self}
use native.Mathlib.Numerals.{add-one}
use native.Mathlib.Omega.{arith}
use lib.Dec.{lit<, lit≤}
use lib.Arith.{digits_div, digits_mod}
use lib.Bits.{bit_or, or_block}
use lib.Pow.{pow_pos, pow-add, shl-shr, shr-shr}
use lib.Count.{ones, ones_in, ones_cat, count_leading_zeros, leading_of_zero, leading_unique}
use Rattle.lists.specs.Counting.{one_if, count_below}
use Rattle.row_mask.specs.Word.{bit_at, with_row, word_of, first_from, first_wrong}

-- the flags of rows 0 to n - 1 as a binary number, row n - 1 last: the word without the places behind them
unfoldable pub prefix_of : (ℕ → Bool) → ℕ → ℕ
prefix_of wrong zero = 0
prefix_of wrong (suc n) = prefix_of wrong n * 2 + one_if (wrong n)

one_if_lt : (wrong : Bool) → one_if wrong < 2
one_if_lt true = lit< tt
one_if_lt false = lit< tt

-- one place further down
lower : (n : ℕ) → n < 32 → 2 ^ (32 - n) ≡ 2 ^ (31 - n) * 2
lower n h = let place : 32 - n ≡ suc (31 - n) = omega arith in ap (λ k. 2 ^ k) place ∙ pow-suc 2 (31 - n)

-- the word is the prefix, moved to the top
word_prefix : (n : ℕ) (wrong : ℕ → Bool) → n ≤ 32 → word_of n wrong ≡ prefix_of wrong n * 2 ^ (32 - n)
unfolding word_of prefix_of
word_prefix zero wrong h = refl
word_prefix (suc n) wrong h =
    let ih = word_prefix n wrong (omega arith) in
    let below : 32 - suc n ≡ 31 - n = omega arith in
    rw (below, ih, lower n h) (omega arith)

-- one row more, as a loop counts
pub next_row : (n : ℕ) (wrong : ℕ → Bool) → word_of (n + 1) wrong ≡ with_row (word_of n wrong) n (wrong n)
unfolding word_of
next_row n wrong = rw add-one

-- the word depends on the rows that exist and on no others
pub word_same : (n : ℕ) (wrong wrong' : ℕ → Bool) → ((r : ℕ) → r < n → wrong r ≡ wrong' r) → word_of n wrong ≡ word_of n wrong'
unfolding word_of
word_same zero wrong wrong' same = refl
word_same (suc n) wrong wrong' same =
    ap₂ (λ word flag. with_row word n flag) (word_same n wrong wrong' (λ r h. same r (omega arith))) (same n (lt-suc_self n))

-- no row is wrong
pub word_none : (n : ℕ) → word_of n (λ r. false) ≡ 0
unfolding word_of
word_none zero = refl
word_none (suc n) = omega (arith, word_none n)

one_if_or : (a b : Bool) → bit_or (one_if a) (one_if b) ≡ one_if (a || b)
one_if_or true true = refl
one_if_or true false = refl
one_if_or false b = refl

prefix_or : (a b : ℕ → Bool) (n : ℕ) → bit_or (prefix_of a n) (prefix_of b n) ≡ prefix_of (λ r. a r || b r) n
unfolding prefix_of
prefix_or a b zero = refl
prefix_or a b (suc n) =
    or_block 1 (prefix_of a n) (prefix_of b n) (one_if (a n)) (one_if (b n)) (one_if_lt (a n)) (one_if_lt (b n))
    ∙ ap₂ (λ high flag. high * 2 + flag) (prefix_or a b n) (one_if_or (a n) (b n))

-- a row is wrong in one word or in the other
pub word_or : (n : ℕ) (a b : ℕ → Bool) → n ≤ 32 → bit_or (word_of n a) (word_of n b) ≡ word_of n (λ r. a r || b r)
word_or n a b h =
    let moved = or_block (32 - n) (prefix_of a n) (prefix_of b n) 0 0 (pow_pos (32 - n)) (pow_pos (32 - n)) in
    rw (word_prefix n a h, word_prefix n b h, word_prefix n (λ r. a r || b r) h, ← prefix_or a b n)
    (simp add-zero at moved)

-- above the word of n rows there is room for the rows behind them
room : (n : ℕ) (wrong : ℕ → Bool) → n ≤ 32 → word_of n wrong + 2 ^ (32 - n) ≤ 2 ^ 32
unfolding word_of
room zero wrong h = lit≤ tt
room (suc n) wrong h =
    let below : 32 - suc n ≡ 31 - n = omega arith in
    let flag = one_if_lt (wrong n) in
    let one : one_if (wrong n) * 2 ^ (31 - n) ≤ 1 * 2 ^ (31 - n) = mul-le-mul_right (2 ^ (31 - n)) (omega arith) in
    rw below (omega (arith, room n wrong (omega arith), lower n h))

-- the word has 32 bits
pub word_lt : (n : ℕ) (wrong : ℕ → Bool) → n ≤ 32 → word_of n wrong < 2 ^ 32
word_lt n wrong h = omega (arith, room n wrong h, pow_pos (32 - n))

-- what `with_row` asks of the word of the rows before
pub row_room : (n : ℕ) (wrong : ℕ → Bool) → n < 32 → word_of n wrong + 2 ^ (31 - n) < 2 ^ 32
row_room n wrong h = omega (arith, room n wrong (omega arith), lower n h, pow_pos (31 - n))

prefix_of_prefix : (wrong : ℕ → Bool) (k m : ℕ) → prefix_of wrong (k + m) / 2 ^ m ≡ prefix_of wrong k
unfolding prefix_of
prefix_of_prefix wrong k zero = rw add-zero (div-one (prefix_of wrong k))
prefix_of_prefix wrong k (suc m) =
    let e : suc m ≡ 1 + m = omega arith in
    let half = digits_div (prefix_of wrong (k + m)) (one_if_lt (wrong (k + m))) in
    rw add-suc (rw e (sym (shr-shr (prefix_of wrong (suc (k + m))) 1 m) ∙ ap (λ x. x / 2 ^ m) half ∙ prefix_of_prefix wrong k m))

-- the word's top k bits are the flags of the first k rows
pub word_top : (n : ℕ) (wrong : ℕ → Bool) (k : ℕ) → n ≤ 32 → k ≤ n → word_of n wrong / 2 ^ (32 - k) ≡ prefix_of wrong k
word_top n wrong k h below =
    let places : 32 - k ≡ (32 - n) + (n - k) = omega arith in
    let rows : n ≡ k + (n - k) = omega arith in
    ap₂ (λ w j. w / 2 ^ j) (word_prefix n wrong h) places
    ∙ sym (shr-shr (prefix_of wrong n * 2 ^ (32 - n)) (32 - n) (n - k))
    ∙ ap (λ x. x / 2 ^ (n - k)) (shl-shr (prefix_of wrong n) (32 - n))
    ∙ ap (λ j. prefix_of wrong j / 2 ^ (n - k)) rows
    ∙ prefix_of_prefix wrong k (n - k)

-- the bit of a row that exists
pub bit_of_row : (n : ℕ) (wrong : ℕ → Bool) (r : ℕ) → n ≤ 32 → r < n → bit_at (word_of n wrong) r ≡ one_if (wrong r)
unfolding prefix_of
bit_of_row n wrong r h below =
    let place : 31 - r ≡ 32 - suc r = omega arith in
    ap (λ j. word_of n wrong / 2 ^ j % 2) place ∙ ap (λ x. x % 2) (word_top n wrong (suc r) h below)
    ∙ digits_mod (prefix_of wrong r) (one_if_lt (wrong r))

-- "Rows that don't exist have 0"
bit_of_none : (n : ℕ) (wrong : ℕ → Bool) (r : ℕ) → n ≤ r → r < 32 → bit_at (word_of n wrong) r ≡ 0
bit_of_none n wrong r above h =
    let places : 32 - n ≡ suc (r - n) + (31 - r) = omega arith in
    let head = prefix_of wrong n in
    let moved : word_of n wrong ≡ head * 2 ^ suc (r - n) * 2 ^ (31 - r) =
    word_prefix n wrong (omega arith) ∙ ap (λ j. head * 2 ^ j) places
    ∙ ap (λ x. head * x) (pow-add 2 (suc (r - n)) (31 - r)) ∙ sym (mul_assoc head (2 ^ suc (r - n)) (2 ^ (31 - r))) in
    ap (λ w. w / 2 ^ (31 - r) % 2) moved ∙ ap (λ x. x % 2) (shl-shr (head * 2 ^ suc (r - n)) (31 - r))
    ∙ ap (λ x. head * x % 2) (pow-suc 2 (r - n)) ∙ ap (λ x. x % 2) (sym (mul_assoc head (2 ^ (r - n)) 2))
    ∙ mul-mod_left (head * 2 ^ (r - n)) 2

one_if_one : (wrong : Bool) → one_if wrong ≡ 1 → wrong ≡ true
one_if_one true e = refl
one_if_one false e = absurd (omega arith)

-- a bit of the word is 1 exactly for a row that exists and is wrong
pub bit_exactly : (n : ℕ) (wrong : ℕ → Bool) (r : ℕ) → n ≤ 32 → r < 32 → (bit_at (word_of n wrong) r ≡ 1) ↔ ((r < n) × (wrong r ≡ true))
bit_exactly n wrong r h below = (
  λ e.
      let exists : r < n = lt_of_not-le (λ above. let clear = bit_of_none n wrong r above below in omega arith) in
      (exists, one_if_one (wrong r) (sym (bit_of_row n wrong r h exists) ∙ e)),
  λ e. bit_of_row n wrong r h e.0 ∙ ap one_if e.1,
)

ones_one_if : (wrong : Bool) → ones (one_if wrong) ≡ one_if wrong
unfolding ones ones_in
ones_one_if true = refl
ones_one_if false = refl

ones_prefix : (wrong : ℕ → Bool) (n : ℕ) → ones (prefix_of wrong n) ≡ count_below n wrong
unfolding prefix_of count_below
ones_prefix wrong zero = ones_one_if false
ones_prefix wrong (suc n) =
    ones_cat 1 (prefix_of wrong n) (one_if (wrong n)) (one_if_lt (wrong n)) ∙ ap₂ (λ a b. a + b) (ones_prefix wrong n) (ones_one_if (wrong n))

-- the ones of the word are the wrong rows
pub ones_word : (n : ℕ) (wrong : ℕ → Bool) → n ≤ 32 → ones (word_of n wrong) ≡ count_below n wrong
ones_word n wrong h =
    let head = prefix_of wrong n in
    let word : word_of n wrong ≡ head * 2 ^ (32 - n) + 0 = word_prefix n wrong h ∙ sym (add-zero (head * 2 ^ (32 - n))) in
    ap ones word ∙ ones_cat (32 - n) head 0 (pow_pos (32 - n))
    ∙ ap (λ x. ones head + x) (ones_one_if false) ∙ add-zero (ones head) ∙ ones_prefix wrong n

-- a word whose top r + 1 bits are 0 .. 0 1
leading_place : (word r : ℕ) → r < 32 → word / 2 ^ (31 - r) ≡ 1 → count_leading_zeros 32 word ≡ r
leading_place word r h e =
    let place = 2 ^ (31 - r) in
    let whole : 1 * place + word % place ≡ word = ap (λ q. q * place + word % place) (sym e) ∙ div-add-mod' word place in
    let rest = mod-lt word (pow_pos (31 - r)) in
    sym (leading_unique 32 word r (suc (31 - r)) (omega arith) (omega (arith, pow-suc 2 (31 - r))) (omega (arith, pow-suc 2 (31 - r))))

leading_from : (m r : ℕ) (wrong : ℕ → Bool) → r + m ≤ 32 → prefix_of wrong r ≡ 0 → count_leading_zeros 32 (word_of (r + m) wrong) ≡ first_from m r wrong
unfolding prefix_of first_from
leading_from zero r wrong h clear =
    let none : word_of (r + 0) wrong ≡ 0 =
    ap (λ n. word_of n wrong) (add-zero r) ∙ word_prefix r wrong (omega arith) ∙ ap (λ x. x * 2 ^ (32 - r)) clear ∙ zero-mul (2 ^ (32 - r)) in
    ap (count_leading_zeros 32) none ∙ leading_of_zero 32
leading_from (suc m) r wrong h clear = by_flag (wrong r) refl (leading_from m (suc r) wrong (omega arith))
  where
    rows : r + suc m ≡ suc r + m
    rows = omega arith

    by_flag : (flag : Bool) → wrong r ≡ flag
        → (prefix_of wrong (suc r) ≡ 0 → count_leading_zeros 32 (word_of (suc r + m) wrong) ≡ first_from m (suc r) wrong)
        → count_leading_zeros 32 (word_of (r + suc m) wrong) ≡ cond (wrong r) r (first_from m (suc r) wrong)
    by_flag true e later =
        let place : 31 - r ≡ 32 - suc r = omega arith in
        let top : word_of (r + suc m) wrong / 2 ^ (31 - r) ≡ 1 =
        ap (λ j. word_of (r + suc m) wrong / 2 ^ j) place ∙ word_top (r + suc m) wrong (suc r) h (omega arith)
        ∙ ap₂ (λ x flag. x * 2 + one_if flag) clear e in
        rw e (leading_place (word_of (r + suc m) wrong) r (omega arith) top)
    by_flag false e later =
        rw (e, rows) (later (ap₂ (λ x flag. x * 2 + one_if flag) clear e))

-- the leading zeros of the word are the first wrong row
pub leading_word : (n : ℕ) (wrong : ℕ → Bool) → n ≤ 32 → count_leading_zeros 32 (word_of n wrong) ≡ first_wrong n wrong
unfolding prefix_of
leading_word n wrong h = ap (λ k. count_leading_zeros 32 (word_of k wrong)) (sym (zero-add n)) ∙ leading_from n 0 wrong (omega arith) refl
