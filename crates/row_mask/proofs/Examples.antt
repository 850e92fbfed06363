-- The definitions at some of paper 01's worked examples.
use mathlib.Core.Path.{◌≡◌, refl}
use lib.Dec.{eqb}
use Rattle.row_mask.specs.Word.{word_of, wrong_count_of, first_wrong_of, first_from}
use Rattle.lists.specs.Counting.{count_below}

-- H1: row 2 of three is wrong; 20000000
h1_word : word_of 3 (λ r. eqb r 2) ≡ 536870912
unfolding word_of
h1_word = refl

h1_count : wrong_count_of 536870912 ≡ 1
unfolding count_below
h1_count = refl

h1_first : first_wrong_of 536870912 ≡ 2
unfolding first_from
h1_first = refl

-- row 8 stands in the second byte
row_8 : word_of 9 (λ r. eqb r 8) ≡ 8388608
unfolding word_of
row_8 = refl
