-- The word is that of the rows judged so far.
use lib.ListN.{get_or}
use mathlib.Core.Path.{◌≡◌}
use mathlib.Core.Bool.{not}
use Prim.Native.Nat.{◌+◌, ◌*◌, ◌%◌}
use lib.Dec.{eqb}
use Rattle.field.specs.Primes.{modulus_of}
use Rattle.row_mask.specs.Word.{word_of}
use Rattle.wrong_rows.proofs.wrong_values.Given as goal

abbrev pub invariant-loop-r : goal.invariant-loop-r
invariant-loop-r l =
    l.word ≡ word_of l.r (λ j. not (eqb (get_or l.table.weights j 0 * get_or l.fs j 0) (get_or l.gs j 0 * get_or l.table.values (j * 4 + l.i) 0 % modulus_of l.b.prime)))
