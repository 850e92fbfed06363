-- The word is that of the rows that are wrong for the outputs judged so far.
use lib.ListN.{get_or}
use mathlib.Core.Path.{◌≡◌}
use mathlib.Core.List.{List}
use Prim.Native.Nat.{ℕ, ◌+◌, ◌*◌}
use Rattle.field.specs.Primes.{modulus_of}
use Rattle.poly.specs.Vectors.{coefficients_at}
use Rattle.evaluation.specs.Values.{forms_of, values_of}
use Rattle.row_mask.specs.Word.{word_of}
use Rattle.wrong_rows.specs.Rows.{fails_row}
use Rattle.wrong_rows.proofs.wrong_rows.Given as goal

abbrev pub invariant-loop-i : goal.invariant-loop-i
invariant-loop-i l =
    (points g : List ℕ) → l.xs ≡ forms_of (modulus_of l.b.prime) points l.b.rows → l.gs ≡ values_of (modulus_of l.b.prime) points l.b.rows g
    → l.word ≡ word_of l.b.rows (λ r. fails_row (modulus_of l.b.prime) l.i (get_or l.table.weights r 0) (get_or points r 0) (λ j. get_or l.table.values (r * 4 + j) 0) (coefficients_at l.v.f) g)
