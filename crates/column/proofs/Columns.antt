-- The right-hand sides of one output's conditions, row by row.
use lib.ListN.{get_or, length, take}
use Rattle.std.specs.List.{filter, zip}
use mathlib.Core.Path.{◌≡◌, refl, sym, ap, ◌∙◌}
use mathlib.Core.Bool.{Bool, true, false, cond, not, ◌&&◌}
use mathlib.Core.List.{List, [], ◌∷◌}
use Prim.Native.Nat.{ℕ, zero, suc, ◌+◌, ◌*◌, ◌%◌, ◌≤◌, ◌<◌}
use native.Mathlib.Nat.{mod-lt}
use native.Mathlib.Omega.{arith}
use lib.Dec.{ltb, eqb}
use borrow.Author.Tests.{lt-ltb, le-ltb}
use Rattle.lists.specs.Counting.{one_if, count_below}
use Rattle.lists.specs.Tabulated.{tabulate}
use Rattle.poly.specs.Coefficients.{Bounded}
use Rattle.poly.specs.Operations.{value_of}
use Rattle.lists.proofs.Filling.{Filled, filled_all}
use Rattle.poly.proofs.Lists.{bounded_tabulate}
use Rattle.evaluation.specs.Values.{values_of}
use Rattle.evaluation.proofs.Steps.{at_row}
use Rattle.pairs.specs.Pairs.{active_count}
use Rattle.column.specs.Columns.{column_at}

-- the column, at a row and past the rows
module _ (p rows : ℕ) (points values : List ℕ) (i : ℕ) (g : List ℕ) where
  pub column_is : {v r : ℕ} (l : ℕ) → l < rows → v ≡ value_of p (get_or points l 0) g → r ≡ v * get_or values (l * 4 + i) 0 % p
      → r ≡ column_at p rows points values i g l
  unfolding column_at
  column_is l h ev er = er ∙ ap (λ (t : ℕ). t * get_or values (l * 4 + i) 0 % p) ev ∙ sym (rw (lt-ltb l rows h))

  pub column_past : (l : ℕ) → rows ≤ l → column_at p rows points values i g l ≡ 0
  unfolding column_at
  column_past l h = rw (le-ltb l rows h)

  -- what the loop has stored, v the values of g
  pub column_all : {v z : List ℕ} → rows ≤ 32 → v ≡ values_of p points rows g → Filled 32 (λ l. get_or v l 0 * get_or values (l * 4 + i) 0 % p) (λ l. 0) rows z
      → z ≡ tabulate 32 (column_at p rows points values i g)
  column_all few ev h =
      filled_all
      record {
        size = h.size;
        done = λ l low. column_is l low (at_row _ points rows ev few l low) (h.done l low);
        rest = h.rest;
      }
      column_past

  pub bounded_column : 0 < p → Bounded p rows (tabulate 32 (column_at p rows points values i g))
  unfolding column_at
  bounded_column positive = bounded_tabulate p rows 32 _ (λ l. by_row l (ltb l rows)) column_past
    where
      by_row : (l : ℕ) (t : Bool) → cond t (value_of p (get_or points l 0) g * get_or values (l * 4 + i) 0 % p) 0 < p
      by_row l true = mod-lt _ positive
      by_row l false = positive

-- a count, the first number apart
count_first : (n : ℕ) (test : ℕ → Bool) → count_below (suc n) test ≡ one_if (test 0) + count_below n (λ l. test (suc l))
unfolding count_below
count_first zero test = omega arith
count_first (suc n) test = let rest = count_first n test in omega arith

-- among the pairs of the first n rows' weights and right-hand sides as many ask something as rows do
pub active_pairs : (weights z : List ℕ) (n : ℕ) → n ≤ length weights → n ≤ length z
    → length (filter (λ (row : ℕ × ℕ). not (eqb row.0 0 && eqb row.1 0)) (zip (take n weights) (take n z))) ≡ active_count weights z n
unfolding count_below
active_pairs weights z zero lw lz = refl
active_pairs [] z (suc n) lw lz = absurd (omega arith)
active_pairs (c ∷ weights) [] (suc n) lw lz = absurd (omega arith)
active_pairs (c ∷ weights) (y ∷ z) (suc n) lw lz =
    by (not (eqb c 0 && eqb y 0)) (c, y) _
    ∙ ap (◌+◌ (one_if (not (eqb c 0 && eqb y 0)))) (active_pairs weights z n (omega arith) (omega arith))
    ∙ sym (count_first n (λ l. not (eqb (get_or (c ∷ weights) l 0) 0 && eqb (get_or (y ∷ z) l 0) 0)))
  where
    by : (asks : Bool) (row : ℕ × ℕ) (rest : List (ℕ × ℕ)) → length (cond asks (row ∷ rest) rest) ≡ one_if asks + length rest
    by true row rest = omega arith
    by false row rest = omega arith
