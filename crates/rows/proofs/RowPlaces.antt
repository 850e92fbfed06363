-- Where the rows stand in a job.
use mathlib.Core.Bool.{cond}
use mathlib.Core.List.{List}
use mathlib.Core.Logic.{◌⊎◌, inl, inr}
use mathlib.Core.Path.{◌≡◌, refl, ap, ◌∙◌}
use Prim.Native.Nat.{ℕ, suc, ◌+◌, ◌-◌, ◌*◌, ◌≤◌, ◌<◌}
use native.Mathlib.Nat.{mul_assoc, suc-mul, mul-le-mul_right, add_assoc}
use native.Mathlib.Omega.{arith}
use borrow.Author.Tests.{lt-ltb, le-ltb}
use lib.Dec.{ltb}
use lib.ListN.{take, drop}
use lib.Seq.{get_or-take, get_or-drop}
use Rattle.format.specs.Numbers.{number_from}
use Rattle.header.specs.Header.{header_length_of, bounds_of}
use Rattle.rows.specs.Rows.{number_at, value_or_zero}
use Rattle.rows.specs.Steps.{row_of, row_at}
use Rattle.lists.proofs.Tabulated.{tabulate_cong}
use Rattle.lists.proofs.Order.{lt_or_ge}

-- a row ends before the job does; m numbers make a row
pub row_ends : (start r rows m : ℕ) → r < rows → start + 2 * (r * m) + 2 * m ≤ start + 2 * rows * m
row_ends start r rows m l =
    let h : suc r * m ≤ rows * m = mul-le-mul_right m l in
    omega (arith, h, suc-mul r m, mul_assoc 2 rows m)

-- a number within a part of a list
number_part : (s : List ℕ) (a w k : ℕ) → k + 1 < w → number_from (take w (drop a s)) k ≡ number_from s (a + k)
number_part s a w k l =
    let l' : k < w = omega arith in
    rw (get_or-take w (drop a s) k 0, get_or-take w (drop a s) (k + 1) 0, get_or-drop a s k 0, get_or-drop a s (k + 1) 0, ← add_assoc a k 1) refl

module _ (s : List ℕ) (r : ℕ) where
  part : List ℕ
  part = take (2 * (1 + (bounds_of s).outputs)) (drop (header_length_of s + 2 * (r * (1 + (bounds_of s).outputs))) s)

  column : (c : ℕ) → c ≤ (bounds_of s).outputs → number_from part (2 * c) ≡ number_at s r c
  unfolding part number_at
  column c l =
      let n = (bounds_of s).outputs in
      number_part s (header_length_of s + 2 * (r * (1 + n))) (2 * (1 + n)) (2 * c) (omega arith) ∙ ap (number_from s) (omega arith)

  value : (i : ℕ) → (i < (bounds_of s).outputs) ⊎ ((bounds_of s).outputs ≤ i)
      → cond (ltb i (bounds_of s).outputs) (number_from part (2 * (1 + i))) 0 ≡ value_or_zero s r i
  value i (inl l) = simp (lt-ltb i (bounds_of s).outputs l) (column (1 + i) (omega arith))
  value i (inr l) = simp (le-ltb i (bounds_of s).outputs l)

  row_here : row_of part (bounds_of s).outputs ≡ row_at s r
  unfolding row_of row_at
  row_here = λ i. record { point = column 0 (omega arith) i; values = tabulate_cong 4 _ _ (λ k l. value k (lt_or_ge k (bounds_of s).outputs)) i }

  -- the row's own bytes, from its start to its end, are the row
  pub row_part : (start n : ℕ) → start ≡ header_length_of s → n ≡ (bounds_of s).outputs
      → row_of (take (start + 2 * (r * (1 + n)) + 2 * (1 + n) - (start + 2 * (r * (1 + n)))) (drop (start + 2 * (r * (1 + n))) s)) n ≡ row_at s r
  unfolding part
  row_part start n first e =
      let size : start + 2 * (r * (1 + n)) + 2 * (1 + n) - (start + 2 * (r * (1 + n))) ≡ 2 * (1 + n) = omega arith in
      rw (size, first, e) row_here
