-- The true degree from above, and coefficients and outputs one by one.
use Prim.Native.Nat.{ℕ, zero, suc, ◌+◌, ◌-◌, ◌*◌, ◌≤◌, ◌<◌}
use mathlib.Core.Path.{◌≡◌, ap}
use mathlib.Core.Bool.{Bool, true, false, cond}
use mathlib.Core.List.{List, ◌++◌}
use native.Mathlib.Numerals.{add-one}
use native.Mathlib.Omega.{arith}
use lib.Dec.{eqb}
use borrow.Author.Tests.{eq-eqb, ne_eqb}
use Rattle.format.specs.declared.Bounds.{Bounds}
use Rattle.format.specs.Bounds.{numerator_bound_of}
use Rattle.format.proofs.Sizes.{count_next}
use Rattle.answer.specs.Bytes.{numerator_start}
use Rattle.text.specs.Decimal.{item_of}
use Rattle.text.specs.Lines.{degree_within, items_below, output_line_from, output_lines}

module _ (c : ℕ → ℕ) where
  pub degree_here : (d : ℕ) → 0 < d → (c d ≡ 0 → ⊥) → degree_within c d ≡ d
  unfolding degree_within
  degree_here zero some top = absurd (omega arith)
  degree_here (suc d) some top = rw (ne_eqb (c (suc d)) 0 top)

  pub degree_lower : (d : ℕ) → 0 < d → c d ≡ 0 → degree_within c d ≡ degree_within c (d - 1)
  unfolding degree_within
  degree_lower zero some top = absurd (omega arith)
  degree_lower (suc d) some top = let e : suc d - 1 ≡ d = omega arith in rw (eq-eqb (c (suc d)) 0 top, e)

  pub degree-low : (d : ℕ) → degree_within c d ≤ d
  unfolding degree_within
  degree-low zero = omega arith
  degree-low (suc d) = by_test (eqb (c (suc d)) 0) (degree-low d)
    where
      by_test : (test : Bool) → degree_within c d ≤ d → cond test (degree_within c d) (suc d) ≤ suc d
      by_test true low = omega arith
      by_test false low = omega arith

  pub next_item : (count : ℕ) → items_below c (count + 1) ≡ items_below c count ++ item_of (c count)
  unfolding items_below
  next_item count = rw add-one

-- one output more
module _ (b : Bounds) (i : ℕ) where
  pub next_start : numerator_start b (i + 1) ≡ numerator_start b i + 2 * (numerator_bound_of b i + 1)
  next_start = omega (arith, count_next b i)

  pub next_line : (s : List ℕ) → output_lines b s (i + 1) ≡ output_lines b s i ++ output_line_from s i (numerator_start b i) (numerator_bound_of b i)
  unfolding output_lines
  next_line s = ap (output_lines b s) (add-one i)
