-- The entries of the arrays that hold all rows.
use mathlib.Core.Bool.{Bool}
use mathlib.Core.List.{List}
use mathlib.Core.Path.{◌≡◌, refl, ap, ◌∙◌}
use Prim.Native.Nat.{ℕ, ◌+◌, ◌*◌, ◌/◌, ◌%◌, ◌<◌, ◌≤◌}
use native.Mathlib.Omega.{arith}
use borrow.Author.Tests.{lt-ltb}
use lib.ListN.{get_or, get_or-replicate}
use Rattle.std.specs.Prelude.{Option, Some, None}
use Rattle.lists.proofs.Tabulated.{at_tabulate}
use Rattle.lists.specs.Counting.{one_if}
use Rattle.header.specs.Header.{flags_of, marks_allowed, bounds_of}
use Rattle.header.proofs.Fields.{fits_fields}
use Rattle.rows.specs.declared.Row.{Row}
use Rattle.rows.specs.Rows.{job_point, job_value, value_or_zero}
use Rattle.rows.specs.Steps.{row_at}
use Rattle.marked_rows.specs.declared.Mark.{Mark}
use Rattle.marked_rows.specs.declared.Mark.TheVariants.{Pole, Silent}
use Rattle.marked_rows.specs.declared.RowConditions.{RowConditions}
use Rattle.marked_rows.specs.Marks.{mark_of, mark_at, speaking}
use Rattle.marked_rows.specs.Table.{weight_of, right_side_of, conditions_by, job_points, job_weights, job_values}
use Rattle.marked_rows.proofs.Marks.{mark_cong}

-- the fields of a row's conditions, by its mark
pub conditions_point : (m : Option Mark) (row : Row) → (conditions_by m row).point ≡ row.point
conditions_point None row = refl
conditions_point (Some Pole) row = refl
conditions_point (Some Silent) row = refl

pub conditions_weight : (m : Option Mark) (row : Row) → (conditions_by m row).weight ≡ weight_of m
conditions_weight None row = refl
conditions_weight (Some Pole) row = refl
conditions_weight (Some Silent) row = refl

pub conditions-speaking : (m : Option Mark) (row : Row) → (conditions_by m row).speaking ≡ one_if (speaking m)
conditions-speaking None row = refl
conditions-speaking (Some Pole) row = refl
conditions-speaking (Some Silent) row = refl

pub speaking_most : (m : Option Mark) (row : Row) → (conditions_by m row).speaking ≤ 1
speaking_most None row = omega arith
speaking_most (Some Pole) row = omega arith
speaking_most (Some Silent) row = omega arith

pub conditions-value : (m : Option Mark) (row : Row) (i : ℕ) → i < 4 → get_or (conditions_by m row).values i 0 ≡ right_side_of m (get_or row.values i 0)
conditions-value None row i l = refl
conditions-value (Some Pole) row i l = get_or-replicate 4 i 1 0 l
conditions-value (Some Silent) row i l = get_or-replicate 4 i 0 0 l

module _ (s : List ℕ) where
  -- row r as it is read has the mark of the definition
  pub mark_read : (r : ℕ) → mark_of (marks_allowed (flags_of s)) (bounds_of s).outputs (λ i. get_or (row_at s r).values i 0) ≡ mark_at s r
  unfolding row_at
  mark_read r =
      let h = fits_fields s in
      mark_cong _ (bounds_of s).outputs _ _ (λ i l. at_tabulate 4 (value_or_zero s r) i (omega arith) ∙ simp (lt-ltb i (bounds_of s).outputs l))

  -- and has the conditions of it
  pub conditions-read : (r : ℕ) {row : Row} {marks : Bool} {n : ℕ} {x : RowConditions} → row ≡ row_at s r → marks ≡ marks_allowed (flags_of s) → n ≡ (bounds_of s).outputs
      → x ≡ conditions_by (mark_of marks n (λ i. get_or row.values i 0)) row → x ≡ conditions_by (mark_at s r) (row_at s r)
  conditions-read r read allowed outputs h = h ∙ rw (read, allowed, outputs, mark_read r) refl

  -- its values, by their places among the values of all rows
  pub conditions-values : (r i : ℕ) → i < 4
      → get_or (conditions_by (mark_at s r) (row_at s r)).values i 0 ≡ right_side_of (mark_at s ((r * 4 + i) / 4)) (value_or_zero s ((r * 4 + i) / 4) ((r * 4 + i) % 4))
  unfolding row_at
  conditions-values r i l =
      let row : (r * 4 + i) / 4 ≡ r = omega arith in
      let column : (r * 4 + i) % 4 ≡ i = omega arith in
      conditions-value (mark_at s r) (row_at s r) i l ∙ ap (right_side_of (mark_at s r)) (at_tabulate 4 (value_or_zero s r) i l) ∙ rw (row, column) refl

  -- row r's point and weight stand at r
  pub points_at : (r : ℕ) → r < (bounds_of s).rows → get_or (job_points s) r 0 ≡ job_point s r
  unfolding job_points
  points_at r l =
      let h = fits_fields s in
      at_tabulate 32 _ r (omega arith) ∙ simp (lt-ltb r (bounds_of s).rows l)

  pub weights_at : (r : ℕ) → r < (bounds_of s).rows → get_or (job_weights s) r 0 ≡ weight_of (mark_at s r)
  unfolding job_weights
  weights_at r l =
      let h = fits_fields s in
      at_tabulate 32 _ r (omega arith) ∙ simp (lt-ltb r (bounds_of s).rows l)

  -- its value for output i at 4 r + i
  pub values_at : (r i : ℕ) → r < (bounds_of s).rows → i < (bounds_of s).outputs → get_or (job_values s) (r * 4 + i) 0 ≡ right_side_of (mark_at s r) (job_value s r i)
  unfolding job_values
  values_at r i l m =
      let h = fits_fields s in
      let row : (r * 4 + i) / 4 ≡ r = omega arith in
      let column : (r * 4 + i) % 4 ≡ i = omega arith in
      at_tabulate 128 _ (r * 4 + i) (omega arith)
      ∙ rw (row, column, lt-ltb r (bounds_of s).rows l, lt-ltb i (bounds_of s).outputs m) refl
