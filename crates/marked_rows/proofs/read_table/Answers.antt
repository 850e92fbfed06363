use borrow.Author.Rules.{rules}
use Prim.Native.Nat.{ℕ, ◌+◌, ◌*◌, ◌/◌, ◌≤◌}
use mathlib.Core.List.{List}
use mathlib.Core.Path.{◌≡◌, refl, ap, ◌∙◌}
use native.Mathlib.Omega.{arith}
use lib.Dec.{ltb}
use borrow.Author.Tests.{lt-ltb, le-ltb}
use lib.ListN.{get_or}
use Rattle.lists.proofs.Filling.{filled_none, filled_more, filled_where, filled_up_to}
use Rattle.lists.specs.Counting.{count_below}
use Rattle.lists.proofs.Counting.{count_more}
use Rattle.header.specs.Header.{bounds_of}
use Rattle.rows.specs.Rows.{job_point}
use Rattle.rows.specs.Steps.{row_at}
use Rattle.marked_rows.specs.declared.RowConditions.{RowConditions}
use Rattle.marked_rows.specs.Marks.{mark_at, speaks, speaking_count}
use Rattle.marked_rows.specs.Table.{conditions_by, job_points, job_weights, job_values}
use Rattle.marked_rows.proofs.Filling.{fill_four}
use Rattle.marked_rows.proofs.Entries.{conditions-read, conditions_point, conditions_weight, conditions-speaking, conditions-values}
use Rattle.marked_rows.proofs.read_table.Goals as goal

point : (s : List ℕ) (r : ℕ) → (row_at s r).point ≡ job_point s r
unfolding row_at
point s r = refl

pub loop-r-init : goal.loop-r-init
unfolding count_below
loop-r-init c = (search rules, filled_none 32 _ _ refl, filled_none 32 _ _ refl, filled_none 128 _ _ refl, refl)

-- the rows that speak, with the one that is read
counted : (s : List ℕ) (r : ℕ) {count : ℕ} {x : RowConditions} → count ≡ count_below r (speaks s) → x ≡ conditions_by (mark_at s r) (row_at s r)
    → (count + x.speaking ≡ count_below (r + 1) (speaks s)) × (count + x.speaking ≤ r + 1)
counted s r before row = count_more _ _ before (ap (λ (x : RowConditions). x.speaking) row ∙ conditions-speaking (mark_at s r) (row_at s r))

pub loop-r-preserved : goal.loop-r-preserved
loop-r-preserved c =
    let s = c.args.job.now in
    let r = c.loop-r.r in
    let inv = c.loop-r.invariant in
    let pre = c.requires.from_header in
    let row = conditions-read s r c.row_at-read.ensures pre.3 pre.2 c.row_conditions-row.ensures in
    let next : r * 4 + 4 ≡ (r + 1) * 4 = omega arith in
    let mark = mark_at s r in (
      omega arith,
      filled_more inv.1 _ (omega arith) (ap (λ (x : RowConditions). x.point) row ∙ conditions_point mark (row_at s r) ∙ point s r),
      filled_more inv.2 _ (omega arith) (ap (λ (x : RowConditions). x.weight) row ∙ conditions_weight mark (row_at s r)),
      rw (← next) (fill_four inv.3 c.row_conditions-row.result.values (omega arith) (λ i l. ap (λ (x : RowConditions). get_or x.values i 0) row ∙ conditions-values s r i l)),
      (counted s r inv.4 row).0,
    )

pub overflow_add-speaking : goal.overflow_add-speaking
overflow_add-speaking c =
    let pre = c.requires.from_header in
    let row = conditions-read c.args.job.now c.loop-r.r c.row_at-read.ensures pre.3 pre.2 c.row_conditions-row.ensures in
    omega (arith, (counted c.args.job.now c.loop-r.r c.loop-r.invariant.4 row).1)

pub returns : goal.returns
unfolding job_points job_weights job_values speaking_count
returns c =
    let s = c.args.job.now in
    let e : c.loop-r.r ≡ (bounds_of s).rows = omega arith in (
      filled_up_to c.loop-r.invariant.1 _ e,
      filled_up_to c.loop-r.invariant.2 _ e,
      filled_where c.loop-r.invariant.3 (λ k. ltb (k / 4) (bounds_of s).rows) (λ k l. lt-ltb (k / 4) _ (omega arith)) (λ k l. le-ltb (k / 4) _ (omega arith)),
      rw (← e) c.loop-r.invariant.4,
    )
