-- Test 5 on rows as they are read, and by their marks.
use mathlib.Core.Bool.{Bool, true, false, ◌&&◌, ◌||◌}
use mathlib.Core.List.{List}
use mathlib.Core.Path.{◌≡◌, refl, sym, ap, ap₂, ◌∙◌}
use Prim.Native.Nat.{ℕ, ◌<◌, ◌≤◌}
use native.Mathlib.Omega.{arith}
use borrow.Author.Tests.{leb-false, lt-leb, lt-ltb, le-ltb}
use lib.Dec.{leb}
use lib.ListN.{get_or}
use Rattle.field.specs.Primes.{modulus_of}
use Rattle.field.proofs.Moduli.{modulus_prime, modulus_positive}
use Rattle.header.specs.declared.Header.{Header}
use Rattle.header.specs.Header.{header_of, flags_of, marks_allowed, bounds_of}
use Rattle.header.proofs.Fields.{fits_fields}
use Rattle.job.specs.Refusals.{out_of_range}
use Rattle.job.proofs.ArrayTests.{values_in_table}
use Rattle.lists.specs.Counting.{one_if}
use Rattle.lists.proofs.Truth.{or-false}
use Rattle.lists.proofs.Tabulated.{at_tabulate}
use Rattle.std.specs.Prelude.{cond, Option, Some, None}
use Rattle.lists.specs.Search.{if_holds, or_else, first_below, any_below, is_found}
use Rattle.lists.proofs.FirstBelow.{any_passes, first_cong, first_shorter, at_not_nothing}
use Rattle.rows.specs.declared.Row.{Row}
use Rattle.rows.specs.Rows.{job_point, job_value, value_or_zero}
use Rattle.rows.specs.Steps.{row_at}
use Rattle.marked_rows.specs.declared.RowConditions.{RowConditions}
use Rattle.marked_rows.specs.Marks.{mark_of, mark_at, is_unmarked, speaks}
use Rattle.marked_rows.specs.Table.{conditions_by}
use Rattle.marked_rows.proofs.Marks.{unmarked_if_not_allowed, unmarked_if_small}
use Rattle.marked_rows.proofs.Entries.{conditions_point, conditions-value, conditions-read, conditions-speaking}
use Rattle.form_check.specs.Steps.{row_form_of}

-- four tests after another one, in a row
any_of : (a b c d e : Bool)
    → ((((a || b) || c) || d) || e) ≡ (a || is_found (or_else (or_else (or_else (or_else None (if_holds b 0)) (if_holds c 1)) (if_holds d 2)) (if_holds e 3)))
any_of true b c d e = refl
any_of false true c d e = refl
any_of false false true d e = refl
any_of false false false true e = refl
any_of false false false false true = refl
any_of false false false false false = refl

pub any_of_four : (a : Bool) (t : ℕ → Bool) → ((((a || t 0) || t 1) || t 2) || t 3) ≡ (a || any_below 4 t)
unfolding first_below
any_of_four a t = any_of a (t 0) (t 1) (t 2) (t 3)

-- a row's point, as it is read
pub row_point : (s : List ℕ) (r : ℕ) → (row_at s r).point ≡ job_point s r
unfolding row_at
row_point s r = refl

module _ (s : List ℕ) (r : ℕ) where
  abbrev p : ℕ
  p = modulus_of (bounds_of s).prime

  abbrev n : ℕ
  n = (bounds_of s).outputs

  -- the test of a value that exists, and of one that does not
  value : (i : ℕ) → i < n → leb p (get_or (row_at s r).values i 0) ≡ leb p (job_value s r i)
  unfolding row_at
  value i l = ap (leb p) (at_tabulate 4 (value_or_zero s r) i (let h = fits_fields s in omega arith) ∙ simp (lt-ltb i n l))

  no_value : (i : ℕ) → n ≤ i → i < 4 → leb p (get_or (row_at s r).values i 0) ≡ false
  unfolding row_at
  no_value i l m = ap (leb p) (at_tabulate 4 (value_or_zero s r) i m ∙ simp (le-ltb i n l)) ∙ lt-leb p 0 (modulus_positive (bounds_of s).prime)

  values : any_below 4 (λ i. leb p (get_or (row_at s r).values i 0)) ≡ any_below n (λ i. leb p (job_value s r i))
  values =
      ap is_found (first_shorter (λ i. leb p (get_or (row_at s r).values i 0)) 4 n (fits_fields s).outputs_most no_value ∙ first_cong n _ _ value)

  -- a row by its mark
  pub settled_test : {q : ℕ} {row : RowConditions} → q ≡ p → row ≡ conditions_by (mark_at s r) (row_at s r)
      → (leb q row.point || any_below 4 (λ i. leb q (get_or row.values i 0))) ≡ out_of_range s r
  settled_test modulus settled =
      let m = mark_at s r in
      ap₂ (λ q (x : RowConditions). leb q x.point || any_below 4 (λ i. leb q (get_or x.values i 0))) modulus settled
      ∙ ap₂ ◌||◌ (ap (leb p) (conditions_point m (row_at s r) ∙ row_point s r))
      (ap is_found (first_cong 4 _ _ (λ i l. ap (leb p) (conditions-value m (row_at s r) i l)))
      ∙ values_in_table m p 4 (λ i. get_or (row_at s r).values i 0) (modulus_prime (bounds_of s).prime).two
      ∙ ap (λ b. is_unmarked m && b) values)

-- where marks are not allowed
module _ (s : List ℕ) (without : marks_allowed (flags_of s) ≡ false) where
  unmarked : (r : ℕ) → mark_at s r ≡ None
  unmarked r = unmarked_if_not_allowed _ _ (job_value s r) without

  -- a row as it is read
  pub row_test : (r : ℕ) {q : ℕ} {row : Row} → q ≡ modulus_of (bounds_of s).prime → row ≡ row_at s r
      → (leb q row.point || any_below 4 (λ i. leb q (get_or row.values i 0))) ≡ out_of_range s r
  row_test r {row = row} modulus read = settled_test s r {row = conditions_by None row} modulus (ap₂ conditions_by (sym (unmarked r)) read)

-- what a pass makes of row r that it has read: whether test 5 refuses it, and how many rows it adds to those that speak
module _ (s : List ℕ) (r : ℕ) where
  pub form_says : {h : Header} {row : Row} {marks : Bool} {q : ℕ} {x : Option ℕ} → h ≡ header_of s → row ≡ row_at s r → marks ≡ marks_allowed h.flags → q ≡ modulus_of h.bounds.prime
      → x ≡ row_form_of q (conditions_by (mark_of marks h.bounds.outputs (λ i. get_or row.values i 0)) row)
      → x ≡ cond (out_of_range s r) None (Some (one_if (speaks s r)))
  form_says read row allowed prime h =
      let settled = conditions-read s r row (allowed ∙ ap (λ (x : Header). marks_allowed x.flags) read) (ap (λ (x : Header). x.bounds.outputs) read) refl in
      let modulus = prime ∙ ap (λ (x : Header). modulus_of x.bounds.prime) read in
      h ∙ ap₂ (λ (b : Bool) (n : ℕ). cond b None (Some n)) (settled_test s r modulus settled)
      (ap (λ (x : RowConditions). x.speaking) settled ∙ conditions-speaking (mark_at s r) (row_at s r))

pub none_refused : (x : Option ℕ) (t : Bool) (n : ℕ) → ((m : ℕ) → x ≡ Some m → ⊥) → x ≡ cond t None (Some n) → t ≡ true
none_refused x true n other e = refl
none_refused x false n other e = absurd (other _ e)

pub some_passes : (t : Bool) {m : ℕ} (n : ℕ) → Some m ≡ cond t None (Some n) → (t ≡ false) × (m ≡ n)
some_passes true n e = absurd (at_not_nothing e)
some_passes false n e = (refl, cc)

-- A row whose numbers are all below p has no mark, since both marks are above p: so what its numbers say is what it says by its mark.
module _ (row : Row) (n p : ℕ) where
  abbrev test : Bool
  test = leb p row.point || any_below 4 (λ i. leb p (get_or row.values i 0))

  pub unmarked_form : (marks : Bool) → 1 ≤ n → p < 65534 → test ≡ false → Some 1 ≡ row_form_of p (conditions_by (mark_of marks n (λ i. get_or row.values i 0)) row)
  unmarked_form marks some low e =
      let y : ℕ → ℕ = λ i. get_or row.values i 0 in
      let below : y 0 < p = leb-false p (y 0) (any_passes (λ i. leb p (y i)) 4 (or-false (leb p row.point) _ e).1 0 (omega arith)) in
      let none : mark_of marks n y ≡ None = unmarked_if_small marks n y 0 (omega arith) (omega arith) in
      rw (none, e) refl

  -- and where marks are not allowed no row has one
  pub refused_form : test ≡ true → None ≡ row_form_of p (conditions_by (mark_of false n (λ i. get_or row.values i 0)) row)
  refused_form e = rw (unmarked_if_not_allowed false n (λ i. get_or row.values i 0) refl, e) refl

  -- where they are, a row that is settled by its mark and passes test 5 is what the definition has
  pub marked_form : {allowed : Bool} {x : RowConditions} {t : Bool} → allowed ≡ true → x ≡ conditions_by (mark_of true n (λ i. get_or row.values i 0)) row
      → t ≡ (leb p x.point || any_below 4 (λ i. leb p (get_or x.values i 0))) → t ≡ false
      → Some x.speaking ≡ row_form_of p (conditions_by (mark_of allowed n (λ i. get_or row.values i 0)) row)
  marked_form allowed settled e passed = rw (allowed, ← settled, ← e, passed) refl
