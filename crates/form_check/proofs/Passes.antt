-- What the pass over the rows of a job keeps, and what it says where it ends.
use mathlib.Core.Bool.{true, false}
use mathlib.Core.List.{List}
use mathlib.Core.Path.{◌≡◌, refl, sym, ap, ap₂, ◌∙◌}
use Prim.Native.Nat.{ℕ, ◌+◌, ◌<◌}
use native.Mathlib.Omega.{arith}
use lib.ListN.{length, get_or, set}
use Rattle.std.specs.Prelude.{Option, Result, Ok, Err}
use Rattle.std.specs.Result.{result_err, result_unwrap_or}
use Rattle.format.specs.declared.Refusal.{Refusal}
use Rattle.lists.specs.Counting.{one_if, count_below}
use Rattle.lists.proofs.Counting.{count_step}
use Rattle.lists.proofs.Filling.{Filled, filled_from, filled_more}
use Rattle.lists.proofs.FirstBelow.{Searching, search_start, search_next, search_found, search_end, at_not_nothing}
use Rattle.header.specs.Header.{header_of, bounds_of, rows_needed_of}
use Rattle.header.proofs.Fields.{fits_fields}
use Rattle.rows.specs.Rows.{job_point}
use Rattle.marked_rows.specs.Marks.{speaks, speaking_count}
use Rattle.job.specs.Refusals.{out_of_range, row_tests}
use Rattle.job.specs.Form.{table_outcome_of}
use Rattle.job.proofs.ArrayTests.{table-outcome}
use Rattle.form_check.specs.Steps.{Scanned}

-- before row r test 5 refuses no row, the points so far are stored, and so many rows speak
pub record Passing (s : List ℕ) (g : ℕ → ℕ) (r : ℕ) (points : List ℕ) (speaking : ℕ) : Type 0 where
  pub searching : Searching (out_of_range s) (bounds_of s).rows r
  pub stored : Filled 32 (job_point s) g r points
  pub counted : speaking ≡ count_below r (speaks s)

pub pass_start : {s : List ℕ} {points : List ℕ} → length points ≡ 32 → Passing s (λ k. get_or points k 0) 0 points 0
unfolding count_below
pass_start size = record { searching = search_start _ _; stored = filled_from 32 _ 0 _ size (λ j l. absurd (omega arith)); counted = refl }

module _ {s : List ℕ} {g : ℕ → ℕ} {r : ℕ} {points : List ℕ} {speaking : ℕ} (P : Passing s g r points speaking) where
  -- the count as far as the row at hand
  pub pass_counts : {adds : ℕ} → adds ≡ one_if (speaks s r) → speaking + adds ≡ count_below (r + 1) (speaks s)
  pass_counts e = ap₂ ◌+◌ P.counted e ∙ sym (count_step r (speaks s))

  pub pass_next : {point next : ℕ} → r < (bounds_of s).rows → out_of_range s r ≡ false → point ≡ job_point s r → next ≡ count_below (r + 1) (speaks s)
      → Passing s g (r + 1) (set points r point) next
  pass_next l passed point counted = record {
    searching = search_next _ P.searching l passed;
    stored = filled_more P.stored _ (let n = fits_fields s in omega arith) point;
    counted = counted;
  }

  -- the row at hand is refused
  pub pass_refused : (after : List ℕ) → r < (bounds_of s).rows → out_of_range s r ≡ true → Scanned s (Err r) after
  pass_refused after l refused = record { found = search_found _ P.searching l refused; points-read = tt; speaking = tt }

  -- no row is
  pub pass_ended : r ≡ (bounds_of s).rows → Scanned s (Ok speaking) points
  unfolding speaking_count
  pass_ended end = record {
    found = search_end _ P.searching (omega arith);
    points-read = λ q l. P.stored.done q (omega arith);
    speaking = P.counted ∙ ap (λ n. count_below n (speaks s)) end;
  }

-- what it found decides as the bytes do
pub scanned_decides : (s : List ℕ) (x : Result ℕ ℕ) {points : List ℕ} {rows needed speaking : ℕ} {found : Option ℕ} {o : Result (Unit {0}) Refusal} → Scanned s x points
    → rows ≡ (bounds_of s).rows → needed ≡ rows_needed_of (header_of s) → found ≡ result_err x → speaking ≡ result_unwrap_or x 0
    → o ≡ table_outcome_of rows needed found speaking points → o ≡ row_tests s (Ok tt)
scanned_decides s (Ok n) {points} scanned rows needed found speaking e =
    table-outcome s _ points rows needed (found ∙ scanned.found) (λ none. speaking ∙ scanned.speaking) (λ none. scanned.points-read) e
scanned_decides s (Err row) {points} scanned rows needed found speaking e =
    table-outcome s _ points rows needed (found ∙ scanned.found) (λ none. absurd (at_not_nothing (sym found ∙ none))) (λ none. absurd (at_not_nothing (sym found ∙ none))) e
