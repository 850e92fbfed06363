-- A test of each number below a bound, one after the other.
use mathlib.Core.Bool.{Bool, true, false, ◌||◌}
use mathlib.Core.Path.{◌≡◌, refl, sym, ap, ◌∙◌}
use Prim.Native.Nat.{ℕ, zero, suc, ◌≤◌}
use native.Mathlib.Nat.{zero-add}
use native.Mathlib.Numerals.{add-one}
use native.Mathlib.Omega.{arith}
use lib.ListN.{get_or, take}
use Rattle.std.specs.Prelude.{Option, Some, None}
use Rattle.std.specs.List.{list_any, range_with_len}
use Rattle.std.proofs.lemmas.List.{take_all}
use Rattle.std.proofs.lemmas.List.Folds.{list_any_more}
use Rattle.std.proofs.lemmas.List.FromFn.{length-range_with_len, get_or-range_with_len}
use Rattle.lists.specs.Search.{first_below, any_below, or_else, if_holds, is_found}

found_or : (f : Option ℕ) (b : Bool) (n : ℕ) → (is_found f || b) ≡ is_found (or_else f (if_holds b n))
found_or (Some i) b n = refl
found_or None true n = refl
found_or None false n = refl

module _ (test : ℕ → Bool) (n : ℕ) where
  any_taken : (i : ℕ) → i ≤ n → list_any test (take i (range_with_len 0 n)) ≡ any_below i test
  unfolding first_below
  any_taken zero l = refl
  any_taken (suc i) l =
      let here : get_or (range_with_len 0 n) i 0 ≡ i = get_or-range_with_len 0 n i 0 (omega arith) ∙ zero-add i in
      let long = length-range_with_len 0 n in
      rw (← add-one) (list_any_more test (range_with_len 0 n) i 0 (omega arith))
      ∙ ap (λ k. list_any test (take i (range_with_len 0 n)) || test k) here
      ∙ ap (λ b. b || test i) (any_taken i (omega arith))
      ∙ found_or (first_below i test) (test i) i

  -- as the library tests them
  pub any_listed : list_any test (range_with_len 0 n) ≡ any_below n test
  any_listed =
      let long = length-range_with_len 0 n in
      ap (list_any test) (sym (take_all n (range_with_len 0 n) (omega arith))) ∙ any_taken n (omega arith)
