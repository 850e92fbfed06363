-- When a row is marked, and with what.
use mathlib.Core.Bool.{Bool, true, false, not, ◌&&◌}
use mathlib.Core.List.{List}
use mathlib.Core.Path.{◌≡◌, refl, ap, ◌∙◌}
use Prim.Native.Nat.{ℕ, zero, suc, ◌≤◌, ◌<◌}
use native.Mathlib.Numerals.{add-one}
use native.Mathlib.Omega.{arith}
use borrow.Author.Tests.{eqb-true, not-true, not-false}
use lib.Dec.{eqb}
use lib.ListN.{get_or, length, take}
use Rattle.std.specs.Prelude.{Option, Some, None}
use Rattle.std.specs.List.{list_all}
use Rattle.std.proofs.lemmas.List.Folds.{list_all_more}
use Rattle.lists.proofs.Truth.{never_true}
use Rattle.lists.specs.Search.{first_below, or_else, if_holds, is_found}
use Rattle.lists.proofs.FirstBelow.{any_passes, first_cong}
use Rattle.marked_rows.specs.declared.Mark.TheVariants.{Silent}
use Rattle.marked_rows.specs.Marks.{all_are, mark_of}

module _ (allowed : Bool) (n : ℕ) (y : ℕ → ℕ) where
  pub silent_if : allowed ≡ true → all_are n y 65535 ≡ false → all_are n y 65534 ≡ true → mark_of allowed n y ≡ Some Silent
  unfolding mark_of
  silent_if a other e = rw (a, other, e) refl

  pub none_if : all_are n y 65535 ≡ false → all_are n y 65534 ≡ false → mark_of allowed n y ≡ None
  unfolding mark_of
  none_if other other' = by allowed
    where
      by : (a : Bool) → mark_of a n y ≡ None
      by true = rw (other, other') refl
      by false = refl

  -- "Without the flag 01's reading holds"
  pub unmarked_if_not_allowed : allowed ≡ false → mark_of allowed n y ≡ None
  unfolding mark_of
  unmarked_if_not_allowed a = rw a refl

not-found-or : (f : Option ℕ) (b : Bool) (n : ℕ) → (not (is_found f) && b) ≡ not (is_found (or_else f (if_holds (not b) n)))
not-found-or (Some i) b n = refl
not-found-or None true n = refl
not-found-or None false n = refl

-- the first n of these values are all m
pub all_taken : (y : List ℕ) (m n : ℕ) → n ≤ length y → list_all (λ v. eqb v m) (take n y) ≡ all_are n (λ i. get_or y i 0) m
unfolding first_below
all_taken y m zero l = refl
all_taken y m (suc n) l =
    let test : ℕ → Bool = λ i. not (eqb (get_or y i 0) m) in
    rw (← add-one) (list_all_more (λ v. eqb v m) y n 0 (omega arith))
    ∙ ap (λ b. b && eqb (get_or y n 0) m) (all_taken y m n (omega arith))
    ∙ not-found-or (first_below n test) (eqb (get_or y n 0) m) n

-- the n values are all m
pub all_says : (n : ℕ) (y : ℕ → ℕ) (m : ℕ) → all_are n y m ≡ true → (i : ℕ) → i < n → y i ≡ m
all_says n y m e i l = eqb-true _ _ (not-false _ (any_passes (λ k. not (eqb (y k) m)) n (not-true _ e) i l))

-- a value that is no mark: so the row is not marked
pub unmarked_if_small : (allowed : Bool) (n : ℕ) (y : ℕ → ℕ) (i : ℕ) → i < n → y i < 65534 → mark_of allowed n y ≡ None
unmarked_if_small allowed n y i l small =
    none_if allowed n y (never_true _ (λ e. let h = all_says n y 65535 e i l in omega arith)) (never_true _ (λ e. let h = all_says n y 65534 e i l in omega arith))

-- the mark depends on the values of the n outputs alone
all_cong : (n : ℕ) (y z : ℕ → ℕ) (m : ℕ) → ((i : ℕ) → i < n → y i ≡ z i) → all_are n y m ≡ all_are n z m
all_cong n y z m same = ap (λ f. not (is_found f)) (first_cong n _ _ (λ i l. ap (λ v. not (eqb v m)) (same i l)))

pub mark_cong : (allowed : Bool) (n : ℕ) (y z : ℕ → ℕ) → ((i : ℕ) → i < n → y i ≡ z i) → mark_of allowed n y ≡ mark_of allowed n z
unfolding mark_of
mark_cong allowed n y z same = rw (all_cong n y z 65535 same, all_cong n y z 65534 same) refl
