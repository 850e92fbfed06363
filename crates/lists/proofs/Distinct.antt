-- Numbers of which no two are the same.
use mathlib.Core.List.{List}
use mathlib.Core.Logic.{⊎_elim}
use mathlib.Core.Path.{◌≡◌, refl, ap}
use Prim.Native.Nat.{ℕ, ◌+◌, ◌-◌, ◌≤◌, ◌<◌}
use native.Mathlib.Nat.{eq-or-lt_of_le}
use native.Mathlib.Omega.{arith}
use borrow.Author.Tests.{eq-eqb, ne_eqb}
use lib.Dec.{eqb}
use lib.ListN.{get_or}
use Rattle.lists.specs.Counting.{count_below}
use Rattle.lists.proofs.Counting.{count_two}
use Rattle.std.specs.Prelude.{None}
use Rattle.lists.specs.Search.{first_below, any_below, is_found, Distinct}
use Rattle.lists.proofs.FirstBelow.{none_below}

module _ (a : List ℕ) where
  -- each of the first n numbers is below all later ones of them
  abbrev pub Rising : ℕ → Type 0
  Rising n = (q r : ℕ) → q < r → r < n → get_or a q 0 < get_or a r 0

  pub rising_one : Rising 1
  rising_one q r l m = absurd (omega arith)

  pub rising_more : (n : ℕ) → 1 ≤ n → Rising n → get_or a (n - 1) 0 < get_or a n 0 → Rising (n + 1)
  rising_more n some rising above q r l m = ⊎_elim (λ e. rw e (last q (omega arith))) (λ lower. rising q r l lower) (eq-or-lt_of_le (omega arith))
    where
      last : (q : ℕ) → q < n → get_or a q 0 < get_or a n 0
      last q l = ⊎_elim (λ e. rw e above) (λ lower. let h = rising q (n - 1) lower (omega arith) in omega arith) (eq-or-lt_of_le (omega arith))

  pub rising_distinct : {n m : ℕ} → Rising n → m ≤ n → Distinct a m
  rising_distinct rising most q r l m e = let h = rising q r l (omega arith) in omega arith

  -- a number that stands once stands in no other place
  pub once_distinct : (n : ℕ) → n ≤ 32 → ((r : ℕ) → r < n → count_below 32 (λ k. eqb (get_or a k 0) (get_or a r 0)) ≡ 1) → Distinct a n
  once_distinct n most once q r l m e =
      let two = count_two (λ k. eqb (get_or a k 0) (get_or a r 0)) 32 q r l (omega arith) (eq-eqb _ _ e) (eq-eqb (get_or a r 0) (get_or a r 0) refl) in
      omega (arith, once r m)

  -- where no two are the same, no earlier row has the point of a later one
  pub none_repeated : {n : ℕ} → Distinct a n → first_below n (λ r. any_below r (λ q. eqb (get_or a q 0) (get_or a r 0))) ≡ None
  none_repeated distinct = none_below _ _ (λ r l. ap is_found (none_below _ _ (λ q m. ne_eqb _ _ (distinct q r m l))))
