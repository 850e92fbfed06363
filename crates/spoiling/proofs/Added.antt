-- Laws of what the spoilings add to the rows.
use Rattle.std.proofs.Common.{◌≡◌, ℕ, Option, zero, suc, ◌+◌, ◌-◌, ◌*◌, ◌%◌, ◌^◌, ◌<◌, ◌≤◌, Bool, true, false, cond, not, eqb, get_or, refl, ap, ◌∙◌, mod-lt, arith, eq-eqb, ne_eqb, eqb-true}
use native.Mathlib.Nat.{mod-le}
use borrow.Author.Tests.{not-false}
use Rattle.lists.specs.Tabulated.{tabulate}
use Rattle.lists.proofs.Tabulated.{at_tabulate_all}
use Rattle.lists.proofs.Truth.{clash}
use Rattle.lists.proofs.FirstBelow.{first_cong}
use Rattle.spoiling.specs.Draws.{drawn, top_bits}
use Rattle.spoiling.specs.Spoiling.{number_in, untaken_from, chosen_row, amount_of, added_by, spoiled_by}

pub chosen_row_below : (L : ℕ) (added : ℕ → ℕ) (word : ℕ) → 0 < L → chosen_row L added word < L
unfolding chosen_row untaken_from
chosen_row_below L added word h = mod-lt _ h

-- additions that agree on the L rows choose the same row
pub chosen_row_cong : (L : ℕ) (a b : ℕ → ℕ) (word : ℕ) → 0 < L → ((r : ℕ) → r < L → a r ≡ b r) → chosen_row L a word ≡ chosen_row L b word
unfolding chosen_row untaken_from
chosen_row_cong L a b word h same =
    let d = top_bits word % L in
    let row : (k : ℕ) → a ((d + k) % L) ≡ b ((d + k) % L) = λ k. same ((d + k) % L) (mod-lt (d + k) h) in
    ap (λ (f : Option ℕ). (d + number_in f) % L) (first_cong L _ _ (λ k l. ap (λ (x : ℕ). not (not (eqb x 0))) (row k)))

pub amount_below : (p word : ℕ) → 1 < p → amount_of p word < p
amount_below p word h = let l : top_bits word % (p - 1) < p - 1 = mod-lt (top_bits word) (omega arith) in omega arith

pub amount_positive : (p word : ℕ) → 0 < amount_of p word
amount_positive p word = omega arith

-- a number of 16 bits reduced, and a small number
pub amount-fits : (top m k : ℕ) → top < 65536 → k < 65536 → top % m + k < 2 ^ 32
amount-fits top m k h l = omega (arith, mod-le top m)

module _ (p L start : ℕ) where
  -- one spoiling more: the row that it chooses, and any other
  pub added_chosen : (j r : ℕ) → r ≡ chosen_row L (added_by p L start j) (drawn start (2 * j + 1))
      → added_by p L start (suc j) r ≡ amount_of p (drawn start (2 * j + 2))
  unfolding added_by
  added_chosen j r e = rw (eq-eqb r (chosen_row L (added_by p L start j) (drawn start (2 * j + 1))) e)

  pub added_other : (j r : ℕ) → (r ≡ chosen_row L (added_by p L start j) (drawn start (2 * j + 1)) → ⊥)
      → added_by p L start (suc j) r ≡ added_by p L start j r
  unfolding added_by
  added_other j r e = rw (ne_eqb r (chosen_row L (added_by p L start j) (drawn start (2 * j + 1))) e)

  -- what is added is a residue
  pub added_below : (w r : ℕ) → 1 < p → added_by p L start w r < p
  unfolding added_by
  added_below zero r h = omega arith
  added_below (suc w) r h =
      by (eqb r (chosen_row L (added_by p L start w) (drawn start (2 * w + 1)))) (added_below w r h)
    where
      by : (b : Bool) → added_by p L start w r < p → cond b (amount_of p (drawn start (2 * w + 2))) (added_by p L start w r) < p
      by true l = amount_below p (drawn start (2 * w + 2)) h
      by false l = l

  -- no row that does not exist is spoiled
  pub added_past : (w r : ℕ) → 0 < L → L ≤ r → added_by p L start w r ≡ 0
  unfolding added_by
  added_past zero r h l = refl
  added_past (suc w) r h l =
      let below = chosen_row_below L (added_by p L start w) (drawn start (2 * w + 1)) h in
      added_other w r (λ e. omega arith) ∙ added_past w r h l

  -- the list that `spoilings` answers with, at any row
  pub added_at : (w : ℕ) → 0 < L → L ≤ 32 → (r : ℕ) → get_or (tabulate 32 (added_by p L start w)) r 0 ≡ added_by p L start w r
  added_at w some few r = at_tabulate_all 32 (added_by p L start w) (λ k l. added_past w k some (omega arith)) r

  -- from 1 to p - 1 is added to a spoiled row, 0 to any other
  pub spoiled_positive : (w r : ℕ) → spoiled_by p L start w r ≡ true → 0 < added_by p L start w r
  spoiled_positive w r e = by (added_by p L start w r) e
    where
      by : (x : ℕ) → not (eqb x 0) ≡ true → 0 < x
      by zero e = clash (cc)
      by (suc x) e = omega arith

  pub unspoiled_zero : (w r : ℕ) → spoiled_by p L start w r ≡ false → added_by p L start w r ≡ 0
  unspoiled_zero w r e = eqb-true _ _ (not-false _ e)
