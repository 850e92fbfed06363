-- "spoil w different rows": as long as rows are left, each spoiling chooses a row that no earlier one has spoiled.
use Rattle.std.proofs.Common.{◌≡◌, ℕ, Option, Some, None, zero, suc, ◌+◌, ◌-◌, ◌*◌, ◌%◌, ◌<◌, ◌≤◌, Bool, true, false, not, eqb, sym, refl, ap, ◌∙◌, mod-lt, mod-eq_of_lt, arith, ne_eqb, eqb-true}
use native.Mathlib.Nat.{add-mod-mod, add-mod_right}
use borrow.Author.Tests.{not-true, not-false}
use Rattle.lists.specs.Search.{first_below}
use Rattle.lists.proofs.FirstBelow.{none_passes, found_passes}
use Rattle.lists.specs.Counting.{one_if, count_below}
use Rattle.lists.proofs.Counting.{count_change, count_all}
use Rattle.spoiling.specs.Draws.{drawn, top_bits}
use Rattle.spoiling.specs.Spoiling.{number_in, untaken_from, chosen_row, amount_of, added_by, spoiled_by}
use Rattle.spoiling.proofs.Added.{chosen_row_below, added_chosen, added_other, amount_positive}

-- none passes
count_none : (n : ℕ) → count_below n (λ i. false) ≡ 0
unfolding count_below
count_none zero = refl
count_none (suc n) = omega (arith, count_none n)

-- from row d every row is reached
reached : (L d i : ℕ) → d < L → i < L → (d + (i + (L - d)) % L) % L ≡ i
reached L d i hd hi =
    let round : d + (i + (L - d)) ≡ i + L = omega arith in
    add-mod-mod d (i + (L - d)) L ∙ ap (λ x. x % L) round ∙ add-mod_right i L ∙ mod-eq_of_lt hi

-- where a row is not taken, the search finds one
untaken : (L : ℕ) (taken : ℕ → Bool) (d : ℕ) → d < L → count_below L taken < L → taken (untaken_from L taken d) ≡ false
unfolding untaken_from
untaken L taken d h few = by (first_below L (λ k. not (taken ((d + k) % L)))) refl
  where
    by : (f : Option ℕ) → first_below L (λ k. not (taken ((d + k) % L))) ≡ f → taken ((d + number_in f) % L) ≡ false
    by (Some k) e = not-true _ (found_passes (λ k. not (taken ((d + k) % L))) L k e)
    by None e =
        let turned : (i : ℕ) → i < L → taken ((d + (i + (L - d)) % L) % L) ≡ true =
        λ i l. not-false _ (none_passes (λ k. not (taken ((d + k) % L))) L e ((i + (L - d)) % L) (mod-lt _ (omega arith))) in
        let full = count_all L taken (λ i l. ap taken (sym (reached L d i h l)) ∙ turned i l) in
        absurd (omega arith)

-- the row that a draw chooses was not spoiled before
pub chosen_unspoiled : (L : ℕ) (added : ℕ → ℕ) (word : ℕ) → count_below L (λ r. not (eqb (added r) 0)) < L → added (chosen_row L added word) ≡ 0
unfolding chosen_row
chosen_unspoiled L added word few =
    eqb-true _ _ (not-false _ (untaken L (λ r. not (eqb (added r) 0)) (top_bits word % L) (mod-lt (top_bits word) (omega arith)) few))

module _ (p L start : ℕ) where
  count_next : (w : ℕ) → w < L → count_below L (spoiled_by p L start w) ≡ w → count_below L (spoiled_by p L start (suc w)) ≡ suc w
  count_next w h counted =
      let word = drawn start (2 * w + 1) in
      let next = drawn start (2 * w + 2) in
      let row = chosen_row L (added_by p L start w) word in
      let free : added_by p L start w row ≡ 0 = chosen_unspoiled L (added_by p L start w) word (omega arith) in
      let amount : eqb (amount_of p next) 0 ≡ false = ne_eqb (amount_of p next) 0 (λ e. let l = amount_positive p next in omega arith) in
      let more =
      count_change (spoiled_by p L start (suc w)) (spoiled_by p L start w) L row (chosen_row_below L (added_by p L start w) word (omega arith))
      (λ r l other. ap (λ (x : ℕ). not (eqb x 0)) (added_other p L start w r other)) (ap (λ (x : ℕ). not (eqb x 0)) free) in
      let here = ap one_if (ap (λ (x : ℕ). not (eqb x 0)) (added_chosen p L start w row refl) ∙ ap not amount) in
      omega arith

  -- w spoilings spoil exactly w of the L rows
  pub spoiled_count : (w : ℕ) → w ≤ L → count_below L (spoiled_by p L start w) ≡ w
  unfolding added_by
  spoiled_count zero h = count_none L
  spoiled_count (suc w) h = count_next w h (spoiled_count w (omega arith))
