-- The list of additions as the loop stores it.
use Rattle.std.proofs.Common.{◌≡◌, ℕ, suc, ◌+◌, ◌*◌, ◌<◌, ◌≤◌, cond, eqb, List, length, get_or, set, replicate, refl, ap, ◌∙◌, add-one, arith, length-set, get_or-set_other, get_or-set_same, eq-eqb, ne_eqb}
use native.Mathlib.Decide.{ℕ_discrete}
use lib.ListN.{length-replicate}
use Rattle.lists.specs.Tabulated.{tabulate}
use Rattle.lists.proofs.Tabulated.{length-tabulate, at_tabulate, at_zeros, is_tabulate}
use Rattle.spoiling.specs.Draws.{next_word, drawn}
use Rattle.spoiling.specs.Spoiling.{chosen_row, amount_of, added_by}
use Rattle.spoiling.proofs.Added.{chosen_row_below, chosen_row_cong}

-- one entry stored
set-tabulate : (n : ℕ) (f : ℕ → ℕ) (i v : ℕ) → i < n → set (tabulate n f) i v ≡ tabulate n (λ k. cond (eqb k i) v (f k))
set-tabulate n f i v h =
    is_tabulate n (λ k. cond (eqb k i) v (f k)) (set (tabulate n f) i v) (length-set (tabulate n f) i v ∙ length-tabulate n f)
    (λ k l. by k l (ℕ_discrete k i))
  where
    by : (k : ℕ) → k < n → Dec (k ≡ i) → get_or (set (tabulate n f) i v) k 0 ≡ cond (eqb k i) v (f k)
    by k l (yes e) =
        let there : i < length (tabulate n f) = rw (length-tabulate n f) h in
        rw (eq-eqb k i e, e) (get_or-set_same (tabulate n f) i v 0 there)
    by k l (no e) = rw (ne_eqb k i e) (get_or-set_other (tabulate n f) i k v 0 e ∙ at_tabulate n f k l)

-- What the loop has after j spoilings: the additions, and the last word.
pub record Spoiled (p L start j : ℕ) (by : List ℕ) (last : ℕ) : Type 0 where
  pub additions : by ≡ tabulate 32 (added_by p L start j)
  pub word : last ≡ drawn start (2 * j)

pub spoiled_none : (p L start : ℕ) → Spoiled p L start 0 (replicate 32 0) start
unfolding added_by drawn
spoiled_none p L start = record {
  additions = is_tabulate 32 (added_by p L start 0) (replicate 32 0) (length-replicate {A = ℕ} 32 0) (λ k h. at_zeros 32 k);
  word = refl;
}

module _ {p L start j : ℕ} {by : List ℕ} {last : ℕ} (s : Spoiled p L start j by last) (some : 0 < L) (few : L ≤ 32) where
  module _ {word : ℕ} (first : word ≡ next_word last) where
    first_draw : word ≡ drawn start (2 * j + 1)
    unfolding drawn
    first_draw = rw add-one (first ∙ ap next_word s.word)

    second_draw : {next : ℕ} → next ≡ next_word word → next ≡ drawn start (2 * j + 2)
    unfolding drawn
    second_draw e = let draws : 2 * j + 2 ≡ suc (2 * j + 1) = omega arith in rw draws (e ∙ ap next_word first_draw)

    chosen : {row : ℕ} → row ≡ chosen_row L (λ i. get_or by i 0) word → row ≡ chosen_row L (added_by p L start j) (drawn start (2 * j + 1))
    chosen e =
        let same : (r : ℕ) → r < L → get_or by r 0 ≡ added_by p L start j r =
        λ r l. ap (λ (a : List ℕ). get_or a r 0) s.additions ∙ at_tabulate 32 (added_by p L start j) r (omega arith) in
        e ∙ chosen_row_cong L (λ i. get_or by i 0) (added_by p L start j) word some same ∙ ap (chosen_row L (added_by p L start j)) first_draw

    pub spoiled_more : {row next amount : ℕ} → row ≡ chosen_row L (λ i. get_or by i 0) word → next ≡ next_word word → amount ≡ amount_of p next
        → Spoiled p L start (j + 1) (set by row amount) next
    unfolding added_by
    spoiled_more {row} {next} {amount} second third fourth =
        let here = chosen second in
        let word : next ≡ drawn start (2 * j + 2) = second_draw third in
        let below : row < 32 = (let l = chosen_row_below L (added_by p L start j) (drawn start (2 * j + 1)) some in omega arith) in
        let twice : 2 * j + 2 ≡ 2 * (j + 1) = omega arith in record {
          additions =
              ap (λ (a : List ℕ). set a row amount) s.additions ∙ set-tabulate 32 (added_by p L start j) row amount below
              ∙ rw (add-one, fourth, word, here) refl;
          word = word ∙ ap (drawn start) twice;
        }
