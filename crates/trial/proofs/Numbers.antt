-- The numbers of a trial job, by their columns.
use Prim.Native.Nat.{ℕ, zero, suc, ◌+◌, ◌-◌, ◌*◌, ◌/◌, ◌%◌, ◌≤◌, ◌<◌}
use mathlib.Core.Path.{◌≡◌, refl, sym, ap, ap₂, ◌∙◌}
use mathlib.Core.Bool.{cond}
use mathlib.Core.List.{List}
use native.Mathlib.Nat.{div-lt_iff_lt-mul, mod-lt}
use native.Mathlib.Omega.{arith}
use lib.Dec.{eqb}
use lib.ListN.{length}
use Rattle.lists.specs.Tabulated.{tabulate}
use Rattle.lists.proofs.Tabulated.{at_tabulate, tabulate_cong}
use Rattle.poly.specs.Operations.{value_of}
use Rattle.lists.specs.Search.{first_below}
use Rattle.answer.specs.Bytes.{two_bytes, coefficient_bytes}
use Rattle.lists.specs.Overwriting.{spliced}
use Rattle.answer.proofs.Runs.{next_coefficient}
use Rattle.spoiling.specs.Spoiling.{number_in}
use Rattle.trial.specs.Rows.{pole_at, right_value, value_before, trial_number, trial_numbers}

module _ (p : ℕ) (f : ℕ → List ℕ) (g : List ℕ) (r : ℕ) where
  -- the quotient of the values that the code has at hand
  pub value-computed : (i : ℕ) {v d y : ℕ} → v ≡ value_of p r (f i) → d ≡ value_of p r g
      → y ≡ cond (eqb d 0) 0 (number_in (first_below p (λ z. eqb v (d * z % p)))) → y ≡ value_before p f g r i
  unfolding value_before right_value
  value-computed i {v} {d} ev ed e =
      e ∙ ap₂ (λ a b. cond (eqb b 0) 0 (number_in (first_below p (λ z. eqb a (b * z % p))))) ev ed

  module _ (added : ℕ → ℕ) where
    pub number_point : (column : ℕ) → column ≡ 0 → r ≡ trial_number p f g added r column
    unfolding trial_number
    number_point zero e = refl
    number_point (suc column) e = absurd (omega arith)

    pub number_first : (column : ℕ) {x : ℕ} → column ≡ 1 → x ≡ (value_before p f g r (column - 1) + added r) % p → x ≡ trial_number p f g added r column
    unfolding trial_number
    number_first zero e h = absurd (omega arith)
    number_first (suc zero) e h = h
    number_first (suc (suc column)) e h = absurd (omega arith)

    pub number_other : (column : ℕ) {x : ℕ} → (column ≡ 0 → ⊥) → (column ≡ 1 → ⊥) → x ≡ value_before p f g r (column - 1) → x ≡ trial_number p f g added r column
    unfolding trial_number
    number_other zero a b h = absurd (a refl)
    number_other (suc zero) a b h = absurd (b refl)
    number_other (suc (suc column)) a b h = h ∙ ap (value_before p f g r) (omega arith)

-- row and column of number k among L rows of m numbers
pub row_below : (L m k : ℕ) → 0 < m → k < L * m → k / m < L
row_below L m k positive l = (div-lt_iff_lt-mul positive).1 l

-- one number more is written
pub next_number : (numbers : ℕ → ℕ) (count start k written number : ℕ) (old area more : List ℕ) → k < count → number ≡ numbers k → written ≡ 2 * k
    → start + written ≤ length old → area ≡ spliced start (coefficient_bytes (tabulate count numbers) k) old → more ≡ spliced (start + written) (two_bytes number) area
    → more ≡ spliced start (coefficient_bytes (tabulate count numbers) (k + 1)) old
next_number numbers count start k written number old area more l is size fits before added =
    added ∙ ap (λ v. spliced (start + written) (two_bytes v) area) (is ∙ sym (at_tabulate count numbers k l))
    ∙ next_coefficient start (tabulate count numbers) k written old area size fits before

-- the numbers of n outputs depend on their n numerators
module _ (p : ℕ) (f f' : ℕ → List ℕ) (g : List ℕ) (added : ℕ → ℕ) where
  value_cong : (r i : ℕ) → f i ≡ f' i → value_before p f g r i ≡ value_before p f' g r i
  unfolding value_before
  value_cong r i e = ap (λ a. cond (pole_at p g r) 0 (right_value p r g a)) e

  number_cong : (r column : ℕ) → ((i : ℕ) → i < column → f i ≡ f' i) → trial_number p f g added r column ≡ trial_number p f' g added r column
  unfolding trial_number
  number_cong r zero e = refl
  number_cong r (suc zero) e = ap (λ v. (v + added r) % p) (value_cong r 0 (e 0 (omega arith)))
  number_cong r (suc (suc i)) e = value_cong r (suc i) (e (suc i) (omega arith))

  pub numbers_cong : (L n : ℕ) → ((i : ℕ) → i < n → f i ≡ f' i) → trial_numbers p f g added L n ≡ trial_numbers p f' g added L n
  unfolding trial_numbers
  numbers_cong L n e =
      tabulate_cong (L * (1 + n)) _ _ (λ k l. number_cong (k / (1 + n)) (k % (1 + n)) (λ i m. e i (let c = mod-lt k {m = 1 + n} (omega arith) in omega arith)))
