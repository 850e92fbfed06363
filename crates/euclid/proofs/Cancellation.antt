-- One step of long division, a - k u^n b: which coefficients change, and which one goes.
use mathlib.Core.Path.{◌≡◌, refl, sym, ap, subst, ◌∙◌}
use mathlib.Core.List.{List}
use mathlib.Core.Logic.{⊎_elim}
use Prim.Native.Nat.{ℕ, zero, suc, ◌+◌, ◌-◌, ◌*◌, ◌%◌, ◌≤◌, ◌<◌}
use native.Mathlib.Nat.{add-mul-mod_self_right, eq-or-lt_of_le, mod-add-mod, mod-eq_of_lt, mod-lt, mul-mod_right, zero-mod}
use native.Mathlib.Omega.{arith}
use lib.ListN.{get_or, length}
use Rattle.field.proofs.Remainders.{mod-mul, times_unit}
use Rattle.poly.specs.Coefficients.{Bounded}
use Rattle.lists.proofs.Tabulated.{length-tabulate, is_tabulate}
use Rattle.poly.proofs.Lists.{bounded_tabulate}
use Rattle.euclid.specs.Division.{shifted, cancelled_at, cancelled_of, cancel_factor, division_step}

shifted_below : (n : ℕ) (b : List ℕ) (j : ℕ) → j < n → get_or (shifted n b) j 0 ≡ 0
unfolding shifted
shifted_below zero b j h = absurd (omega arith)
shifted_below (suc n) b zero h = refl
shifted_below (suc n) b (suc j) h = shifted_below n b j (omega arith)

pub shifted_above : (n : ℕ) (b : List ℕ) (j : ℕ) → n ≤ j → get_or (shifted n b) j 0 ≡ get_or b (j - n) 0
unfolding shifted
shifted_above zero b j h = ap (λ k. get_or b k 0) (omega arith)
shifted_above (suc n) b zero h = absurd (omega arith)
shifted_above (suc n) b (suc j) h = shifted_above n b j (omega arith) ∙ ap (λ k. get_or b k 0) (omega arith)

module _ (p k n : ℕ) (a b : List ℕ) where
  -- where u^n b has no coefficient, a's stays
  pub cancelled_same : (j : ℕ) → get_or a j 0 < p → get_or (shifted n b) j 0 ≡ 0 → cancelled_at p k n b a j ≡ get_or a j 0
  unfolding cancelled_at
  cancelled_same j l e =
      let sum : get_or a j 0 + (p - k) * get_or (shifted n b) j 0 ≡ get_or a j 0 = rw e (omega arith) in
      ap (λ (t : ℕ). t % p) sum ∙ mod-eq_of_lt l

  pub cancelled_below : (j : ℕ) → get_or a j 0 < p → j < n → cancelled_at p k n b a j ≡ get_or a j 0
  cancelled_below j l h = cancelled_same j l (shifted_below n b j h)

  pub cancelled_above : {lb : ℕ} → Bounded p lb b → (j : ℕ) → get_or a j 0 < p → n + lb ≤ j → cancelled_at p k n b a j ≡ get_or a j 0
  cancelled_above {lb} bb j l h = cancelled_same j l (shifted_above n b j (omega arith) ∙ bb.within (j - n) (omega arith))

  pub cancelled_there : (j : ℕ) → cancelled_at p k n b a (n + j) ≡ (get_or a (n + j) 0 + (p - k) * get_or b j 0) % p
  unfolding cancelled_at
  cancelled_there j =
      let d : n + j - n ≡ j = omega arith in
      rw (shifted_above n b (n + j) (omega arith), d)

-- x - k y is 0 modulo p where k = x i and i y = 1
top_vanishes : (p x i y : ℕ) → x < p → i * y % p ≡ 1 → (x + (p - x * i % p) * y) % p ≡ 0
top_vanishes p x i y l e =
    let k = x * i % p in
    let small : k < p = mod-lt (x * i) (omega arith) in
    let regroup : x * i * y ≡ x * (i * y) = omega arith in
    let same : k * y % p ≡ x = mod-mul (x * i) y p ∙ ap (λ (t : ℕ). t % p) regroup ∙ times_unit p x (i * y) l e in
    let whole : k * y + (p - k) * y ≡ p * y = whole_of k small in
    ap (λ (t : ℕ). (t + (p - k) * y) % p) (sym same) ∙ mod-add-mod (k * y) p _ ∙ ap (λ (t : ℕ). t % p) whole ∙ mul-mod_right p y
  where
    whole_of : (k : ℕ) → k < p → k * y + (p - k) * y ≡ p * y
    whole_of k l = let e : (k + (p - k)) * y ≡ p * y = ap (λ (t : ℕ). t * y) (omega arith) in omega arith

module _ (p : ℕ) (b : List ℕ) (m i n : ℕ) (a : List ℕ) where
  pub length-step : length (division_step p b m i n a) ≡ 32
  unfolding division_step cancelled_of
  length-step = length-tabulate 32 _

  -- the coefficient of u^(n + m) goes, and no higher one comes
  pub bounded_step : Bounded p (n + m + 1) a → Bounded p (m + 1) b → i * get_or b m 0 % p ≡ 1 → Bounded p (n + m) (division_step p b m i n a)
  unfolding division_step cancelled_of cancelled_at cancel_factor
  bounded_step ba bb e =
      bounded_tabulate p (n + m) 32 (cancelled_at p (cancel_factor p m i n a) n b a) small
      (λ j l. ⊎_elim
      (λ (same : n + m ≡ j). subst (λ (t : ℕ). cancelled_at p (cancel_factor p m i n a) n b a t ≡ 0) same top)
      (λ (above : n + m < j). cancelled_above p _ n a b bb j (ba.residues j) (omega arith) ∙ ba.within j (omega arith))
      (eq-or-lt_of_le l))
    where
      small : (j : ℕ) → cancelled_at p (cancel_factor p m i n a) n b a j < p
      small j = let l = ba.residues 0 in mod-lt _ (omega arith)

      top : cancelled_at p (cancel_factor p m i n a) n b a (n + m) ≡ 0
      top = cancelled_there p (cancel_factor p m i n a) n a b m ∙ top_vanishes p (get_or a (n + m) 0) i (get_or b m 0) (ba.residues (n + m)) e

  -- where a has no coefficient of u^(n + m), the factor is 0 and a stays
  pub factor_none : get_or a (n + m) 0 ≡ 0 → cancel_factor p m i n a ≡ 0
  unfolding cancel_factor
  factor_none e = let z : get_or a (n + m) 0 * i ≡ 0 = rw e (omega arith) in ap (λ (t : ℕ). t % p) z ∙ zero-mod p

  pub step_none : {t : ℕ} → Bounded p t a → length a ≡ 32 → get_or a (n + m) 0 ≡ 0 → division_step p b m i n a ≡ a
  unfolding division_step cancelled_of cancelled_at
  step_none ba size e = sym (is_tabulate 32 _ a size (λ j l. sym (stays j)))
    where
      stays : (j : ℕ) → cancelled_at p (cancel_factor p m i n a) n b a j ≡ get_or a j 0
      stays j =
          let z = factor_none e in
          let d : p - cancel_factor p m i n a ≡ p = omega arith in
          let c : get_or a j 0 + p * get_or (shifted n b) j 0 ≡ get_or a j 0 + get_or (shifted n b) j 0 * p = omega arith in
          rw (d, c) (add-mul-mod_self_right _ _ _ ∙ mod-eq_of_lt (ba.residues j))
