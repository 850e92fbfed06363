-- The steps of long division of lists, in the ring of polynomials over the residues modulo p.
use mathlib.Core.Path.{◌≡◌, refl, sym, ap, ap₂, ◌∙◌, fun_ext}
use mathlib.Core.List.{List}
use Prim.Native.Nat.{ℕ, zero, suc, ◌+◌, ◌-◌, ◌*◌, ◌%◌, ◌≤◌, ◌<◌}
use native.Mathlib.Nat.{zero-mod}
use native.Mathlib.Decide.{ℕ_discrete}
use native.Mathlib.Omega.{arith}
use lib.ListN.{get_or, length, set, length-set}
use lib.Seq.{get_or-set_same, get_or-set_other}
use Rattle.algebra.proofs.Ring.{Ring, ring, null_add, neg-mul, mul_null, null_mul}
use Rattle.algebra.proofs.Series.{Series, cons, add_s, neg_s, mul_s, mul_s-zero, mul_s-suc, const_s-mul_at, series_ring}
use Rattle.field.proofs.Primality.{IsPrime}
use Rattle.reciprocal.proofs.PrimeField.{Residue, residue, add_r, mul_r, neg_r, add_r_null, residue-add, residue-mul, residue-neg, residue_ring}
use Rattle.poly.specs.Coefficients.{Bounded}
use Rattle.lists.proofs.Tabulated.{at_past}
use Rattle.poly_meaning.proofs.Series.{series, residue-mod, tabulate_means}
use Rattle.euclid.specs.Division.{shifted, cancelled_at, cancelled_of, cancel_factor, division_step, remainder_from, quotient_from}
use Rattle.euclid.proofs.Cancellation.{shifted_above, length-step}
use Rattle.euclid.proofs.Steps.{factor_small}
use Rattle.poly_meaning.proofs.Monomials.{monomial, monomial-here, monomial_other}

-- what one step moves from the remainder to the quotient
moved : (R : Ring) (q t g r : R.Carrier)
    → R.add (R.mul (R.add q t) g) (R.add r (R.neg (R.mul t g))) ≡ R.add (R.mul q g) r
moved R q t g r = simp ring

module _ (p : ℕ) (P : IsPrime p) where
  abbrev R : Ring
  R = residue_ring p P

  abbrev ρ : ℕ → Residue p P
  ρ = residue p P

  abbrev S : List ℕ → Series R
  S = series p P

  -- c u^n b
  monomial_times : (c : Residue p P) (n : ℕ) (b : List ℕ) (j : ℕ) → mul_s R (monomial R n c) (S b) j ≡ mul_r p P c (ρ (get_or (shifted n b) j 0))
  unfolding monomial shifted cons series
  monomial_times c zero b j = const_s-mul_at R c (S b) j
  monomial_times c (suc n) b zero = mul_s-zero R _ (S b) ∙ null_mul R _ ∙ sym (mul_null R c)
  monomial_times c (suc n) b (suc j) = mul_s-suc R _ (S b) j ∙ ap₂ (add_r p P) (null_mul R _) (monomial_times c n b j) ∙ null_add R _

  -- a - k u^n b
  cancelled_residue : (k n : ℕ) (a b : List ℕ) (j : ℕ) → k < p
      → ρ (cancelled_at p k n b a j) ≡ add_r p P (ρ (get_or a j 0)) (neg_r p P (mul_r p P (ρ k) (ρ (get_or (shifted n b) j 0))))
  unfolding cancelled_at
  cancelled_residue k n a b j l =
      let y = get_or (shifted n b) j 0 in
      residue-mod p P _ ∙ sym (residue-add p P (get_or a j 0) ((p - k) * y))
      ∙ ap (add_r p P (ρ (get_or a j 0))) (sym (residue-mul p P (p - k) y) ∙ ap (λ x. mul_r p P x (ρ y)) (sym (residue-neg p P k l)) ∙ neg-mul R (ρ k) (ρ y))

  cancelled_past : (k n : ℕ) (a b : List ℕ) (j : ℕ) → get_or a j 0 ≡ 0 → get_or (shifted n b) j 0 ≡ 0 → cancelled_at p k n b a j ≡ 0
  unfolding cancelled_at
  cancelled_past k n a b j ea eb = ap (λ (t : ℕ). t % p) (rw (ea, eb) (omega arith)) ∙ zero-mod p

  cancelled_means : (k n : ℕ) (a b : List ℕ) → k < p → length a ≡ 32 → ((j : ℕ) → 32 ≤ j → get_or (shifted n b) j 0 ≡ 0)
      → S (cancelled_of p k n b a) ≡ add_s R (S a) (neg_s R (mul_s R (monomial R n (ρ k)) (S b)))
  unfolding cancelled_of add_s neg_s series
  cancelled_means k n a b l size past =
      tabulate_means p P 32 (cancelled_at p k n b a) _ (λ j h. cancelled_past k n a b j (at_past a j (omega arith)) (past j h))
      (λ j. cancelled_residue k n a b j l ∙ ap (λ x. add_r p P (ρ (get_or a j 0)) (neg_r p P x)) (sym (monomial_times (ρ k) n b j)))

  -- c + k u^n, where c has no coefficient of u^n
  set_means : (c : List ℕ) (n k : ℕ) → n < length c → get_or c n 0 ≡ 0 → S (set c n k) ≡ add_s R (S c) (monomial R n (ρ k))
  unfolding add_s series
  set_means c n k l e = fun_ext (λ j. by_place j (ℕ_discrete j n))
    where
      by_place : (j : ℕ) → Dec (j ≡ n) → ρ (get_or (set c n k) j 0) ≡ add_r p P (ρ (get_or c j 0)) (monomial R n (ρ k) j)
      by_place j (yes same) =
          rw same (ap ρ (get_or-set_same c n k 0 l) ∙ sym (ap₂ (add_r p P) (ap ρ e) (monomial-here R n _) ∙ null_add R _))
      by_place j (no other) =
          ap ρ (get_or-set_other c n j k 0 other) ∙ sym (ap (add_r p P _) (monomial_other R n _ j other) ∙ add_r_null p P _)

  -- What the steps at places n - 1, .., 0 take from a is b times what they add to c.
  pub steps_mean : {b : List ℕ} (m i : ℕ) → Bounded p (m + 1) b → (n : ℕ) (a c : List ℕ) → n + m ≤ 32 → length a ≡ 32 → length c ≡ 32
      → ((j : ℕ) → j < n → get_or c j 0 ≡ 0)
      → add_s R (mul_s R (S (quotient_from p b m i n a c)) (S b)) (S (remainder_from p b m i n a)) ≡ add_s R (mul_s R (S c) (S b)) (S a)
  unfolding remainder_from quotient_from division_step
  steps_mean m i bb zero a c l size-a size-c free = refl
  steps_mean {b} m i bb (suc n) a c l size-a size-c free =
      let k = cancel_factor p m i n a in
      let small : k < p = factor_small p b m i (let t = P.two in omega arith) n a in
      let past : (j : ℕ) → 32 ≤ j → get_or (shifted n b) j 0 ≡ 0 = (λ j h. shifted_above n b j (omega arith) ∙ bb.within (j - n) (omega arith)) in
      let kept : (j : ℕ) → j < n → get_or (set c n k) j 0 ≡ 0 = (λ j h. get_or-set_other c n j k 0 (λ same. omega arith) ∙ free j (omega arith)) in
      steps_mean m i bb n (division_step p b m i n a) (set c n k) (omega arith) (length-step p b m i n a) (length-set c n k ∙ size-c) kept
      ∙ ap₂ (λ q r. add_s R (mul_s R q (S b)) r) (set_means c n k (omega arith) (free n (omega arith))) (cancelled_means k n a b small size-a past)
      ∙ moved (series_ring R) (S c) (monomial R n (ρ k)) (S b) (S a)
