-- What the loop of long division knows at each turn.
use mathlib.Core.Path.{◌≡◌, sym, ap, ap₂, ◌∙◌}
use mathlib.Core.List.{List}
use Prim.Native.Nat.{ℕ, suc, ◌+◌, ◌-◌, ◌*◌, ◌%◌, ◌≤◌, ◌<◌}
use native.Mathlib.Omega.{arith}
use lib.ListN.{get_or, length, set, replicate}
use Rattle.poly.specs.Coefficients.{Bounded}
use Rattle.poly.proofs.Lists.{bounded_mono}
use Rattle.std.specs.Prelude.{Some}
use Rattle.euclid.specs.Division.{cancelled_of, cancel_factor, division_step, remainder_from, quotient_from, degree_of, leading_reciprocal, remainder_of, quotient_of}
use Rattle.euclid.proofs.Cancellation.{bounded_step}
use Rattle.euclid.proofs.Leading.{Divisor, degree_is, leading_inverts}
use Rattle.euclid.proofs.Steps.{remainder_more, quotient_more, remainder_places, quotient_places}

-- With i the reciprocal of b's leading coefficient, the steps that are left, at places below top + 1 - lb, lead from r and c to the remainder
-- and the quotient, and r has lost the coefficients from u^top on.
pub record Progress (p : ℕ) (a b : List ℕ) (la lb i top : ℕ) (c r : List ℕ) : Type 0 where
  pub low : top ≤ la
  pub remainder : remainder_of p a b ≡ remainder_from p b (degree_of b) i (top + 1 - lb) r
  pub quotient : quotient_of p a b ≡ quotient_from p b (degree_of b) i (top + 1 - lb) r c
  pub bounded : Bounded p top r

module _ {p : ℕ} {b : List ℕ} {lb : ℕ} (D : Divisor p b lb) {i : ℕ} (u : Some i ≡ leading_reciprocal p b) (a : List ℕ) (la : ℕ) where
  pub progress_start : {top : ℕ} → top ≡ la → la ≤ 32 → length a ≡ 32 → Bounded p la a → Progress p a b la lb i top (replicate 32 0) a
  progress_start e l size ba =
      rw e (record { low = omega arith; remainder = remainder_places D l ba size u; quotient = quotient_places D l ba size u; bounded = ba })

  -- one turn, in the code's terms
  pub progress_step : {top : ℕ} {c r r' : List ℕ} {k : ℕ} → Progress p a b la lb i top c r → lb ≤ top
      → k ≡ get_or r (top - 1) 0 * i % p → r' ≡ cancelled_of p k (top - lb) b r
      → Progress p a b la lb i (top - 1) (set c (top - lb) k) r'
  unfolding cancel_factor division_step
  progress_step {top} {c} {r} {r'} {k} h l ek er =
      let m = degree_of b in
      let d : m ≡ lb - 1 = degree_is D in
      let low = h.low in
      let positive = D.positive in
      let n = top - lb in
      let now : top + 1 - lb ≡ suc n = omega arith in
      let next : top - 1 + 1 - lb ≡ n = omega arith in
      let place : top - 1 ≡ n + m = omega arith in
      let factor : k ≡ cancel_factor p m i n r = ek ∙ ap (λ (t : ℕ). get_or r t 0 * i % p) place in
      let step : r' ≡ division_step p b m i n r = er ∙ ap (λ (t : ℕ). cancelled_of p t n b r) factor in
      let upper : top ≡ n + m + 1 = omega arith in
      let inverts : i * get_or b m 0 % p ≡ 1 = ap (λ (t : ℕ). i * get_or b t 0 % p) d ∙ leading_inverts D u in
      let kept : Bounded p (n + m) (division_step p b m i n r) =
      bounded_step p b m i n r (bounded_mono h.bounded (omega arith)) (bounded_mono D.bounded (omega arith)) inverts in
      record {
        low = omega arith;
        remainder =
            h.remainder ∙ ap (λ (t : ℕ). remainder_from p b m i t r) now ∙ remainder_more p b m i n r
            ∙ ap₂ (remainder_from p b m i) (sym next) (sym step);
        quotient =
            h.quotient ∙ ap (λ (t : ℕ). quotient_from p b m i t r c) now ∙ quotient_more p b m i n r c
            ∙ ap₂ (λ (t : List ℕ) (v : ℕ). quotient_from p b m i n t (set c n v)) (sym step) (sym factor)
            ∙ ap (λ (t : ℕ). quotient_from p b m i t r' (set c n k)) (sym next);
        bounded = rw (place, step) kept;
      }

  pub progress_end : {top : ℕ} {c r : List ℕ} → Progress p a b la lb i top c r → top < lb
      → (c ≡ quotient_of p a b) × (r ≡ remainder_of p a b)
  unfolding remainder_from quotient_from
  progress_end {top} {c} {r} h l =
      let none : top + 1 - lb ≡ 0 = omega arith in
      (sym (rw none at h.quotient), sym (rw none at h.remainder))
