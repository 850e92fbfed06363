-- What the reciprocal is: the one residue whose product with a leaves 1.
use Prim.Native.Nat.{ℕ, zero, suc, ◌+◌, ◌*◌, ◌-◌, ◌/◌, ◌%◌, ◌≤◌, ◌<◌}
use mathlib.Core.Path.{◌≡◌, sym, ap, ◌∙◌}
use mathlib.Core.Logic.{◌↔◌}
use native.Mathlib.Nat.{add-mul-mod_self_right, div-add-mod', mod-eq_of_lt, mod-lt, mul-le-mul_left, one-mul}
use native.Mathlib.Decide.{dec_le}
use native.Mathlib.Omega.{arith}
use lib.Dec.{eqb}
use borrow.Author.Tests.{eq-eqb, ne_eqb, eqb-true}
use Rattle.lists.proofs.FirstBelow.{at_not_nothing, found_only, found_passes, none_below, first_cong}
use Rattle.std.specs.Prelude.{Some, None}
use Rattle.reciprocal.specs.Reciprocals.{reciprocal_of}
use Rattle.field.proofs.Remainders.{mod-mul, mul-mod, times_unit}
use Rattle.field.proofs.Primality.{IsPrime}

module _ (p a : ℕ) where
  -- s = s r a = r s a = r
  at_most_one : (r s : ℕ) → r < p → s < p → r * a % p ≡ 1 → s * a % p ≡ 1 → s ≡ r
  at_most_one r s lr ls er es =
      let swap : s * (r * a) ≡ r * (s * a) = omega arith in
      sym (times_unit p s (r * a) ls er) ∙ ap (λ x. x % p) swap ∙ times_unit p r (s * a) lr es

  pub reciprocal_is : (r : ℕ) → r < p → r * a % p ≡ 1 → Some r ≡ reciprocal_of p a
  unfolding reciprocal_of
  reciprocal_is r l e = sym (found_only _ p r l (eq-eqb _ _ e) (λ s ls t. at_most_one r s l ls e (eqb-true _ _ t)))

  -- what is a reciprocal leaves 1
  pub reciprocal_inverts : (r : ℕ) → Some r ≡ reciprocal_of p a → r * a % p ≡ 1
  unfolding reciprocal_of
  reciprocal_inverts r e = eqb-true _ _ (found_passes _ p r (sym e))

  -- whatever is 0 modulo p has none
  pub zero_has_none : 1 < p → a % p ≡ 0 → None ≡ reciprocal_of p a
  unfolding reciprocal_of
  zero_has_none two z = sym (none_below _ p (λ s l. ne_eqb _ _ (not_one s)))
    where
      not_one : (s : ℕ) → s * a % p ≡ 1 → ⊥
      not_one s e =
          let zeros : s * 0 ≡ 0 = omega arith in
          let none : s * a % p ≡ 0 = sym (mul-mod s a p) ∙ ap (λ t. (s * t) % p) z ∙ ap (λ t. t % p) zeros ∙ mod-eq_of_lt (omega arith) in
          omega arith

  pub reciprocal_of_residue : reciprocal_of p (a % p) ≡ reciprocal_of p a
  unfolding reciprocal_of
  reciprocal_of_residue = first_cong p _ _ (λ r l. ap (λ t. eqb t 1) (mul-mod r a p))

-- One step of the computation: p = (p / b) b + p % b, so p - p / b times b leaves p % b.
next_factor : (p b : ℕ) → 1 < b → b * (p - p / b) % p ≡ p % b % p
next_factor p zero l = absurd (omega arith)
next_factor p (suc b) l = ap (λ x. x % p) (expand (p / suc b) (p % suc b) (div-add-mod' p (suc b))) ∙ add-mul-mod_self_right _ _ _
  where
    expand : (q r : ℕ) → q * suc b + r ≡ p → suc b * (p - q) ≡ r + b * p
    expand q r e =
        let small : q * 1 ≤ q * suc b = mul-le-mul_left q (omega arith) in
        let whole : suc b * ((p - q) + q) ≡ suc b * p = ap (λ x. suc b * x) (omega arith) in
        omega arith

pub reciprocal-step : (p a acc b : ℕ) → 1 < b → b < p → acc * a % p ≡ b → acc * (p - p / b) % p * a % p ≡ p % b
reciprocal-step p a acc b l u e =
    let f = p - p / b in
    let regroup : acc * f * a ≡ acc * a * f = omega arith in
    let small = mod-lt p {m = b} (omega arith) in
    mod-mul (acc * f) a p ∙ ap (λ x. x % p) regroup ∙ sym (mod-mul (acc * a) f p) ∙ ap (λ x. x * f % p) e ∙ next_factor p b l
    ∙ mod-eq_of_lt (omega arith)

module _ (p : ℕ) (P : IsPrime p) (a : ℕ) where
  -- the computation, by a count of steps that is large enough
  found : (n b acc : ℕ) → 0 < b → b ≤ n → b < p → acc * a % p ≡ b → (r : ℕ) × (r * a % p ≡ 1)
  found zero b acc l u s e = absurd (omega arith)
  found (suc n) b acc l u s e = go (dec_le b 1) (found n (p % b) (acc * (p - p / b) % p))
    where
      go : Dec (b ≤ 1) → (0 < p % b → p % b ≤ n → p % b < p → acc * (p - p / b) % p * a % p ≡ p % b → (r : ℕ) × (r * a % p ≡ 1))
          → (r : ℕ) × (r * a % p ≡ 1)
      go (yes h) next = (acc, e ∙ (let one : b ≡ 1 = omega arith in one))
      go (no h) next =
          let falls = mod-lt p {m = b} l in
          next (P.free b (omega arith) s) (omega arith) (omega arith) (reciprocal-step p a acc b (omega arith) s e)

  pub inverse_exists : 0 < a % p → (r : ℕ) × (r < p) × (r * a % p ≡ 1)
  inverse_exists l =
      let start : 1 * a % p ≡ a % p = ap (λ x. x % p) (one-mul a) in
      let two = P.two in
      let f = found (a % p) (a % p) 1 l (omega arith) (mod-lt a {m = p} (omega arith)) start in
      (f.0 % p, mod-lt _ (omega arith), mod-mul f.0 a p ∙ f.1)

  -- modulo a prime only what is 0 has none
  pub nonzero_has_one : 0 < a % p → (r : ℕ) × (Some r ≡ reciprocal_of p a)
  nonzero_has_one l = let i = inverse_exists l in (i.0, reciprocal_is p a i.0 i.1 i.2)

  pub none_exactly : (reciprocal_of p a ≡ None) ↔ (a % p ≡ 0)
  none_exactly = (
    λ e. let nonzero : 0 < a % p → ⊥ = λ l. at_not_nothing ((nonzero_has_one l).1 ∙ e) in omega arith,
    λ z. sym (zero_has_none p a (let two = P.two in omega arith) z),
  )

  pub reciprocal_below : (r : ℕ) → Some r ≡ reciprocal_of p a → r < p
  reciprocal_below r e =
      let nonzero : a % p ≡ 0 → ⊥ = λ z. at_not_nothing (e ∙ none_exactly.1 z) in
      let i = inverse_exists (omega arith) in
      let same : r ≡ i.0 = cc (reciprocal_is p a i.0 i.1 i.2) in
      omega (arith, i.1)
