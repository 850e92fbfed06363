-- The value that makes an output right: it is the quotient, below p, and the only one.
use Prim.Native.Nat.{ℕ, ◌*◌, ◌%◌, ◌<◌}
use mathlib.Core.Path.{◌≡◌, refl, sym, ap, ◌∙◌}
use mathlib.Core.Bool.{Bool, true, false}
use mathlib.Core.List.{List}
use native.Mathlib.Nat.{mod-lt, mod-eq_of_lt}
use native.Mathlib.Omega.{arith}
use borrow.Author.Tests.{eq-eqb, eqb-true, eqb-false}
use lib.Dec.{eqb}
use Rattle.field.proofs.Primality.{IsPrime}
use Rattle.field.proofs.Remainders.{mod-mul, mul-mod, times_unit}
use Rattle.std.specs.Prelude.{Some}
use Rattle.reciprocal.specs.Reciprocals.{reciprocal_of}
use Rattle.reciprocal.proofs.Reciprocals.{reciprocal_inverts, nonzero_has_one}
use Rattle.poly.specs.Operations.{value_of}
use Rattle.poly.proofs.Values.{value_below}
use Rattle.lists.specs.Search.{first_below}
use Rattle.lists.proofs.FirstBelow.{found_only}
use Rattle.spoiling.specs.Spoiling.{number_in}
use Rattle.trial.specs.Rows.{pole_at, right_value, value_before}

-- d is not 0 modulo p, so it has a reciprocal r
module _ {p : ℕ} (P : IsPrime p) (v d : ℕ) (small : v < p) (low : d < p) (positive : 0 < d) where
  reciprocal : (r : ℕ) × (Some r ≡ reciprocal_of p d)
  reciprocal = nonzero_has_one p P d (rw (mod-eq_of_lt low) positive)

  -- x times the reciprocal of d times d is x
  restores : {r : ℕ} → Some r ≡ reciprocal_of p d → (x : ℕ) → x < p → x * (r * d) % p ≡ x
  restores {r} u x l = times_unit p x (r * d) l (reciprocal_inverts p d r u)

  right : {r : ℕ} → Some r ≡ reciprocal_of p d → d * (v * r % p) % p ≡ v
  right {r} u =
      let order : d * (v * r) ≡ v * (r * d) = omega arith in
      mul-mod d (v * r) p ∙ ap (λ t. t % p) order ∙ restores u v small

  only : {r : ℕ} → Some r ≡ reciprocal_of p d → (z : ℕ) → z < p → v ≡ d * z % p → z ≡ v * r % p
  only {r} u z l e =
      let order : d * z * r ≡ z * (r * d) = omega arith in
      sym (ap (λ t. t * r % p) e ∙ mod-mul (d * z) r p ∙ ap (λ t. t % p) order ∙ restores u z l)

  pub quotient_only : (y z : ℕ) → y < p → z < p → v ≡ d * y % p → v ≡ d * z % p → y ≡ z
  quotient_only y z l m ey ez = only reciprocal.1 y l ey ∙ sym (only reciprocal.1 z m ez)

  -- the number below p whose product with d leaves v is v times the reciprocal
  pub quotient_found : {r : ℕ} → Some r ≡ reciprocal_of p d → first_below p (λ y. eqb v (d * y % p)) ≡ Some (v * r % p)
  quotient_found {r} u = found_only _ p (v * r % p) (mod-lt _ (omega arith)) (eq-eqb _ _ (sym (right u))) (λ z l t. only u z l (eqb-true _ _ t))

  pub quotient-right : v ≡ d * number_in (first_below p (λ y. eqb v (d * y % p))) % p
  quotient-right = rw (quotient_found reciprocal.1) (sym (right reciprocal.1))

  pub quotient_below : number_in (first_below p (λ y. eqb v (d * y % p))) < p
  quotient_below = rw (quotient_found reciprocal.1) (mod-lt _ (omega arith))

-- the values of f and of g at the point of row r, g being 0 at a pole
module _ {p : ℕ} (P : IsPrime p) (f : ℕ → List ℕ) (g : List ℕ) (r i : ℕ) where
  positive_prime : 0 < p
  positive_prime = let t = P.two in omega arith

  -- at a pole all values are 0
  pub pole_value : pole_at p g r ≡ true → value_before p f g r i ≡ 0
  unfolding value_before
  pole_value e = rw e

  module _ (regular : pole_at p g r ≡ false) where
    denominator_positive : 0 < value_of p r g
    denominator_positive = let nonzero = eqb-false (value_of p r g) 0 regular in omega arith

    -- any other row is right
    pub regular_right : value_of p r (f i) ≡ value_of p r g * value_before p f g r i % p
    unfolding value_before right_value
    regular_right =
        rw regular
        (quotient-right P (value_of p r (f i)) (value_of p r g) (value_below p r (f i) positive_prime) (value_below p r g positive_prime) denominator_positive)

    regular_below : value_before p f g r i < p
    unfolding value_before right_value
    regular_below =
        rw regular
        (quotient_below P (value_of p r (f i)) (value_of p r g) (value_below p r (f i) positive_prime) (value_below p r g positive_prime) denominator_positive)

    -- and no other value would be
    pub regular_only : (y : ℕ) → y < p → value_of p r (f i) ≡ value_of p r g * y % p → y ≡ value_before p f g r i
    regular_only y l e =
        quotient_only P (value_of p r (f i)) (value_of p r g) (value_below p r (f i) positive_prime) (value_below p r g positive_prime) denominator_positive
        y (value_before p f g r i) l regular_below e regular_right

  pub value_before_below : value_before p f g r i < p
  value_before_below = by (pole_at p g r) refl
    where
      by : (b : Bool) → pole_at p g r ≡ b → value_before p f g r i < p
      by true e = rw (pole_value e) positive_prime
      by false e = regular_below e
