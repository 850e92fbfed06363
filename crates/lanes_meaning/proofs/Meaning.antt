-- What the entries of changed arrays are, where the factors are those of numbers.
use mathlib.Core.Path.{◌≡◌, sym, ap, ◌∙◌}
use mathlib.Core.List.{List, ◌∷◌}
use Prim.Native.Nat.{ℕ, ◌+◌, ◌-◌, ◌*◌, ◌/◌, ◌%◌, ◌≤◌, ◌<◌}
use native.Mathlib.Nat.{div-add-mod', mod-lt, mod-add-mod}
use native.Mathlib.Decide.{dec_lt}
use native.Mathlib.Omega.{arith}
use lib.ListN.{get_or}
use Rattle.field.specs.declared.Prime.{Prime}
use Rattle.field.specs.Primes.{modulus_of}
use Rattle.field.proofs.Moduli.{modulus_positive}
use Rattle.field.proofs.Remainders.{same_remainder}
use Rattle.montgomery.specs.declared.Factor.{Factor}
use Rattle.montgomery.specs.Factors.{montgomery_form, factor_of}
use Rattle.montgomery.specs.Reduction.{reduced_of}
use Rattle.lanes_meaning.proofs.Products.{factor_product, form-difference}
use Rattle.lists.specs.Tabulated.{tabulate}
use Rattle.poly.specs.Coefficients.{Stored}
use Rattle.poly.specs.Operations.{combination_at, times_linear_at}
use Rattle.lists.proofs.Tabulated.{is_tabulate, at_past}
use Rattle.lanes.specs.Lanes.{groups_of, modulus_at, Constants, Inverses, replaced, combined_lane, linear_lane, difference_lane, horner_lane}
use Rattle.lanes.proofs.Changes.{replaced_inside, replaced_before, replaced_behind, length-replaced}

-- an array stays one of residues where what replaces its entries is below the modulus
pub stored_replaced : {p : ℕ} {a : List ℕ} (start end : ℕ) (f : ℕ → ℕ) → Stored p a → ((k : ℕ) → k < 32 → f k < p) → Stored p (replaced start end f a)
stored_replaced {p} {a} start end f r low = record { size = length-replaced start end f a; below = λ k. go k (dec_lt k 32) (dec_lt k start) (dec_lt k end) }
  where
    go : (k : ℕ) → Dec (k < 32) → Dec (k < start) → Dec (k < end) → get_or (replaced start end f a) k 0 < p
    go k (no l) s e =
        let z = at_past (replaced start end f a) k (let n = length-replaced start end f a in omega arith) in
        let b = r.below 0 in
        omega arith
    go k (yes l) (yes s) e = rw (replaced_before start end f a k l s) (r.below k)
    go k (yes l) (no s) (yes e) = rw (replaced_inside start end f a k l (omega arith) e) (low k l)
    go k (yes l) (no s) (no e) = rw (replaced_behind start end f a k l (omega arith) (omega arith)) (r.below k)

-- a polynomial that is zero from n on, its other coefficients replaced: where g goes on with zeros, the whole is g's
pub whole : (f g : ℕ → ℕ) (a : List ℕ) (n : ℕ) → ((k : ℕ) → k < 32 → f k ≡ g k) → ((k : ℕ) → n ≤ k → get_or a k 0 ≡ 0) → ((k : ℕ) → n ≤ k → g k ≡ 0)
    → replaced 0 (groups_of n) f a ≡ tabulate 32 g
whole f g a n same past zero = is_tabulate 32 g _ (length-replaced 0 (groups_of n) f a) (λ k l. go k l (dec_lt k (groups_of n)))
  where
    go : (k : ℕ) → k < 32 → Dec (k < groups_of n) → get_or (replaced 0 (groups_of n) f a) k 0 ≡ g k
    go k l (yes e) = replaced_inside 0 (groups_of n) f a k l (omega arith) e ∙ same k l
    go k l (no e) = replaced_behind 0 (groups_of n) f a k l (omega arith) (omega arith) ∙ past k (omega arith) ∙ sym (zero k (omega arith))

-- a - f y, the product reduced first
less_product : (p a f y : ℕ) → 0 < p → f ≤ p → (a + (p - f * y % p)) % p ≡ (a + (p - f) * y) % p
less_product p a f y h l =
    let below : f * y % p < p = mod-lt (f * y) h in
    let parts = div-add-mod' (f * y) p in
    let all : (p - f + f) * y ≡ p * y = ap (λ n. n * y) (omega arith) in
    same_remainder p (a + (p - f * y % p)) y (a + (p - f) * y) (f * y / p + 1) (omega arith)

module _ {q : Prime} {ps : List ℕ} (cs : Constants q ps) (k : ℕ) (l : k < 32) where
  pub number_at : get_or ps k 0 ≡ modulus_of q
  number_at = cs.moduli.each k l ∙ cs.number

  -- every lane is a remainder
  pub below : (n : ℕ) → n % get_or ps k 0 < modulus_at ps
  below n =
      let low = mod-lt n (modulus_positive q) in
      rw (number_at, cs.number) low

  pub combined_below : (d c : Factor) (a b : List ℕ) → combined_lane ps d a c b k < modulus_at ps
  unfolding combined_lane
  combined_below d c a b = below _

  -- d a - c b
  pub combined_lane_lem : (d c : ℕ) (a b : List ℕ) → c ≤ modulus_of q
      → combined_lane ps (factor_of q d) a (factor_of q c) b k ≡ combination_at (modulus_of q) d a c b k
  unfolding combined_lane combination_at
  combined_lane_lem d c a b h =
      rw (number_at, factor_product q d (get_or a k 0), factor_product q c (get_or b k 0))
      (less_product (modulus_of q) _ c (get_or b k 0) (modulus_positive q) h ∙ mod-add-mod (d * get_or a k 0) (modulus_of q) ((modulus_of q - c) * get_or b k 0))

  -- (u - x) a
  pub linear_lane_lem : (x : ℕ) (a : List ℕ) → x ≤ modulus_of q → linear_lane ps (factor_of q x) a k ≡ times_linear_at (modulus_of q) x a k
  unfolding linear_lane times_linear_at
  linear_lane_lem x a h =
      rw (number_at, factor_product q x (get_or a k 0)) (less_product (modulus_of q) (get_or (0 ∷ a) k 0) x (get_or a k 0) (modulus_positive q) h)

  pub difference_below : (vs xs : List ℕ) (x : ℕ) (a : List ℕ) → difference_lane ps vs xs x a k < modulus_at ps
  unfolding difference_lane reduced_of
  difference_below vs xs x a = below _

  pub horner_below : (vs xs a : List ℕ) (c : ℕ) → horner_lane ps vs xs a c k < modulus_at ps
  unfolding horner_lane
  horner_below vs xs a c = below _

  -- (y - x) a, where the form of y stands in xs
  pub difference_lane_lem : {vs : List ℕ} → Inverses q vs → (xs : List ℕ) (y x : ℕ) (a : List ℕ) → get_or xs k 0 ≡ montgomery_form (modulus_of q) y → x ≤ modulus_of q
      → difference_lane ps vs xs (montgomery_form (modulus_of q) x) a k ≡ (y + (modulus_of q - x)) * get_or a k 0 % modulus_of q
  unfolding difference_lane
  difference_lane_lem vs xs y x a e h =
      rw (number_at, vs.each k l, e, form-difference (modulus_of q) y x (modulus_positive q) h)
      (factor_product q (y + (modulus_of q - x)) (get_or a k 0))

  -- c + x a, where the form of x stands in xs
  pub horner_lane_lem : {vs : List ℕ} → Inverses q vs → (xs : List ℕ) (x : ℕ) (a : List ℕ) (c : ℕ) → get_or xs k 0 ≡ montgomery_form (modulus_of q) x → c < modulus_of q
      → horner_lane ps vs xs a c k ≡ (c + x * get_or a k 0) % modulus_of q
  unfolding horner_lane
  horner_lane_lem vs xs x a c e h =
      let back : modulus_of q - (modulus_of q - c) ≡ c = omega arith in
      rw (number_at, cs.number, vs.each k l, e, factor_product q x (get_or a k 0), back)
      (mod-add-mod (x * get_or a k 0) (modulus_of q) c ∙ ap (λ n. n % modulus_of q) (omega arith))
