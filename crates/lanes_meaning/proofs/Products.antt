-- Montgomery's reduction, for any odd modulus p: one whose reciprocal modulo 2^16 is v.
use mathlib.Core.Path.{◌≡◌, sym, ap, ◌∙◌}
use Prim.Native.Nat.{ℕ, ◌+◌, ◌-◌, ◌*◌, ◌/◌, ◌%◌, ◌≤◌, ◌<◌}
use native.Mathlib.Nat.{div-add-mod', mod-lt}
use native.Mathlib.Omega.{arith}
use Rattle.field.specs.declared.Prime.{Prime}
use Rattle.field.specs.Primes.{modulus_of}
use Rattle.field.proofs.Moduli.{modulus_positive}
use Rattle.field.proofs.Remainders.{same_remainder}
use Rattle.montgomery.specs.Factors.{inverse_of, montgomery_form, factor_of}
use Rattle.montgomery.specs.Reduction.{reduced_of}
use Rattle.montgomery.proofs.Constants.{reciprocal_is}
use Rattle.montgomery.proofs.Halves.{high_below}

module _ (p v : ℕ) (positive : 0 < p) (reciprocal : p * v % 65536 ≡ 1) where
  -- p v = 2^16 w + 1
  w : ℕ
  w = p * v / 65536

  -- the multiple of p whose low half is that of d a
  low_half : (d a : ℕ) → d * v % 65536 * a % 65536 * p ≡ d * v % 65536 * a % 65536 * p / 65536 * 65536 + d * a % 65536
  unfolding w
  low_half d a =
      let l = d * v % 65536 in
      let m = l * a % 65536 in
      let inverse : p * v ≡ w * 65536 + 1 = (let e = div-add-mod' (p * v) 65536 in omega arith) in
      let outer : (l * a / 65536 * 65536 + m) * p ≡ l * a * p = ap (λ n. n * p) (div-add-mod' (l * a) 65536) in
      let inner : (d * v / 65536 * 65536 + l) * (a * p) ≡ d * v * (a * p) = ap (λ n. n * (a * p)) (div-add-mod' (d * v) 65536) in
      let whole : d * a * (p * v) ≡ d * a * (w * 65536 + 1) = ap (λ n. d * a * n) inverse in
      let rest : m * p % 65536 ≡ d * a % 65536 =
      same_remainder 65536 (m * p) (l * a / 65536 * p + d * v / 65536 * (a * p)) (d * a) (d * a * w) (omega arith) in
      sym (div-add-mod' (m * p) 65536) ∙ ap (λ n. m * p / 65536 * 65536 + n) rest

  -- d a / 2^16 modulo p, where d a = 2^16 y - k p
  reduction : (d a y k : ℕ) → d * a + p * k ≡ 65536 * y → reduced_of p d (d * v % 65536) a ≡ y % p
  unfolding reduced_of w
  reduction d a y k e =
      let t = d * a in
      let m = d * v % 65536 * a % 65536 in
      let u = m * p / 65536 in
      let below : u < p = high_below (d * v % 65536 * a) p positive in
      let cancels : m * p ≡ u * 65536 + t % 65536 = low_half d a in
      let parts = div-add-mod' t 65536 in
      let z = y + u - t / 65536 in
      let whole : 65536 * z ≡ p * (m + k) = omega arith in
      let inverse : p * v ≡ w * 65536 + 1 = (let i = div-add-mod' (p * v) 65536 in omega arith) in
      let times : w * (65536 * z) ≡ w * (p * (m + k)) = ap (λ n. w * n) whole in
      let left : p * v * z ≡ (w * 65536 + 1) * z = ap (λ n. n * z) inverse in
      same_remainder p (t / 65536 + (p - u)) (v * z) y (w * (m + k) + 1) (omega arith)

  -- a factor's product, from its form
  product_is : (e a : ℕ) → reduced_of p (montgomery_form p e) (montgomery_form p e * v % 65536) a ≡ e * a % p
  product_is e a =
      let d = montgomery_form p e in
      let whole : (e * 65536 / p * p + d) * a ≡ e * 65536 * a = ap (λ n. n * a) (div-add-mod' (e * 65536) p) in
      reduction d a (e * a) (e * 65536 / p * a) (omega arith)

-- what the reduction gives for a factor: its number times a
pub factor_product : (q : Prime) (e a : ℕ) → reduced_of (modulus_of q) (factor_of q e).form (factor_of q e).low a ≡ e * a % modulus_of q
factor_product q e a = product_is (modulus_of q) (inverse_of q) (modulus_positive q) (reciprocal_is q) e a

-- the difference of two forms is the form of the difference
pub form-difference : (p x y : ℕ) → 0 < p → y ≤ p → (montgomery_form p x + (p - montgomery_form p y)) % p ≡ montgomery_form p (x + (p - y))
form-difference p x y h l =
    let below : montgomery_form p y < p = mod-lt (y * 65536) h in
    let ex = div-add-mod' (x * 65536) p in
    let ey = div-add-mod' (y * 65536) p in
    let all : (p - y + y) * 65536 ≡ p * 65536 = ap (λ n. n * 65536) (omega arith) in
    same_remainder p (montgomery_form p x + (p - montgomery_form p y)) (x * 65536 / p + 65536) ((x + (p - y)) * 65536) (y * 65536 / p + 1) (omega arith)
