-- Fields of bits.
use mathlib.Core.List.{List, ◌++◌}
use mathlib.Core.Logic.{◌⊎◌, inl, inr}
use mathlib.Core.Path.{◌≡◌, refl, sym, ap, ap₂, ◌∙◌}
use Prim.Native.Nat.{ℕ, zero, suc, ◌+◌, ◌-◌, ◌*◌, ◌/◌, ◌%◌, ◌^◌, ◌≤◌, ◌<◌}
use native.Mathlib.Nat.{mod-one, mul_assoc, mul_left_comm, add_comm, add-mul-div_left, add-mul-mod_self_right}
use native.Mathlib.Omega.{arith}
use lib.ListN.{length, get_or, get_or-append}
use lib.Pow.{pow-add, pow_pos, shr-shr, mod-pow-add}
use Rattle.cursor.specs.Bits.{bit_of, field_of}
use Rattle.lists.proofs.Order.{lt_or_ge}

pub field_below : (s : List ℕ) (at bits : ℕ) → field_of s at bits < 2 ^ bits
unfolding field_of
field_below s at zero = omega arith
field_below s at (suc bits) = omega (arith, field_below s at bits)

-- a field is made of its bits alone
pub field_cong : (s s' : List ℕ) (at at' bits : ℕ) → ((k : ℕ) → k < bits → bit_of s (at + k) ≡ bit_of s' (at' + k)) → field_of s at bits ≡ field_of s' at' bits
unfolding field_of
field_cong s s' at at' zero same = refl
field_cong s s' at at' (suc bits) same =
    ap₂ (λ x y. 2 * x + y) (field_cong s s' at at' bits (λ k l. same k (omega arith))) (same bits (omega arith))

-- and stands in the bytes that hold them
pub field_append : (s t : List ℕ) (at bits : ℕ) → at + bits ≤ 8 * length s → field_of (s ++ t) at bits ≡ field_of s at bits
field_append s t at bits inside =
    field_cong (s ++ t) s at at bits (λ k l. ap (λ (b : ℕ). b / 2 ^ (7 - (at + k) % 8) % 2) (get_or-append s t 0 ((at + k) / 8) (omega arith)))

-- a field whose bits are the uppermost of a number's lowest `top` bits is a quotient of the number
pub field_of_number : (s : List ℕ) (at number top bits : ℕ) → bits ≤ top → ((k : ℕ) → k < bits → bit_of s (at + k) ≡ number / 2 ^ (top - (k + 1)) % 2)
    → field_of s at bits ≡ number / 2 ^ (top - bits) % 2 ^ bits
unfolding field_of
field_of_number s at number top zero l same = sym (mod-one _)
field_of_number s at number top (suc bits) l same =
    let m : ℕ = top - (bits + 1) in
    let shift : top - suc bits ≡ m = omega arith in
    let before : top - bits ≡ m + 1 = omega arith in
    let more : suc bits ≡ bits + 1 = omega arith in
    let earlier : field_of s at bits ≡ number / 2 ^ m / 2 ^ 1 % 2 ^ bits =
    field_of_number s at number top bits (omega arith) (λ k h. same k (omega arith))
    ∙ ap (λ (x : ℕ). x % 2 ^ bits) (ap (λ (x : ℕ). number / 2 ^ x) before ∙ sym (shr-shr number m 1)) in
    rw (shift, more, earlier, same bits (omega arith)) (omega (arith, mod-pow-add (number / 2 ^ m) bits 1))

-- a bit of the first and of the second of two bytes
pub first_bit : (a b m : ℕ) → b < 256 → a / 2 ^ m % 2 ≡ (a * 256 + b) / 2 ^ (8 + m) % 2
first_bit a b m small =
    let whole : (a * 256 + b) / 2 ^ 8 ≡ a = omega arith in
    sym (ap (λ (x : ℕ). x % 2) (sym (shr-shr (a * 256 + b) 8 m) ∙ ap (λ (x : ℕ). x / 2 ^ m) whole))

ring_like : (a b x y : ℕ) → a * (x * (y * 2)) + b ≡ b + x * (a * y * 2)
ring_like a b x y = add_comm (a * (x * (y * 2))) b ∙ ap (λ (z : ℕ). b + z) (mul_left_comm a x (y * 2) ∙ ap (λ (z : ℕ). x * z) (sym (mul_assoc a y 2)))

pub second_bit : (a b m : ℕ) → m < 8 → b / 2 ^ m % 2 ≡ (a * 256 + b) / 2 ^ m % 2
second_bit a b m l =
    let eight : m + (7 - m + 1) ≡ 8 = omega arith in
    let parts : 2 ^ m * (2 ^ (7 - m) * 2) ≡ 256 =
    ap (λ (x : ℕ). 2 ^ m * x) (sym (pow-add 2 (7 - m) 1)) ∙ sym (pow-add 2 m (7 - m + 1)) ∙ ap (λ (k : ℕ). 2 ^ k) eight in
    let sum : a * 256 + b ≡ b + 2 ^ m * (a * 2 ^ (7 - m) * 2) =
    rw (← parts) (ring_like a b (2 ^ m) (2 ^ (7 - m))) in
    sym (rw sum (ap (λ (x : ℕ). x % 2) (add-mul-div_left b (a * 2 ^ (7 - m) * 2) (pow_pos m)) ∙ add-mul-mod_self_right (b / 2 ^ m) (a * 2 ^ (7 - m)) 2))

module _ (s : List ℕ) (low : (k : ℕ) → get_or s k 0 < 256) (at : ℕ) where
  abbrev pair : ℕ
  pair = get_or s (at / 8) 0 * 256 + get_or s (at / 8 + 1) 0

  bit_of_pair : (k : ℕ) → at % 8 + k < 16 → bit_of s (at + k) ≡ pair / 2 ^ (15 - (at % 8 + k)) % 2
  bit_of_pair k l = by (lt_or_ge (at % 8 + k) 8)
    where
      by : (at % 8 + k < 8) ⊎ (8 ≤ at % 8 + k) → bit_of s (at + k) ≡ pair / 2 ^ (15 - (at % 8 + k)) % 2
      by (inl here) =
          let byte : (at + k) / 8 ≡ at / 8 = omega arith in
          let place : (at + k) % 8 ≡ at % 8 + k = omega arith in
          let shift : 15 - (at % 8 + k) ≡ 8 + (7 - (at % 8 + k)) = omega arith in
          rw (byte, place, shift) (first_bit (get_or s (at / 8) 0) (get_or s (at / 8 + 1) 0) (7 - (at % 8 + k)) (low (at / 8 + 1)))
      by (inr next) =
          let byte : (at + k) / 8 ≡ at / 8 + 1 = omega arith in
          let place : 7 - (at + k) % 8 ≡ 15 - (at % 8 + k) = omega arith in
          rw (byte, place) (second_bit (get_or s (at / 8) 0) (get_or s (at / 8 + 1) 0) (15 - (at % 8 + k)) (omega arith))

  -- a field that ends within the byte behind the one where it begins
  pub field_of_pair : (bits : ℕ) → at % 8 + bits ≤ 16 → field_of s at bits ≡ pair / 2 ^ (16 - (at % 8 + bits)) % 2 ^ bits
  field_of_pair bits l =
      let behind : 16 - at % 8 - bits ≡ 16 - (at % 8 + bits) = omega arith in
      field_of_number s at pair (16 - at % 8) bits (omega arith)
      (λ k h. (let place : 15 - (at % 8 + k) ≡ 16 - at % 8 - (k + 1) = omega arith in bit_of_pair k (omega arith) ∙ ap (λ (x : ℕ). pair / 2 ^ x % 2) place))
      ∙ ap (λ (x : ℕ). pair / 2 ^ x % 2 ^ bits) behind
