-- Laws of remainders that the library of numbers lacks.
use Prim.Native.Nat.{ℕ, ◌+◌, ◌*◌, ◌/◌, ◌%◌, ◌<◌, ◌^◌}
use mathlib.Core.Path.{◌≡◌, sym, ap, ◌∙◌}
use native.Mathlib.Nat.{add-mul-mod_self_right, div-add-mod', le_of_lt, lt_of_le_of_lt, mod-eq_of_lt, mul_comm, mul-le-mul_left, mul-lt-mul_of_pos_right}
use native.Mathlib.Omega.{arith}
use lib.Pow.{pow_pos}

-- a factor may be reduced first
pub mod-mul : (a b p : ℕ) → (a % p * b) % p ≡ (a * b) % p
mod-mul a b p =
    let whole : a * b ≡ a % p * b + a / p * b * p = (let d = div-add-mod' a p in ap (λ x. x * b) (sym d) ∙ omega arith) in
    sym (ap (λ x. x % p) whole ∙ add-mul-mod_self_right (a % p * b) (a / p * b) p)

pub mul-mod : (a b p : ℕ) → (a * (b % p)) % p ≡ (a * b) % p
mul-mod a b p = rw (mul_comm a (b % p), mul_comm a b) (mod-mul b a p)

-- a factor that leaves 1 changes nothing
pub times_unit : (p x y : ℕ) → x < p → y % p ≡ 1 → x * y % p ≡ x
times_unit p x y l e =
    let one : x * 1 ≡ x = omega arith in
    sym (mul-mod x y p) ∙ ap (λ t. x * t % p) e ∙ ap (λ t. t % p) one ∙ mod-eq_of_lt l

-- numbers that are equal up to multiples of p leave the same
pub same_remainder : (p a m b n : ℕ) → a + m * p ≡ b + n * p → a % p ≡ b % p
same_remainder p a m b n e = sym (add-mul-mod_self_right a m p) ∙ ap (λ x. x % p) e ∙ add-mul-mod_self_right b n p

-- the product of two numbers of 32 bits has 64
pub product-fits : {a b : ℕ} → a < 2 ^ 32 → b < 2 ^ 32 → a * b < 2 ^ 64
product-fits {a} {b} ha hb =
    lt_of_le_of_lt (mul-le-mul_left a (le_of_lt hb)) (mul-lt-mul_of_pos_right ha (pow_pos 32))
