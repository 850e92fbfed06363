-- The parts of a word of eight bytes are the numbers that stand in them.
use mathlib.Core.List.{List}
use mathlib.Core.Path.{◌≡◌, refl, sym, ap, ap₂, ◌∙◌}
use Prim.Native.Nat.{ℕ, zero, suc, ◌+◌, ◌-◌, ◌*◌, ◌/◌, ◌%◌, ◌^◌, ◌<◌}
use native.Mathlib.Nat.{add-zero, div-one, div-div-eq-div-mul}
use native.Mathlib.Omega.{arith}
use lib.ListN.{get_or}
use lib.Pow.{pow-add}
use Rattle.format.specs.Numbers.{number_from}
use Rattle.read_u64.specs.Words.{joined_bytes, part_of}

-- one byte more
pub joined_more : (s : List ℕ) (k m : ℕ) → joined_bytes s k (m + 1) ≡ joined_bytes s k m * 256 + get_or s (k + m) 0
unfolding joined_bytes
joined_more s k m = let e : m + 1 ≡ suc m = omega arith in rw e refl

-- four bytes as the code puts them together, and two such words as one
pub four_bytes : (s : List ℕ) (k : ℕ)
    → joined_bytes s k 4 ≡ get_or s k 0 * 16777216 + get_or s (k + 1) 0 * 65536 + get_or s (k + 2) 0 * 256 + get_or s (k + 3) 0
unfolding joined_bytes
four_bytes s k = let e : k + 0 ≡ k = omega arith in rw e (omega arith)

pub eight_bytes : (s : List ℕ) → joined_bytes s 0 8 ≡ joined_bytes s 0 4 * 4294967296 + joined_bytes s 4 4
unfolding joined_bytes
eight_bytes s = omega arith

module _ (s : List ℕ) (bytes : (k : ℕ) → get_or s k 0 < 256) (k : ℕ) where
  -- a word of m + i bytes without its lowest i is that of the first m
  upper_bytes : (m i : ℕ) → joined_bytes s k (m + i) / 2 ^ (8 * i) ≡ joined_bytes s k m
  upper_bytes m zero = ap (λ (n : ℕ). joined_bytes s k n / 1) (add-zero m) ∙ div-one (joined_bytes s k m)
  upper_bytes m (suc i) =
      let w = joined_bytes s k (m + i) in
      let b = get_or s (k + (m + i)) 0 in
      let small = bytes (k + (m + i)) in
      let longer : 8 * suc i ≡ 8 + 8 * i = omega arith in
      let more : 2 ^ (8 * suc i) ≡ 256 * 2 ^ (8 * i) = ap (λ (n : ℕ). 2 ^ n) longer ∙ pow-add 2 8 (8 * i) in
      let next : m + suc i ≡ m + i + 1 = omega arith in
      let upper : (w * 256 + b) / 256 ≡ w = omega arith in
      ap₂ (λ (x y : ℕ). x / y) (ap (joined_bytes s k) next ∙ joined_more s k (m + i)) more
      ∙ sym (div-div-eq-div-mul (w * 256 + b) 256 (2 ^ (8 * i)))
      ∙ ap (λ (x : ℕ). x / 2 ^ (8 * i)) upper
      ∙ upper_bytes m i

  -- its lowest 16 bits are the number in its last two bytes
  lowest : (m : ℕ) → joined_bytes s k (m + 1 + 1) % 65536 ≡ number_from s (k + m)
  lowest m =
      let next : k + (m + 1) ≡ k + m + 1 = omega arith in
      let above = rw next at (joined_more s k (m + 1)) in
      omega (arith, above, joined_more s k m, bytes (k + m), bytes (k + m + 1))

  -- part j from the top is the j-th of the numbers
  pub parts : (j : ℕ) → j < 4 → part_of (joined_bytes s k 8) j ≡ number_from s (k + 2 * j)
  parts j l =
      let below : 16 * (3 - j) ≡ 8 * (6 - 2 * j) = omega arith in
      let all : 8 ≡ 2 * j + 1 + 1 + (6 - 2 * j) = omega arith in
      ap₂ (λ (m n : ℕ). joined_bytes s k m / 2 ^ n % 65536) all below
      ∙ ap (λ (w : ℕ). w % 65536) (upper_bytes (2 * j + 1 + 1) (6 - 2 * j))
      ∙ lowest (2 * j)
