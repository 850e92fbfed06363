-- Montgomery's reduction with 2^16.
use Rattle.std.specs.Prelude.{ℕ, ◌+◌, ◌-◌, ◌*◌, ◌/◌, ◌%◌}

-- The product of form and a divided by 2^16, modulo p: its high half less the high half of the multiple of p that has the same low half.
-- For a factor of the number e that is e a modulo p (`factor_product` in lanes_meaning/proofs/Products).
unfoldable pub reduced_of : (p form low a : ℕ) → ℕ
reduced_of p form low a = (form * a / 65536 + (p - low * a % 65536 * p / 65536)) % p
