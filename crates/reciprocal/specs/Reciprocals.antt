-- Paper 02, item 2: the reciprocal of a number modulo p, or "no reciprocal".
use Rattle.std.specs.Prelude.{ℕ, ◌*◌, ◌%◌, eqb, Option, unwrap_or}
use Rattle.lists.specs.Search.{first_below}

-- The number below p whose product with a leaves 1 modulo p. There is at most one; none where a is 0 modulo p, and for a prime p only there.
unfoldable pub reciprocal_of : (p a : ℕ) → Option ℕ
reciprocal_of p a = first_below p (λ r. eqb (r * a % p) 1)

-- Paper 01, of the table of 257 entries: "entry times index is 1 modulo 257", with "entry 0 being 0", since 0 has no reciprocal.
abbrev pub table_entry : (index : ℕ) → ℕ
table_entry index = unwrap_or (reciprocal_of 257 index) 0
