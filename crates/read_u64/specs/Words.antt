-- Paper 02, item 4: "take four 16-bit numbers of a row from one 64-bit word".
use Rattle.std.specs.Prelude.{ℕ, zero, suc, ◌+◌, ◌-◌, ◌*◌, ◌/◌, ◌%◌, ◌^◌, List, get_or}

-- the number that m bytes from place k on make, most significant first; eight make the word
unfoldable pub joined_bytes : List ℕ → ℕ → ℕ → ℕ
joined_bytes s k zero = 0
joined_bytes s k (suc m) = joined_bytes s k m * 256 + get_or s (k + m) 0

-- "the word's four parts, from the top": of part j the 16 bits that have 3 - j parts below them
abbrev pub part_of : ℕ → ℕ → ℕ
part_of word j = word / 2 ^ (16 * (3 - j)) % 65536
